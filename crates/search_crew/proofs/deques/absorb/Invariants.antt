use Rattle.std.proofs.Common.{length}
use Rattle.search_crew.proofs.Absorbing.{Absorbs}
use Rattle.search_crew.proofs.deques.absorb.Given as goal

abbrev pub invariant-loop-thief : goal.invariant-loop-thief
invariant-loop-thief g l = Absorbs l.initial.owners.items l.owners.items l.initial.thieves.items l.thieves.items

abbrev pub decreases-loop-thief : goal.decreases-loop-thief
decreases-loop-thief g l = length l.thieves.items

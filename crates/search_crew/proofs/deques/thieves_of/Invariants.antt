use Rattle.search_crew.proofs.Dealing.{HandsOut}
use Rattle.search_crew.proofs.deques.thieves_of.Given as goal

abbrev pub invariant-loop-owner : goal.invariant-loop-owner
invariant-loop-owner g l = HandsOut l.initial.owner-items l.owner-items l.owner-index l.thieves.items

use Rattle.std.proofs.Common.{◌≡◌, ◌++◌, All, length, map}
use Rattle.cell_judge.specs.Limits.{IsOver}
use Rattle.set_search.specs.Scopes.{scope_of, scope_over}
use Rattle.set_search.proofs.skies.skies_over.Given as goal

abbrev pub decreases-parts : goal.decreases-parts
decreases-parts l = length l.parts

-- the skies so far, with those of the districts that are left, are all
abbrev pub invariant-parts : goal.invariant-parts
invariant-parts l = record {
  over : All (IsOver l.root) l.parts;
  skies : map scope_of l.skies.items ++ map (scope_over l.sun l.root) l.parts ≡ map (scope_over l.sun l.root) l.fn.parts;
}

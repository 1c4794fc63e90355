use Rattle.std.proofs.Common.{◌≡◌, ◌+◌, length}
use Rattle.cell_judge.specs.Each.{Each}
use Rattle.cell_judge.specs.Tiles.{AreNamedInRows}
use Rattle.cell_judge.proofs.tiles.large_places.Given as goal

-- the tables of the sizes before this one
abbrev pub invariant-loop-size : goal.invariant-loop-size
invariant-loop-size l = record {
  counted : l.least + length l.places.items ≡ l.size;
  named : Each (λ n. AreNamedInRows l.district l.root (l.least + n)) l.places.items;
}

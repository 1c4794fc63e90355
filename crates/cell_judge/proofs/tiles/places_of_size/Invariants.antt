use Rattle.std.proofs.Common.{◌≡◌, length}
use Rattle.cell_judge.specs.Each.{Each}
use Rattle.cell_judge.specs.Tiles.{AreNamedInRow, northward, parts}
use Rattle.cell_judge.proofs.tiles.places_of_size.Given as goal

-- the rows to the south of this one
abbrev pub invariant-loop-row : goal.invariant-loop-row
invariant-loop-row l = record {
  end : l.row-end ≡ parts (northward l.root l.district) l.size;
  counted : length l.rows.items ≡ l.row;
  named : Each (AreNamedInRow l.district l.root l.size) l.rows.items;
}

use Rattle.std.proofs.Common.{◌≡◌, length}
use Rattle.cell_judge.specs.Each.{Each}
use Rattle.cell_judge.specs.Tiles.{IsNamedFor, parts}
use Rattle.cell_judge.proofs.tiles.places_in_row.Given as goal

-- the places of the tiles to the west of this one
abbrev pub invariant-loop-column : goal.invariant-loop-column
invariant-loop-column l = record {
  end : l.column-end ≡ parts l.length l.size;
  counted : length l.places.items ≡ l.column;
  named : Each (IsNamedFor l.district l.root l.size l.row) l.places.items;
}

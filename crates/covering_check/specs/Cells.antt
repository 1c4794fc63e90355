-- Cells of a root, as a test.
use Rattle.std.specs.Prelude.{Bool, ◌&&◌, nat_le, int_le, ◌+ℤ◌}
use Rattle.cell_split.specs.declared.cell.Cell.{Cell}
use Rattle.cell_split.specs.Cells.{side}

-- the size and the ranks are a cell's
abbrev pub is_formed : Cell → Bool
is_formed c = (nat_le 4 c.size && nat_le c.size 29) && (nat_le c.first c.last && nat_le c.last 720)

-- the box and the ranks lie in the root's
abbrev pub lies_in : Cell → Cell → Bool
lies_in root c =
    ((int_le root.x c.x && int_le (c.x +ℤ side c) (root.x +ℤ side root)) && (int_le root.y c.y && int_le (c.y +ℤ side c) (root.y +ℤ side root)))
    && (nat_le root.first c.first && nat_le c.last root.last)

-- a well-formed cell of the root
unfoldable pub is_cell_of : Cell → Cell → Bool
is_cell_of root c = is_formed c && lies_in root c

-- Cells: closed boxes of places at a range of ranks. Places are in place units, 128 to a microdegree.
use Rattle.std.specs.Prelude.{◌≡◌, ◌^◌, ◌≤◌, ◌==◌, ◌&&◌, Bool, ℤ, pos, neg_ℤ, ◌+ℤ◌, ◌*ℤ◌, ◌≤ℤ◌}
use Rattle.cell_split.specs.declared.cell.Cell.{Cell}

-- the side of the box
abbrev pub side : Cell → ℤ
side c = pos (2 ^ c.size)

-- the cell's box and ranks lie in the other's
pub record LiesIn (outer c : Cell) : Type 0 where
  pub west : outer.x ≤ℤ c.x
  pub east : (c.x +ℤ side c) ≤ℤ (outer.x +ℤ side outer)
  pub south : outer.y ≤ℤ c.y
  pub north : (c.y +ℤ side c) ≤ℤ (outer.y +ℤ side outer)
  pub first : outer.first ≤ c.first
  pub last : c.last ≤ outer.last

-- a root: 4.194304 degrees either way, at all ranks, its corner within the limits of a district
pub record IsRoot (c : Cell) : Type 0 where
  pub size : c.size ≡ 29
  pub first : c.first ≡ 0
  pub last : c.last ≡ 720
  pub west : neg_ℤ (pos 46080000000) ≤ℤ c.x
  pub east : c.x ≤ℤ pos 46080000000
  pub south : neg_ℤ (pos 8320000000) ≤ℤ c.y
  pub north : c.y ≤ℤ pos 8320000000

-- the size and the ranks are a cell's
pub record IsFormed (c : Cell) : Type 0 where
  pub not_small : 4 ≤ c.size
  pub not_large : c.size ≤ 29
  pub ordered : c.first ≤ c.last
  pub in_frame : c.last ≤ 720

-- a well-formed cell of a root
pub record IsCellOf (root c : Cell) : Type 0 where
  pub formed : IsFormed c
  pub inside : LiesIn root c

-- a well-formed cell of some root
pub record IsCell (c : Cell) : Type 0 where
  pub root : Cell
  pub is_root : IsRoot root
  pub of_root : IsCellOf root c

abbrev pub is_smallest : Cell → Bool
is_smallest c = (c.size == 4) && (c.first == c.last)

-- the root over a district whose least longitude and latitude are given in microdegrees
abbrev pub root_at : ℤ → ℤ → Cell
root_at west south = record { x = pos 128 *ℤ west; y = pos 128 *ℤ south; size = 29; first = 0; last = 720 }

-- The large boxes of a root, in columns from its west side and rows from its south side. Those that begin within a
-- district's reach are asked once for the place that is named for them.
use Rattle.std.specs.Prelude.{◌≡◌, ℕ, ◌+◌, ◌-◌, ◌*◌, ◌/◌, ◌^◌, min, pos, ◌+ℤ◌, ◌-ℤ◌, ◌*ℤ◌, unsigned_abs, List, length, Option}
use Rattle.std.specs.Option.{option_map}
use Rattle.std.specs.declared.vec.Vec.{Vec}
use Rattle.plane_edges.specs.declared.points.Point.{Point}
use Rattle.ring_survey.specs.Extent.{latitudes, longitudes, greatest}
use Rattle.ring_survey.specs.Polygons.{Polygon}
use Rattle.region.specs.Named.{named}
use Rattle.plane_edges.specs.Views.{place_of}
use Rattle.cell_split.specs.declared.cell.Cell.{Cell}
use Rattle.cell_split.specs.Laws.{box_of}
use Rattle.cell_judge.specs.Each.{Each}

-- how far a district reaches from the root's corner, to the east and to the north, short of the root's other sides
abbrev pub eastward : Cell → List Polygon → ℕ
eastward root polygons = min (unsigned_abs (pos 128 *ℤ greatest (longitudes polygons) -ℤ root.x)) (2 ^ 29 - 1)

abbrev pub northward : Cell → List Polygon → ℕ
northward root polygons = min (unsigned_abs (pos 128 *ℤ greatest (latitudes polygons) -ℤ root.y)) (2 ^ 29 - 1)

-- so many parts of this size begin within a length
abbrev pub parts : ℕ → ℕ → ℕ
parts length size = length / 2 ^ size + 1

-- the tile of this size in this column and row, at all ranks
abbrev pub tile : Cell → ℕ → ℕ → ℕ → Cell
tile root size column row = record {
  x = root.x +ℤ pos (column * 2 ^ size);
  y = root.y +ℤ pos (row * 2 ^ size);
  size = size;
  first = 0;
  last = 720;
}

-- the place is the one that is named for the tile in this row and column
pub record IsNamedFor (polygons : List Polygon) (root : Cell) (size row column : ℕ) (p : Option Point) : Type 0 where
  pub is : option_map place_of p ≡ named (box_of (tile root size column row)) polygons

-- those of all tiles of a row
pub record AreNamedInRow {Z : Type 0} (polygons : List Polygon) (root : Cell) (size row : ℕ) (places : Vec (Option Point) Z) : Type 0 where
  pub complete : length places.items ≡ parts (eastward root polygons) size
  pub named : Each (IsNamedFor polygons root size row) places.items

-- of all rows of this size
pub record AreNamedInRows {Z : Type 0} (polygons : List Polygon) (root : Cell) (size : ℕ) (rows : Vec (Vec (Option Point) Z) Z) : Type 0 where
  pub complete : length rows.items ≡ parts (northward root polygons) size
  pub named : Each (AreNamedInRow polygons root size) rows.items

-- and of all sizes from the least one to the root's
pub record AreTables {Z : Type 0} (polygons : List Polygon) (root : Cell) (least : ℕ) (tables : List (Vec (Vec (Option Point) Z) Z)) : Type 0 where
  pub complete : least + length tables ≡ 30
  pub named : Each (λ n. AreNamedInRows polygons root (least + n)) tables

-- A box beyond a district's extent names no place.
use Rattle.std.proofs.Common.{◌≡◌, ℕ, ◌*◌, ◌^◌, ◌≤◌, Some, None, refl, ap, arith}
use Rattle.std.specs.Prelude.{pos, ◌+ℤ◌, ◌*ℤ◌, ◌<ℤ◌, List, Option, IsFalse, IsTrue, MatchOption}
use Rattle.std.proofs.lemmas.Int.{ints}
use Rattle.ring_survey.specs.Extent.{latitudes, longitudes, greatest}
use Rattle.ring_survey.specs.Faults.{first_fault}
use Rattle.plane_edges.specs.Plane.{IsOrdered, Box, IsIn, Place}
use Rattle.region.specs.Named.{named}
use Rattle.ring_survey.specs.Polygons.{Polygon}
use Rattle.region.specs.Rings.{is_in_district}
use Rattle.plane_edges.proofs.Products.{times_strict}
use Rattle.ring_survey.proofs.Sound.{sound}
use Rattle.region.proofs.Wholly.{names_exactly}
use Rattle.cell_split.specs.declared.cell.Cell.{Cell}
use Rattle.cell_split.specs.Cells.{IsCellOf, IsRoot}
use Rattle.cell_split.specs.Laws.{box_of}
use Rattle.cell_judge.specs.Tiles.{eastward, northward, parts, tile}
use Rattle.region.proofs.InBounds.{bounds, in_bounds}
use Rattle.cell_judge.proofs.TileLemmas.{part_beyond}

-- none is named for a box that has no place within the district's bounds
names_none : (box : Box) (polygons : List Polygon) → first_fault polygons ≡ None → IsOrdered box
    → ((p : Place) → IsIn box p → IsIn (bounds polygons) p → ⊥) → named box polygons ≡ None
names_none box polygons faultless ordered never =
    by (named box polygons) (names_exactly box polygons ordered (sound polygons faultless).closed)
  where
    by : (o : Option Place)
        → MatchOption o ((p : Place) → IsIn box p → IsFalse (is_in_district p polygons)) (λ p. IsIn box p × IsTrue (is_in_district p polygons))
        → o ≡ None
    by None h = refl
    by (Some p) h = absurd (never p h.0 (in_bounds polygons (sound polygons faultless).closed p h.0.positive h.1))

pub none_in_the_east : (box : Box) (polygons : List Polygon) → first_fault polygons ≡ None → IsOrdered box
    → (pos 128 *ℤ greatest (longitudes polygons)) <ℤ box.x0 → named box polygons ≡ None
none_in_the_east box polygons faultless ordered beyond =
    names_none box polygons faultless ordered (λ p i j.
    let past = times_strict (pos 128 *ℤ greatest (longitudes polygons)) box.x0 p.d i.positive beyond in
    omega (arith, ints, past, i.west, j.east))

pub none_in_the_north : (box : Box) (polygons : List Polygon) → first_fault polygons ≡ None → IsOrdered box
    → (pos 128 *ℤ greatest (latitudes polygons)) <ℤ box.y0 → named box polygons ≡ None
none_in_the_north box polygons faultless ordered beyond =
    names_none box polygons faultless ordered (λ p i j.
    let past = times_strict (pos 128 *ℤ greatest (latitudes polygons)) box.y0 p.d i.positive beyond in
    omega (arith, ints, past, i.south, j.north))

box_ordered : (cell : Cell) → IsOrdered (box_of cell)
box_ordered cell = record { x_ordered = omega (arith, ints); y_ordered = omega (arith, ints) }

root_side : (root : Cell) → IsRoot root → 2 ^ root.size ≡ 2 ^ 29
root_side root is = ap (λ (n : ℕ). 2 ^ n) is.size

-- a tile beyond the reach to the north
pub none_above : (polygons : List Polygon) (root cell : Cell) (column row : ℕ) → first_fault polygons ≡ None → IsRoot root → IsCellOf root cell
    → box_of cell ≡ box_of (tile root cell.size column row) → parts (northward root polygons) cell.size ≤ row
    → named (box_of cell) polygons ≡ None
none_above polygons root cell column row faultless is of_root same late =
    let y : cell.y ≡ root.y +ℤ pos (row * 2 ^ cell.size) = ap (λ (box : Box). box.y0) same in
    let past = part_beyond _ cell.size row late (omega (arith, ints, y, root_side root is, of_root.inside.north)) in
    none_in_the_north (box_of cell) polygons faultless (box_ordered cell) (omega (arith, ints, y, past))

-- and to the east
pub none_beside : (polygons : List Polygon) (root cell : Cell) (column row : ℕ) → first_fault polygons ≡ None → IsRoot root → IsCellOf root cell
    → box_of cell ≡ box_of (tile root cell.size column row) → parts (eastward root polygons) cell.size ≤ column
    → named (box_of cell) polygons ≡ None
none_beside polygons root cell column row faultless is of_root same late =
    let x : cell.x ≡ root.x +ℤ pos (column * 2 ^ cell.size) = ap (λ (box : Box). box.x0) same in
    let past = part_beyond _ cell.size column late (omega (arith, ints, x, root_side root is, of_root.inside.east)) in
    none_in_the_east (box_of cell) polygons faultless (box_ordered cell) (omega (arith, ints, x, past))

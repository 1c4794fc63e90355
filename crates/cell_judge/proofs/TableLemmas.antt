-- The tables of the places that are named for a root's tiles: how they are made, and what is read of them.
use Rattle.std.proofs.Common.{◌≡◌, ℕ, ◌+◌, ◌-◌, ◌*◌, ◌^◌, ◌<◌, ◌≤◌, List, length, get_or, sym, ap, subst, ◌∙◌, arith}
use Rattle.std.specs.Prelude.{pos, ◌+ℤ◌, Option, None}
use Rattle.std.specs.Option.{option_map}
use Rattle.std.specs.declared.vec.Vec.{Vec}
use Rattle.plane_edges.specs.declared.points.Point.{Point}
use Rattle.ring_survey.specs.Faults.{first_fault}
use Rattle.region.specs.Named.{named}
use Rattle.plane_edges.specs.Plane.{Box}
use Rattle.ring_survey.specs.Polygons.{Polygon}
use Rattle.plane_edges.specs.Views.{place_of}
use Rattle.cell_split.specs.declared.cell.Cell.{Cell}
use Rattle.cell_split.specs.Cells.{IsCellOf, IsRoot}
use Rattle.cell_split.specs.Laws.{box_of}
use Rattle.cell_judge.specs.Each.{Each}
use Rattle.cell_judge.specs.Tiles.{AreNamedInRow, AreNamedInRows, AreTables, IsNamedFor, eastward, northward, parts, tile}
use Rattle.cell_judge.proofs.EachLemmas.{read}
use Rattle.cell_judge.proofs.BeyondLemmas.{none_above, none_beside}

-- the place that is asked for a tile
pub named_for : (polygons : List Polygon) (root : Cell) (size row column count east north : ℕ) (cell : Cell) (box : Box) (p : Option Point)
    → box ≡ box_of cell
    → cell ≡ record { x = root.x +ℤ pos east; y = root.y +ℤ pos north; size = size; first = 0; last = 720 }
    → east ≡ column * 2 ^ size → north ≡ row * 2 ^ size → count ≡ column → option_map place_of p ≡ named box polygons
    → IsNamedFor polygons root size row count p
named_for polygons root size row column count east north cell box p box_is cell_is east_is north_is same is = record {
  is = is ∙ ap (λ (b : Box). named b polygons) (box_is ∙ ap box_of cell_is
      ∙ ap (λ (n : ℕ). box_of (record { x = root.x +ℤ pos n; y = root.y +ℤ pos north; size = size; first = 0; last = 720 })) east_is
      ∙ ap (λ (n : ℕ). box_of (record { x = root.x +ℤ pos (column * 2 ^ size); y = root.y +ℤ pos n; size = size; first = 0; last = 720 })) north_is
      ∙ ap (λ (n : ℕ). box_of (tile root size n row)) (sym same));
}

module _ {Z : Type 0} (polygons : List Polygon) (root cell : Cell) (column row : ℕ) where
  pub rows_read : (least : ℕ) (tables : List (Vec (Vec (Option Point) Z) Z)) (rows : Vec (Vec (Option Point) Z) Z)
      → AreTables polygons root least tables → least ≤ cell.size → cell.size ≤ 29 → rows ≡ get_or tables (cell.size - least) rows
      → AreNamedInRows polygons root cell.size rows
  rows_read least tables rows are large small is =
      let size : least + (cell.size - least) ≡ cell.size = omega arith in
      subst (λ (k : ℕ). AreNamedInRows polygons root k rows) size
      (read (λ n. AreNamedInRows polygons root (least + n)) tables (cell.size - least) rows are.named (omega (arith, are.complete)) is)

  pub row_read : (rows : Vec (Vec (Option Point) Z) Z) (list : List (Vec (Option Point) Z)) (places : Vec (Option Point) Z)
      → AreNamedInRows polygons root cell.size rows → list ≡ rows.items → row < length list → places ≡ get_or list row places
      → AreNamedInRow polygons root cell.size row places
  row_read rows list places are same inside is =
      read (AreNamedInRow polygons root cell.size) list row places (subst (Each (AreNamedInRow polygons root cell.size)) (sym same) are.named) inside is

  pub place_read : (places : Vec (Option Point) Z) (list : List (Option Point)) (p : Option Point)
      → AreNamedInRow polygons root cell.size row places → list ≡ places.items → column < length list → p ≡ get_or list column p
      → box_of cell ≡ box_of (tile root cell.size column row) → option_map place_of p ≡ named (box_of cell) polygons
  place_read places list p are same inside is box =
      (read (IsNamedFor polygons root cell.size row) list column p (subst (Each (IsNamedFor polygons root cell.size row)) (sym same) are.named) inside is).is
      ∙ ap (λ (b : Box). named b polygons) (sym box)

  -- there is none where no row or no place of a row is
  pub no_row : (rows : Vec (Vec (Option Point) Z) Z) (list : List (Vec (Option Point) Z)) (p : Option Point)
      → AreNamedInRows polygons root cell.size rows → list ≡ rows.items → length list ≤ row → first_fault polygons ≡ None → IsRoot root
      → IsCellOf root cell → box_of cell ≡ box_of (tile root cell.size column row) → p ≡ None → option_map place_of p ≡ named (box_of cell) polygons
  no_row rows list p are same beyond faultless is of_root box none =
      let late : parts (northward root polygons) cell.size ≤ row = omega (arith, beyond, are.complete, ap length same) in
      ap (option_map place_of) none ∙ sym (none_above polygons root cell column row faultless is of_root box late)

  pub no_place : (places : Vec (Option Point) Z) (list : List (Option Point)) (p : Option Point)
      → AreNamedInRow polygons root cell.size row places → list ≡ places.items → length list ≤ column → first_fault polygons ≡ None → IsRoot root
      → IsCellOf root cell → box_of cell ≡ box_of (tile root cell.size column row) → p ≡ None → option_map place_of p ≡ named (box_of cell) polygons
  no_place places list p are same beyond faultless is of_root box none =
      let late : parts (eastward root polygons) cell.size ≤ column = omega (arith, beyond, are.complete, ap length same) in
      ap (option_map place_of) none ∙ sym (none_beside polygons root cell column row faultless is of_root box late)

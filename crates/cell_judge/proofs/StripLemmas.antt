-- The strip of a number, and the box of a cell.
use Rattle.std.proofs.Common.{◌≡◌, ℕ, ◌*◌, ◌^◌, List, Some}
use Rattle.std.specs.Prelude.{ℤ, pos, ◌+ℤ◌}
use Rattle.std.specs.List.{slice_get}
use Rattle.std.proofs.lemmas.Option.{get_or_from_slice_get, slice_get_within}
use Rattle.plane_edges.specs.declared.rects.Rect.{Rect}
use Rattle.ring_survey.specs.Polygons.{Polygon}
use Rattle.region.specs.Strips.{AreStripsOf, IsStripOf, StripView}
use Rattle.plane_edges.specs.Views.{box_of as box_of_rect}
use Rattle.cell_split.specs.declared.cell.Cell.{Cell}
use Rattle.cell_split.specs.Cells.{side}
use Rattle.cell_split.specs.Laws.{box_of}

pub record IsStripAt (polygons : List Polygon) (south : ℤ) (number : ℕ) (strip : StripView) : Type 0 where
  pub low : strip.low ≡ south +ℤ pos (number * 2 ^ 23)
  pub is_strip : IsStripOf polygons strip

pub strip_at : (polygons : List Polygon) (south : ℤ) (strips : List StripView) (number : ℕ) (strip : StripView)
    → AreStripsOf polygons south strips → slice_get strips number ≡ Some strip → IsStripAt polygons south number strip
strip_at polygons south strips number strip are h =
    let at = rw (get_or_from_slice_get strips number strip strip h) at (are.all number strip (slice_get_within strips number strip h)) in
    record { low = at.0; is_strip = at.1 }

pub box_is : (r : Rect) (c : Cell) → r.x0 ≡ c.x → r.x1 ≡ c.x +ℤ side c → r.y0 ≡ c.y → r.y1 ≡ c.y +ℤ side c → box_of_rect r ≡ box_of c
box_is r c west east south north = λ i. record { x0 = west i; x1 = east i; y0 = south i; y1 = north i }

-- An edge whose own closed box misses a box is apart from it, so it names no point there.
use Rattle.std.proofs.Common.{◌≡◌, inl, inr, true, false, ◌&&◌, Option, Some, None, refl, sym, ◌∙◌}
use Rattle.std.specs.Prelude.{int_lt}
use Rattle.plane_edges.specs.Plane.{Place, Segment, Box, IsOrdered}
use Rattle.plane_edges.specs.EdgePoints.{edge_point, misses_latitudes, misses_longitudes}
use Rattle.plane_edges.specs.Laws.{NamesNoneBeyond}
use Rattle.plane_edges.proofs.Truth.{and_left, and_right, or_cases, is_lt}
use Rattle.plane_edges.proofs.Apart.{Apart, beyond_west, beyond_east, beyond_south, beyond_north}
use Rattle.plane_edges.proofs.OnEdge.{edge_met}
use Rattle.plane_edges.proofs.OffEdge.{off_apart}

pub beyond_latitudes : (box : Box) (e : Segment) → misses_latitudes box e ≡ true → Apart box e
beyond_latitudes box e h =
    elim (or_cases (int_lt e.ya box.y0 && int_lt e.yb box.y0) (int_lt box.y1 e.ya && int_lt box.y1 e.yb) h) [
      | inl a ↦ beyond_south (is_lt e.ya box.y0 (and_left (int_lt e.ya box.y0) (int_lt e.yb box.y0) a))
          (is_lt e.yb box.y0 (and_right (int_lt e.ya box.y0) (int_lt e.yb box.y0) a))
      | inr a ↦ beyond_north (is_lt box.y1 e.ya (and_left (int_lt box.y1 e.ya) (int_lt box.y1 e.yb) a))
          (is_lt box.y1 e.yb (and_right (int_lt box.y1 e.ya) (int_lt box.y1 e.yb) a))
    ]

beyond_longitudes : (box : Box) (e : Segment) → misses_longitudes box e ≡ true → Apart box e
beyond_longitudes box e h =
    elim (or_cases (int_lt e.xa box.x0 && int_lt e.xb box.x0) (int_lt box.x1 e.xa && int_lt box.x1 e.xb) h) [
      | inl a ↦ beyond_west (is_lt e.xa box.x0 (and_left (int_lt e.xa box.x0) (int_lt e.xb box.x0) a))
          (is_lt e.xb box.x0 (and_right (int_lt e.xa box.x0) (int_lt e.xb box.x0) a))
      | inr a ↦ beyond_east (is_lt box.x1 e.xa (and_left (int_lt box.x1 e.xa) (int_lt box.x1 e.xb) a))
          (is_lt box.x1 e.xb (and_right (int_lt box.x1 e.xa) (int_lt box.x1 e.xb) a))
    ]

-- an edge that is apart from a box names no point for it
pub none_apart : (box : Box) (e : Segment) → IsOrdered box → Apart box e → edge_point box e ≡ None
none_apart box e ordered apart = by (edge_point box e) refl
  where
    by : (found : Option Place) → edge_point box e ≡ found → found ≡ None
    by None h = refl
    by (Some p) h =
        let m = edge_met box e p ordered.x_ordered ordered.y_ordered h in
        let contrary : true ≡ false = sym m.on ∙ off_apart box p e m.inside apart in
        cc

pub names_none_beyond : NamesNoneBeyond
names_none_beyond box e ordered h =
    let far = elim (or_cases (misses_latitudes box e) (misses_longitudes box e) h) as (λ _. Apart box e) [
      | inl a ↦ beyond_latitudes box e a
      | inr a ↦ beyond_longitudes box e a
    ] in
    (none_apart box e ordered far, λ p i. off_apart box p e i far)

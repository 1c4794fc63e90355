-- Edges that meet a box, and a box within it.
use Rattle.std.proofs.Common.{◌≡◌, inl, inr, Bool, true, false, ◌||◌, cond, List, [], ◌∷◌, Option, Some, None, refl, sym, ap, ◌∙◌}
use Rattle.std.specs.Option.{is_some, is_none, option_or}
use Rattle.std.specs.List.{list_any}
use Rattle.std.proofs.lemmas.Bool.{false≢true}
use Rattle.plane_edges.specs.Plane.{Place, Segment, Box, IsIn, is_on, IsOrdered}
use Rattle.plane_edges.specs.EdgePoints.{edge_point, first_point, corner}
use Rattle.ring_survey.specs.Faults.{is_empty}
use Rattle.plane_edges.proofs.Truth.{or_left, or_right, or_some}
use Rattle.plane_edges.proofs.Apart.{apart}
use Rattle.plane_edges.proofs.OnEdge.{edge_met}
use Rattle.plane_edges.proofs.OffEdge.{off_apart}
use Rattle.plane_edges.proofs.Parity.{corner_ordered}
use Rattle.border_check.specs.Shares.{meets, near}

-- a box that lies within another one
pub record IsInner (box inner : Box) : Type 0 where
  pub ordered : IsOrdered inner
  pub places : (p : Place) → IsIn inner p → IsIn box p

pub inner_corner : (box inner : Box) → IsInner box inner → IsIn box (corner inner)
inner_corner box inner i = i.places (corner inner) (corner_ordered inner i.ordered)

-- what doesn't meet the box doesn't meet the inner one
pub meets_wider : (box inner : Box) (e : Segment) → IsInner box inner → meets box e ≡ false → meets inner e ≡ false
meets_wider box inner e i h = by (edge_point box e) refl h (edge_point inner e) refl
  where
    by : (found : Option Place) → edge_point box e ≡ found → is_some found ≡ false
        → (inside : Option Place) → edge_point inner e ≡ inside → is_some inside ≡ false
    by (Some q) f none inside g = cc
    by None f none None g = refl
    by None f none (Some p) g =
        let m = edge_met inner e p i.ordered.x_ordered i.ordered.y_ordered g in
        absurd (false≢true (sym (off_apart box p e (i.places p m.inside) (apart box e f)) ∙ m.on))

-- so no edge is asked but those that meet the box
pub near_near : (box inner : Box) (edges : List Segment) → IsInner box inner → near inner (near box edges) ≡ near inner edges
near_near box inner [] i = refl
near_near box inner (e ∷ rest) i = by (meets box e) refl (near_near box inner rest i)
  where
    by : (b : Bool) → meets box e ≡ b → near inner (near box rest) ≡ near inner rest
        → near inner (cond b (e ∷ near box rest) (near box rest)) ≡ cond (meets inner e) (e ∷ near inner rest) (near inner rest)
    by true h more = ap (λ (xs : List Segment). cond (meets inner e) (e ∷ xs) xs) more
    by false h more = more ∙ ap (λ b. cond b (e ∷ near inner rest) (near inner rest)) (sym (meets_wider box inner e i h))

-- no edge is left exactly where none names a place
pub none_near : (box : Box) (edges : List Segment) → is_empty (near box edges) ≡ is_none (first_point box edges)
none_near box [] = refl
none_near box (e ∷ rest) = by (edge_point box e) (none_near box rest)
  where
    by : (found : Option Place) → is_empty (near box rest) ≡ is_none (first_point box rest)
        → is_empty (cond (is_some found) (e ∷ near box rest) (near box rest)) ≡ is_none (option_or found (first_point box rest))
    by None h = h
    by (Some p) h = refl

-- the first point is in the box and on an edge
pub first_met : (box : Box) (p : Place) (edges : List Segment) → IsOrdered box → first_point box edges ≡ Some p
    → IsIn box p × (list_any (is_on p) edges ≡ true)
first_met box p [] o h = cc
first_met box p (e ∷ rest) o h =
    elim (or_some (edge_point box e) (first_point box rest) p h) [
      | inl here ↦
          let m = edge_met box e p o.x_ordered o.y_ordered here in
          (m.inside, or_left (is_on p e) (list_any (is_on p) rest) m.on)
      | inr there ↦
          let m = first_met box p rest o there in
          (m.0, or_right (is_on p e) (list_any (is_on p) rest) m.1)
    ]

-- a box that no edge meets has no place on one
pub none_on : (box : Box) (p : Place) (edges : List Segment) → IsIn box p → is_empty (near box edges) ≡ true
    → list_any (is_on p) edges ≡ false
none_on box p [] i none = refl
none_on box p (e ∷ rest) i none = by (edge_point box e) refl none (λ h. none_on box p rest i h)
  where
    by : (found : Option Place) → edge_point box e ≡ found
        → is_empty (cond (is_some found) (e ∷ near box rest) (near box rest)) ≡ true
        → (is_empty (near box rest) ≡ true → list_any (is_on p) rest ≡ false)
        → (is_on p e || list_any (is_on p) rest) ≡ false
    by (Some q) f h more = cc
    by None f h more =
        ap (λ b. b || list_any (is_on p) rest) (off_apart box p e i (apart box e f))
        ∙ more h

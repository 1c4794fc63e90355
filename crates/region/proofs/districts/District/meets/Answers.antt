use Rattle.std.proofs.Common.{List, sym, ap, ◌∙◌}
use Rattle.std.specs.List.{flat_map}
use Rattle.ring_survey.specs.Polygons.{Polygon}
use Rattle.region.specs.Rings.{polygon_edges, is_in_district}
use Rattle.plane_edges.specs.EdgePoints.{corner, first_point}
use Rattle.ring_survey.specs.Faults.{first_fault}
use Rattle.plane_edges.specs.Views.{place_of, box_of}
use Rattle.region.proofs.Wholly.{first_in, in_district_alike}
use Rattle.plane_edges.proofs.Parity.{corner_ordered}
use Rattle.ring_survey.proofs.Sound.{sound}
use Rattle.region.proofs.districts.District.meets.Goals as goal

pub returns-in-Some-clause-some : goal.returns-in-Some-clause-some
returns-in-Some-clause-some c =
    let same = c.as_slice.ensures.value ∙ c.self.view_is in
    first_in (box_of c.args.r) (place_of c.in-Some.p) c.args.self.now
    (record { x_ordered = c.args.r.x_ordered; y_ordered = c.args.r.y_ordered })
    (c.in-Some.ensures ∙ ap (λ (xs : List Polygon). first_point (box_of c.args.r) (flat_map polygon_edges xs)) same)

pub returns-then-any_contains-clause-some : goal.returns-then-any_contains-clause-some
returns-then-any_contains-clause-some c =
    let box = box_of c.args.r in
    let same = c.as_slice-2.ensures.value ∙ c.self.view_is in
    let here = rw c.corner-corner.ensures at c.if-any_contains.ensures in
    rw c.corner-corner.ensures (
      corner_ordered box (record { x_ordered = c.args.r.x_ordered; y_ordered = c.args.r.y_ordered }),
      sym (here ∙ ap (λ (xs : List Polygon). is_in_district (corner box) xs) same),
    )

pub returns-else-any_contains-clause-none : goal.returns-else-any_contains-clause-none
returns-else-any_contains-clause-none c = λ p i.
    let box = box_of c.args.r in
    let same = c.as_slice.ensures.value ∙ c.self.view_is in
    let same' = c.as_slice-2.ensures.value ∙ c.self.view_is in
    let here = rw c.corner-corner.ensures at c.if-any_contains.ensures in
    let none = c.in_default.ensures ∙ ap (λ (xs : List Polygon). first_point box (flat_map polygon_edges xs)) same in
    let closed = (sound c.args.self.now (ap first_fault (sym c.self.view_is) ∙ c.self.invariant.sound)).closed in
    in_district_alike box p c.args.self.now i closed (sym none)
    ∙ sym (here ∙ ap (λ (xs : List Polygon). is_in_district (corner box) xs) same')

use Rattle.std.proofs.Common.{◌≡◌, Some, None, sym, ◌∙◌}
use Rattle.ring_survey.specs.Vectors.{polygons_in}
use Rattle.border_check.specs.Squares.{root}
use Rattle.border_check.proofs.Drawing.{drawn, district_drawn}
use Rattle.border_check.proofs.Trees.{settled_holds, unsettled_is_open}
use Rattle.border_check.proofs.borders.first_unsettled.Goals as goal

pub open_square-requires-clause-border : goal.open_square-requires-clause-border
open_square-requires-clause-border c = rw c.as_slice.ensures.value (drawn (polygons_in c.border.inside.polygons.items) c.border.invariant)

pub open_square-requires-clause-district : goal.open_square-requires-clause-district
open_square-requires-clause-district c =
    rw c.as_slice-2.ensures.value (rw c.in-Ok.ensures (district_drawn c.args.district.now c.has_no_fault-2.ensures))

pub returns-in-Ok-open_square-clause-holds : goal.returns-in-Ok-open_square-clause-holds
returns-in-Ok-open_square-clause-holds c = λ none.
    let found = rw (c.as_slice.ensures.value, c.as_slice-2.ensures.value, c.border.view_is, c.in-Ok.ensures) at c.in-Ok-open_square.ensures in
    let same : c.in-Ok-open_square.found ≡ None = cc in
    let border = drawn c.args.border.now c.has_no_fault.ensures in
    let district = district_drawn c.args.district.now c.has_no_fault-2.ensures in
    settled_holds c.args.border.now c.args.district.now root border.closed district.closed (sym found ∙ same)

pub returns-in-Ok-open_square-clause-open : goal.returns-in-Ok-open_square-clause-open
returns-in-Ok-open_square-clause-open c = λ square some.
    let found = rw (c.as_slice.ensures.value, c.as_slice-2.ensures.value, c.border.view_is, c.in-Ok.ensures) at c.in-Ok-open_square.ensures in
    let same : c.in-Ok-open_square.found ≡ Some square = cc in
    let border = drawn c.args.border.now c.has_no_fault.ensures in
    let district = district_drawn c.args.district.now c.has_no_fault-2.ensures in
    unsettled_is_open c.args.border.now c.args.district.now root square border.closed district.closed (sym found ∙ same)

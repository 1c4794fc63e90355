use Rattle.std.proofs.Common.{ap, ◌∙◌}
use Rattle.plane_edges.specs.Plane.{Box}
use Rattle.ring_survey.specs.Vectors.{polygons_in}
use Rattle.border_check.specs.declared.squares.Square.{Square}
use Rattle.border_check.specs.Shares.{ShareView, share_of}
use Rattle.border_check.specs.Settled.{open_in, unsettled}
use Rattle.border_check.specs.Squares.{box_in}
use Rattle.border_check.proofs.Trees.{open_in_is}
use Rattle.border_check.proofs.borders.open_square.Goals as goal

pub returns : goal.returns
returns c =
    let border = polygons_in c.args.border.now in
    let district = polygons_in c.args.district.now in
    let s = c.root-square.result in
    let outer = c.in_ok-outer.ensures ∙ ap (λ (b : Box). share_of b border) c.extent_of-extent.ensures in
    let inner = c.in_ok-inner.ensures ∙ ap (λ (b : Box). share_of b district) c.extent_of-extent.ensures in
    c.in_ok-found.ensures
    ∙ ap (λ (share : ShareView). open_in share c.in_ok-inner.inner s) outer
    ∙ ap (λ (share : ShareView). open_in (share_of (box_in s) border) share s) inner
    ∙ open_in_is border district s c.requires.border.closed c.requires.district.closed
    ∙ ap (λ (t : Square). unsettled border district t) c.root-square.ensures.value

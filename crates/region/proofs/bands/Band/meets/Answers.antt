use Rattle.std.proofs.Common.{cond, Some, None, refl, ap, ◌∙◌}
use Rattle.plane_edges.specs.EdgePoints.{corner}
use Rattle.region.specs.Blocks.{AreBlocksOf}
use Rattle.region.specs.Strips.{BandView}
use Rattle.plane_edges.specs.Views.{box_of}
use Rattle.plane_edges.proofs.Truth.{or_after, or_first}
use Rattle.region.proofs.InBlocks.{named_in_blocks}
use Rattle.region.proofs.bands.Band.meets.Goals as goal

pub returns-in-Some : goal.returns-in-Some
returns-in-Some c = λ polygons is.
    let held : AreBlocksOf c.as_slice-blocks.result.now c.as_slice-edges.result.now = rw (c.as_slice-blocks.ensures.value, c.as_slice-edges.ensures.value) c.self.invariant in
    or_first _ _ _ _ c.in-Some.ensures refl
    ∙ named_in_blocks (box_of c.args.r) polygons c.args.self.now c.as_slice-blocks.result.now c.as_slice-edges.result.now
    (record { x_ordered = c.args.r.x_ordered; y_ordered = c.args.r.y_ordered }) c.requires.low c.requires.high is
    (c.as_slice-edges.ensures.value ∙ ap (λ (s : BandView). s.edges) c.self.view_is) held

pub returns-then-any_around : goal.returns-then-any_around
returns-then-any_around c = λ polygons is.
    let held : AreBlocksOf c.as_slice-blocks.result.now c.as_slice-edges.result.now = rw (c.as_slice-blocks.ensures.value, c.as_slice-edges.ensures.value) c.self.invariant in
    or_after _ _ _ c.in_default.ensures (ap Some c.corner.ensures ∙ ap (λ b. cond b (Some (corner (box_of c.args.r))) None) c.if-any_around.ensures)
    ∙ named_in_blocks (box_of c.args.r) polygons c.args.self.now c.as_slice-blocks.result.now c.as_slice-edges.result.now
    (record { x_ordered = c.args.r.x_ordered; y_ordered = c.args.r.y_ordered }) c.requires.low c.requires.high is
    (c.as_slice-edges.ensures.value ∙ ap (λ (s : BandView). s.edges) c.self.view_is) held

pub returns-else-any_around : goal.returns-else-any_around
returns-else-any_around c = λ polygons is.
    let held : AreBlocksOf c.as_slice-blocks.result.now c.as_slice-edges.result.now = rw (c.as_slice-blocks.ensures.value, c.as_slice-edges.ensures.value) c.self.invariant in
    or_after _ _ _ c.in_default.ensures (ap (λ b. cond b (Some (corner (box_of c.args.r))) None) c.if-any_around.ensures)
    ∙ named_in_blocks (box_of c.args.r) polygons c.args.self.now c.as_slice-blocks.result.now c.as_slice-edges.result.now
    (record { x_ordered = c.args.r.x_ordered; y_ordered = c.args.r.y_ordered }) c.requires.low c.requires.high is
    (c.as_slice-edges.ensures.value ∙ ap (λ (s : BandView). s.edges) c.self.view_is) held

use Rattle.std.proofs.Common.{◌+◌, take, subst, ap, ◌∙◌}
use Rattle.std.proofs.lemmas.List.Elements.{All-more, All-weaker}
use Rattle.region.specs.Blocks.{IsHeld}
use Rattle.region.proofs.InBlocks.{held_so_far}
use Rattle.region.proofs.blocks.Block.of_first.Goals as goal

pub returns-then-block-ge-MOST-clause-held : goal.returns-then-block-ge-MOST-clause-held
returns-then-block-ge-MOST-clause-held c =
    held_so_far c.loop-edge.block c.args.first.now c.args.rest.now c.loop-edge.edge-index c.loop-edge.invariant

pub loop-edge-preserved : goal.loop-edge-preserved
loop-edge-preserved c = (
  c.with-block.ensures.count ∙ ap (λ n. n + 1) c.loop-edge.invariant.0,
  c.with-block.ensures.wider c.args.first.now c.loop-edge.invariant.1,
  All-more (IsHeld c.with-block.result) c.args.rest.now c.loop-edge.edge-index c.edge-item.result c.loop-edge-test.true
      (All-weaker (IsHeld c.loop-edge.block) (IsHeld c.with-block.result) c.with-block.ensures.wider (take c.loop-edge.edge-index c.args.rest.now) c.loop-edge.invariant.2)
      (subst (IsHeld c.with-block.result) c.edge-item.is c.with-block.ensures.held),
)

pub returns-clause-held : goal.returns-clause-held
returns-clause-held c =
    held_so_far c.loop-edge.block c.args.first.now c.args.rest.now c.loop-edge.edge-index c.loop-edge.invariant

use Rattle.std.proofs.Common.{List, [], ◌≤◌, length, append-nil, arith, sym, ap, subst}
use Rattle.region.specs.declared.blocks.Block.{Block}
use Rattle.region.specs.Blocks.{AreBlocksOf}
use Rattle.region.proofs.InBlocks.{one_more, none_left}
use Rattle.region.proofs.blocks.blocks_of.Goals as goal

pub turns-preserved : goal.turns-preserved
turns-preserved c = λ more behind.
    let same = c.in-Some.ensures.cases.0 in
    let b = c.of_first-block.result in
    let few : b.count ≤ length c.turns.left.now = omega (arith, c.of_first-block.ensures.few, ap length same) in
    let held = rw (sym same) at c.of_first-block.ensures.held in
    rw c.in_ok-push.ensures.items
    (one_more c.args.edges.now c.turns.left.now c.turns.blocks.items b more c.turns.invariant
    c.of_first-block.ensures.some few held (rw c.split_at.ensures.back at behind))

pub returns : goal.returns
returns c =
    subst (λ (bs : List Block). AreBlocksOf bs c.args.edges.now) (append-nil c.turns.blocks.items)
    (c.turns.invariant [] (none_left c.turns.left.now c.in_default.ensures.cases))

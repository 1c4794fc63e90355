use Rattle.std.proofs.Common.{◌≡◌, drop}
use Rattle.region.specs.Blocks.{AreBlocksOf, cut, first_in_blocks}
use Rattle.plane_edges.specs.Views.{box_of}
use Rattle.region.proofs.scans.first_in.Given as goal

abbrev pub invariant-loop-block : goal.invariant-loop-block
invariant-loop-block l =
    AreBlocksOf (drop l.block-index l.blocks) l.left
    × (first_in_blocks (box_of l.r) (cut (drop l.block-index l.blocks) l.left) ≡ first_in_blocks (box_of l.r) (cut l.blocks l.edges))

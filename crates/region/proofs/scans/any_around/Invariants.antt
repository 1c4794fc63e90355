use Rattle.std.proofs.Common.{◌≡◌, drop, false}
use Rattle.plane_edges.specs.EdgePoints.{corner}
use Rattle.region.specs.Blocks.{AreBlocksOf, cut, is_in_some_block}
use Rattle.plane_edges.specs.Views.{box_of}
use Rattle.region.proofs.scans.any_around.Given as goal

abbrev pub invariant-loop-block : goal.invariant-loop-block
invariant-loop-block l =
    AreBlocksOf (drop l.block-index l.blocks) l.left
    × (is_in_some_block (corner (box_of l.r)) l.polygon l.odd (cut (drop l.block-index l.blocks) l.left)
    ≡ is_in_some_block (corner (box_of l.r)) 0 false (cut l.blocks l.edges))

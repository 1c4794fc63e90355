use Rattle.std.proofs.Common.{◌≡◌, ◌+◌, take}
use Rattle.std.specs.List.{All}
use Rattle.region.specs.Blocks.{IsHeld}
use Rattle.region.proofs.blocks.Block.of_first.Given as goal

abbrev pub invariant-loop-edge : goal.invariant-loop-edge
invariant-loop-edge l =
    (l.block.count ≡ l.edge-index + 1) × IsHeld l.block l.first × All (IsHeld l.block) (take l.edge-index l.rest)

use Rattle.std.proofs.Common.{List, ◌++◌, length}
use Rattle.region.specs.declared.blocks.Block.{Block}
use Rattle.region.specs.Blocks.{AreBlocksOf}
use Rattle.region.proofs.blocks.blocks_of.Given as goal

-- blocks of what is left, put behind those so far, are blocks of all
abbrev pub invariant-turns : goal.invariant-turns
invariant-turns l = (more : List Block) → AreBlocksOf more l.left → AreBlocksOf (l.blocks.items ++ more) l.edges

abbrev pub decreases-turns : goal.decreases-turns
decreases-turns l = length l.left

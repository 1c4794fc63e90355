use Rattle.std.proofs.Common.{sym}
use Rattle.method_table.proofs.RootLemmas.{floor_root-is}
use Rattle.method_table.proofs.sunset.floor_root.Goals as goal

pub returns-clause-value : goal.returns-clause-value
returns-clause-value c = sym (floor_root-is _ _ c.isqrt.ensures.square_le c.isqrt.ensures.next_square_gt)

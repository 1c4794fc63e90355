use Rattle.std.proofs.Common.{◌+◌, ◌^◌, ◌%◌, arith}
use Rattle.bound_word.proofs.Steps.{passes}
use Rattle.bound_word.proofs.words.Bound.begin.Goals as goal

pub fetch_add-requires : goal.fetch_add-requires
fetch_add-requires g c =
    let counted = c.args.self.now.counted in
    (c.requires.table, omega arith, passes g.F.Fact.fact c.args.self.now.table.shared.key (λ n. (n + 1) % 2 ^ 64) _ _ 1 0 c.args.seat.now.me _ (omega arith))

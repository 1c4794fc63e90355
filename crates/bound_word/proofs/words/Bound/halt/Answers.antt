use Rattle.std.proofs.Common.{◌^◌, bit_or, arith}
use Rattle.bound_word.proofs.Steps.{passes}
use Rattle.bound_word.proofs.words.Bound.halt.Goals as goal

pub fetch_or-requires : goal.fetch_or-requires
fetch_or-requires g c =
    let counted = c.args.self.now.counted in
    (c.requires.table, omega arith, passes g.F.Fact.fact c.args.self.now.table.shared.key (λ n. bit_or n (2 ^ 63)) _ _ (2 ^ 63) 0 c.args.seat.now.me _ (omega arith))

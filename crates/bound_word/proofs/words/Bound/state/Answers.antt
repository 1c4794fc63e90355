use Rattle.std.proofs.Common.{arith}
use Rattle.bound_word.proofs.Steps.{passes}
use Rattle.bound_word.proofs.words.Bound.state.Goals as goal

pub load-word-requires : goal.load-word-requires
load-word-requires g c =
    let counted = c.args.self.now.counted in
    (c.requires.table, omega arith, passes g.F.Fact.fact c.args.self.now.table.shared.key (λ n. n) _ _ 0 0 c.args.seat.now.me _ (omega arith))

use Rattle.std.proofs.Common.{arith}
use Rattle.bound_word.proofs.Steps.{splits}
use Rattle.bound_word.proofs.words.Bound.split.Goals as goal

pub split_seat-requires : goal.split_seat-requires
split_seat-requires g c =
    let counted = c.args.self.now.counted in
    (c.requires.table, omega arith, splits g.F.Fact.fact c.args.self.now.table.shared.key _ _)

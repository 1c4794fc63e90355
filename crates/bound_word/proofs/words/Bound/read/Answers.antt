use Rattle.std.proofs.Common.{◌<◌, arith}
use Rattle.bound_word.proofs.Steps.{reads}
use Rattle.bound_word.proofs.words.Bound.read.Goals as goal

pub load-word-requires : goal.load-word-requires
load-word-requires g c =
    let counted = c.args.self.now.counted in
    let inside : c.args.k < c.args.self.now.table.shared.key.count = omega arith in
    (c.requires.seat.table, omega arith, reads g.F.Fact.fact c.args.self.now.table.shared.key _ _ _ c.args.seat.now.me inside)

use Rattle.std.proofs.Common.{arith}
use Rattle.bound_word.proofs.Steps.{raises}
use Rattle.bound_word.proofs.words.Bound.raise.Goals as goal

pub fetch_max-requires : goal.fetch_max-requires
fetch_max-requires g c =
    let counted = c.args.self.now.counted in
    let same = c.from.ensures in
    let known : g.F.Fact.fact c.args.self.now.table.shared.key.content c.args.k c.from.result = rw same c.requires.fact in
    (c.requires.seat.table, omega arith, raises g.F.Fact.fact c.args.self.now.table.shared.key _ _ _ c.from.result c.args.seat.now.me (omega arith) (omega arith) known)

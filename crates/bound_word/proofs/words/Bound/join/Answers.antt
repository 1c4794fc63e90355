use Rattle.std.proofs.Common.{arith}
use Rattle.bound_word.proofs.Steps.{joins, greatest-append}
use Rattle.bound_word.proofs.words.Bound.join.Goals as goal

pub join_seat-requires : goal.join_seat-requires
join_seat-requires g c =
    let counted = c.args.self.now.counted in
    (c.requires.seat.table, c.requires.other.table, c.requires.other.slotless, omega arith, joins g.F.Fact.fact c.args.self.now.table.shared.key _ _ _ _)

pub returns-clause-both : goal.returns-clause-both
returns-clause-both g c = λ k. rw c.join_seat.ensures.2 (greatest-append c.args.seat.now.me.0.saw c.args.other.me.0.saw k)

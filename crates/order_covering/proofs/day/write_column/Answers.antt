use Rattle.std.proofs.Common.{List, ℕ, subst}
use Rattle.outcome.specs.Writing.{Writes}
use Rattle.order_covering.proofs.CoveringLemmas.{column_is}
use Rattle.order_covering.proofs.day.write_column.Goals as goal

pub returns-clause-writes : goal.returns-clause-writes
returns-clause-writes g c =
    let sky = c.args.judge.now.sky.now in
    let P : List ℕ → Type 0 = λ text. Writes {X = ℕ} text c.write_line.result (g.K.Sink.faults c.args.out.now)
    (g.K.Sink.faults c.write_line.new.out) (g.K.Sink.held c.args.out.now) (g.K.Sink.held c.write_line.new.out) in
    subst P (column_is c.args.form sky.sun sky.district sky.root c.args.day.now c.column_word-column.result.now c.args.date.now c.index-day-k.result c.args.k
    c.in-Ok.settled c.requires.column c.column_word-column.ensures c.in-Ok.ensures) c.write_line.ensures.writes

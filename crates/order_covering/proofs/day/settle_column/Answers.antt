use Rattle.std.proofs.Common.{map, arith}
use Rattle.days_sky.specs.Days.{rows_of_day}
use Rattle.days_sky.proofs.DayLemmas.{count_of_rows, whole_days}
use Rattle.order_table.specs.Made.{rows_of}
use Rattle.order_covering.proofs.Renumbered.{own_settled_if}
use Rattle.order_covering.proofs.day.settle_column.Goals as goal

pub settle-requires-clause-known : goal.settle-requires-clause-known
settle-requires-clause-known c =
    let days = c.args.judge.now.days.now in
    omega (arith, c.requires.column, c.requires.day.inside, count_of_rows (map rows_of_day days) (whole_days days))

pub returns : goal.returns
returns c =
    let sky = c.args.judge.now.sky.now in
    let days = c.args.judge.now.days.now in
    own_settled_if sky.sun sky.district sky.root sky.lawful.root (map rows_of_day days) (whole_days days) c.args.i (rows_of c.args.day.now)
    c.requires.day.inside c.requires.day.same c.args.k c.requires.column c.settle.result c.settle.ensures.settled

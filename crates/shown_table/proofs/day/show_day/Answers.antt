use Rattle.shown_table.proofs.DayLemmas.{bad_writes, day_stopped}
use Rattle.shown_table.proofs.day.show_day.Goals as goal

pub returns-in-Err-clause-writes : goal.returns-in-Err-clause-writes
returns-in-Err-clause-writes g c =
    bad_writes c.args.sky.now.sun c.args.sky.now.district c.args.sky.now.root c.args.day.now c.args.lines.now.number c.args.lines.now.text.now c.in-Err.bad c.ended.result _ _
    c.ended.ensures c.in-Err.ensures.shows

pub returns-in-Err-write_day-clause-writes : goal.returns-in-Err-write_day-clause-writes
returns-in-Err-write_day-clause-writes g c =
    day_stopped c.args.sky.now.sun c.args.sky.now.district c.args.sky.now.root c.args.day.now c.args.lines.now.number c.args.lines.now.text.now c.in-Ok.found.0 c.in-Ok.found.1 _
    c.in-Err-write_day.stop _ _ _ _ c.in-Ok.ensures.shows c.in-Err-write_day.ensures.writes

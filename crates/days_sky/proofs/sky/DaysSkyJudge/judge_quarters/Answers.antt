use Rattle.std.proofs.Common.{◌<◌, ◌/◌, length, map, arith}
use Rattle.std.proofs.lemmas.List.{length-map}
use Rattle.days_sky.specs.Days.{rows_of_day}
use Rattle.days_sky.proofs.DayLemmas.{count_of_rows, quarters_judged, whole_days}
use Rattle.days_sky.proofs.sky.DaysSkyJudge.judge_quarters.Goals as goal

pub bounds-self-t : goal.bounds-self-t
bounds-self-t c =
    let days = c.args.self.now.days.now in
    omega (arith, c.requires.task.known, count_of_rows (map rows_of_day days) (whole_days days), length-map days rows_of_day)

pub returns : goal.returns
returns c =
    let sky = c.args.self.now.sky.now in
    let days = c.args.self.now.days.now in
    let inside : c.args.t.problem / 7 < length days = omega (arith, c.requires.task.known, count_of_rows (map rows_of_day days) (whole_days days), length-map days rows_of_day) in
    quarters_judged sky.sun sky.district sky.root days c.args.t _ _ _ inside c.judge_quarters_for.ensures

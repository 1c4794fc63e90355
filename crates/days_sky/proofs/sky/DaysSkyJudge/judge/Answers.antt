use Rattle.std.proofs.Common.{◌<◌, ◌/◌, length, map, arith}
use Rattle.std.proofs.lemmas.List.{length-map}
use Rattle.days_sky.specs.Days.{rows_of_day}
use Rattle.days_sky.proofs.DayLemmas.{count_of_rows, judged, whole_days}
use Rattle.days_sky.proofs.sky.DaysSkyJudge.judge.Goals as goal

pub bounds-self-t : goal.bounds-self-t
bounds-self-t c =
    let days = c.args.self.now.days.now in
    omega (arith, c.requires.known, count_of_rows (map rows_of_day days) (whole_days days), length-map days rows_of_day)

pub returns : goal.returns
returns c =
    let days = c.args.self.now.days.now in
    let inside : c.args.t.problem / 7 < length days = omega (arith, c.requires.known, count_of_rows (map rows_of_day days) (whole_days days), length-map days rows_of_day) in
    let is = c.index-self-t.is in
    let at = c.index-day-k.is in
    let sky = c.args.self.now.sky.now in
    judged sky.sun sky.district days c.args.t.problem c.args.t.cell _ _ _ inside c.judge_for.ensures

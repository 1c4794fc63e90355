use Rattle.std.proofs.Common.{map, arith}
use Rattle.std.proofs.lemmas.List.{length-map}
use Rattle.days_sky.specs.Days.{rows_of_day}
use Rattle.days_sky.proofs.DayLemmas.{count_of_rows, whole_days}
use Rattle.days_sky.proofs.sky.DaysSkyJudge.problems.Goals as goal

pub returns : goal.returns
returns c =
    let days = c.args.self.now.days.now in
    omega (arith, count_of_rows (map rows_of_day days) (whole_days days), length-map days rows_of_day)

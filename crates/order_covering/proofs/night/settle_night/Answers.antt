use Rattle.std.proofs.Common.{◌≡◌, ◌∙◌, ◌∷◌, [], List, ap, map}
use Rattle.days_sky.specs.declared.day.Day.{Day}
use Rattle.days_sky.specs.declared.sky.DaysSky.{DaysSky}
use Rattle.days_sky.specs.Days.{rows_of_day}
use Rattle.method_table.specs.declared.problem.Problem.{Problem}
use Rattle.method_table.specs.Row.{Row, row_of}
use Rattle.night_portion.specs.Sun.{repeated}
use Rattle.order_covering.proofs.Renumbered.{one_settled}
use Rattle.order_covering.proofs.night.settle_night.Goals as goal

pub returns : goal.returns
returns g c =
    let sky = c.args.sky.now in
    let few = c.new-judge.result in
    let rows = repeated (map row_of c.args.night.now.problems) in
    let same : few.judge.now.sky.now ≡ sky = ap (λ (j : DaysSky). j.sky.now) c.new-judge.ensures.judge ∙ c.new-days_sky.ensures.sky in
    let day : map row_of c.new.result.problems ≡ rows = ap (λ (ps : List Problem). map row_of ps) c.new.ensures ∙ c.repeated.ensures.rows in
    let one : map rows_of_day few.judge.now.days.now ≡ rows ∷ [] =
    ap (λ (j : DaysSky). map rows_of_day j.days.now) c.new-judge.ensures.judge
    ∙ ap (λ (ds : List Day). map rows_of_day ds) c.new-days_sky.ensures.days ∙ ap (λ (rs : List Row). rs ∷ []) day in
    record {
      rise = one_settled few.count few.judge.now.sky.now sky few.judge.now.days.now rows same one 0 c.in_ok-rise.rise c.in_ok-rise.ensures.settled;
      set = one_settled few.count few.judge.now.sky.now sky few.judge.now.days.now rows same one 1 c.in_ok-set.set c.in_ok-set.ensures.settled;
    }

use Rattle.std.proofs.Common.{FitsSigned, rules, w32, map}
use Rattle.std.proofs.lemmas.Int.{to_z-of_z}
use Rattle.std.specs.Prelude.{option_map}
use Rattle.method_table.specs.Row.{row_of}
use Rattle.order_table.specs.Made.{night_of}
use Rattle.order_rule.specs.Asked.{asked_of}
use Rattle.order_table.proofs.DayLemmas.{day_is_at}
use Rattle.order_table.proofs.ready.day_at.Goals as goal

pub returns : goal.returns
returns c =
    let number : FitsSigned w32 c.day_number-number.result = search rules in
    let offset : FitsSigned w32 c.at-offset.result = search rules in
    simp to_z-of_z
    (day_is_at (asked_of c.args.order.now) c.args.i c.day_number-number.result c.at-offset.result (map row_of c.day_problems-problems.result)
    (option_map night_of c.day_night-night.result) c.day_number-number.ensures.value c.at-offset.ensures.value
    (simp to_z-of_z at c.day_problems-problems.ensures.rows) (simp to_z-of_z at c.day_night-night.ensures))

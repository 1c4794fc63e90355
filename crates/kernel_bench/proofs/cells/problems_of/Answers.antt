use Rattle.std.proofs.Common.{◌≡◌, FitsSigned, rules, w32, ℤ, pos, Bool, true, false, ◌⊎◌, inl, inr, if◌then◌else◌}
use Rattle.std.proofs.lemmas.Int.{to_z-of_z}
use Rattle.cell_judge.proofs.DayLaws.{days_are_in_limits}
use Rattle.kernel_bench.proofs.cells.problems_of.Goals as goal

one_of_two : (is_late : Bool) (interval : ℤ) → interval ≡ (if is_late then pos 120 else pos 90) → (interval ≡ pos 90) ⊎ (interval ≡ pos 120)
one_of_two true interval is = inr is
one_of_two false interval is = inl is

pub problems-requires-clause-interval_known : goal.problems-requires-clause-interval_known
problems-requires-clause-interval_known c =
    let interval : FitsSigned w32 c.interval.result = search rules in
    simp to_z-of_z (one_of_two _ c.interval.result c.interval.ensures)

pub returns : goal.returns
returns c =
    let noon : FitsSigned w32 c.noon_over-noon.result = search rules in
    let interval : FitsSigned w32 c.interval.result = search rules in
    let day : FitsSigned w32 c.args.day = c.ranges.day in
    let offset : FitsSigned w32 c.args.offset = c.ranges.offset in
    days_are_in_limits c.args.order.now.method c.args.order.now.asr c.args.day c.args.offset c.noon_over-noon.result c.args.order.now.height c.interval.result
    (record {
      not_early = c.requires.early;
      not_late = c.requires.late;
      offset_not_low = c.requires.offset.low;
      offset_not_high = c.requires.offset.high;
      noon_not_negative = c.noon_over-noon.ensures.not_negative;
      noon_below_a_day = c.noon_over-noon.ensures.below_a_day;
      not_high = c.args.order.now.low;
    })
    c.problems.result (simp to_z-of_z at c.problems.ensures)

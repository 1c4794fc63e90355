use Rattle.std.proofs.Common.{FitsSigned, arith}
use Rattle.std.specs.Int.{w32}
use Rattle.std.specs.Prelude.{pos}
use Rattle.std.proofs.lemmas.Int.{ints, to_z-of_z}
use Rattle.method_table.specs.declared.method.Asr.TheVariants.{Standard}
use Rattle.method_table.specs.declared.method.Method.TheVariants.{Mwl}
use Rattle.cell_judge.specs.DayLaws.{IsDay}
use Rattle.cell_judge.proofs.DayLaws.{days_are_in_limits}
use Rattle.sky_tests.proofs.skies.problems_of.Goals as goal

pub returns : goal.returns
returns c =
    let day : FitsSigned w32 c.args.day = c.ranges.day in
    let noon : FitsSigned w32 c.args.noon = c.ranges.noon in
    let is : IsDay c.args.day (pos 0) c.args.noon 0 = record {
      not_early = c.requires.not_early;
      not_late = c.requires.not_late;
      offset_not_low = omega (arith, ints);
      offset_not_high = omega (arith, ints);
      noon_not_negative = c.requires.not_negative;
      noon_below_a_day = c.requires.below_a_day;
      not_high = omega arith;
    } in
    days_are_in_limits Mwl Standard c.args.day (pos 0) c.args.noon 0 (pos 90) is c.problems.result (simp to_z-of_z at c.problems.ensures)

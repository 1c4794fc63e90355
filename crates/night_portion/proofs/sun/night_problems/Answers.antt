use Rattle.std.proofs.Common.{◌≡◌, [], ◌∷◌, get_or, arith, pos, to_z, of_z, w32, w64}
use Rattle.std.proofs.lemmas.Int.{ints}
use Rattle.method_table.specs.Row.{row_of}
use Rattle.night_portion.proofs.DayLemmas.{sun_in_limits}
use Rattle.night_portion.proofs.SunLemmas.{night_rows_are}
use Rattle.night_portion.proofs.sun.night_problems.Goals as goal

pub returns-clause-rows : goal.returns-clause-rows
returns-clause-rows c =
    let a = c.args in
    let range = c.horizon-low.ensures.range in
    let day : to_z w32 (of_z w32 a.day) ≡ a.day = omega (arith, ints) in
    let offset : to_z w32 (of_z w32 a.offset) ≡ a.offset = omega (arith, ints) in
    let noon : to_z w32 (of_z w32 a.noon) ≡ a.noon = omega (arith, ints) in
    let low : to_z w64 (of_z w64 c.horizon-low.result.0) ≡ c.horizon-low.result.0 = omega (arith, ints, range.not_negative, range.ordered, range.small) in
    let high : to_z w64 (of_z w64 c.horizon-low.result.1) ≡ c.horizon-low.result.1 = omega (arith, ints, range.not_negative, range.ordered, range.small) in
    night_rows_are c.problems.result a.day a.offset a.noon (pos 90) a.height c.index-problems-1.result c.index-problems-4.result (row_of c.start_of.result) c.horizon-low.result
    (rw (← day, ← offset, ← noon) c.problems.ensures) (rw (← low, ← high) c.start_of.ensures) c.horizon-low.ensures.value

pub returns-clause-limits : goal.returns-clause-limits
returns-clause-limits c =
    let a = c.args in
    let r = c.requires in
    sun_in_limits a.day a.offset a.noon a.height (record {
      not_early = r.day_not_early;
      not_late = r.day_not_late;
      offset_not_low = r.offset_not_low;
      offset_not_high = r.offset_not_high;
      noon_not_negative = r.noon_not_negative;
      noon_below_a_day = r.noon_below_a_day;
      not_high = r.height_in_range;
    })
    (c.start_of.result ∷ get_or c.problems.result 4 c.index-problems-4.result ∷ []) (returns-clause-rows c)

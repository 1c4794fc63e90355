-- The rows of the table for a day are rows that a sky can judge.
use Rattle.std.specs.Prelude.{◌≡◌, ℕ, ◌≤◌, ◌<◌, ℤ, pos, neg_ℤ, ◌≤ℤ◌, List, map}
use Rattle.method_table.specs.declared.method.Asr.{Asr}
use Rattle.method_table.specs.declared.method.Method.{Method}
use Rattle.method_table.specs.declared.problem.Problem.{Problem}
use Rattle.method_table.specs.Row.{row_of}
use Rattle.method_table.specs.Table.{rows}
use Rattle.cell_judge.specs.Limits.{AreInLimits}
use Rattle.cell_judge.specs.SkyLaws.{IsRow}
use Rattle.cell_judge.specs.Skies.{row_at}

-- a day from 1900 to 2100, the offset of its clock and its reference noon in minutes, and a height in metres
pub record IsDay (day offset noon : ℤ) (height : ℕ) : Type 0 where
  pub not_early : neg_ℤ (pos 25567) ≤ℤ day
  pub not_late : day ≤ℤ pos 47846
  pub offset_not_low : neg_ℤ (pos 720) ≤ℤ offset
  pub offset_not_high : offset ≤ℤ pos 840
  pub noon_not_negative : pos 0 ≤ℤ noon
  pub noon_below_a_day : noon ≤ℤ pos 1439
  pub not_high : height ≤ 9000

abbrev pub DaysHaveRows : Type 0
DaysHaveRows =
    (m : Method) (a : Asr) (day offset noon : ℤ) (height : ℕ) (interval : ℤ) → IsDay day offset noon height →
    (k : ℕ) → k < 7 → IsRow (row_at (rows m a day offset noon height interval) k)

abbrev pub DaysAreInLimits : Type 0
DaysAreInLimits =
    (m : Method) (a : Asr) (day offset noon : ℤ) (height : ℕ) (interval : ℤ) → IsDay day offset noon height →
    (problems : List Problem) → map row_of problems ≡ rows m a day offset noon height interval → AreInLimits problems

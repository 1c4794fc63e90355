-- What is true of nights, as sentences.
use Rattle.std.specs.Prelude.{ℕ, ◌<◌, ℤ, List}
use Rattle.solar_terms.specs.SunLaws.{SunSource}
use Rattle.method_table.specs.declared.method.Asr.{Asr}
use Rattle.method_table.specs.declared.method.Method.{Method}
use Rattle.method_table.specs.Table.{rows}
use Rattle.night_rule.specs.declared.rule.NightRule.{NightRule}
use Rattle.ring_survey.specs.Polygons.{Polygon}
use Rattle.cell_split.specs.declared.cell.Cell.{Cell}
use Rattle.cell_split.specs.declared.verdict.Entry.{Entry}
use Rattle.cell_judge.specs.DayLaws.{IsDay}
use Rattle.cell_judge.specs.Skies.{row_at}
use Rattle.cell_judge.specs.SkyLaws.{IsRow}
use Rattle.night_portion.specs.Minutes.{Night, night_of}
use Rattle.night_portion.specs.SafeNights.{AreRight, AreStarts, IsSafeNight}
use Rattle.night_portion.specs.Sun.{night_rows}

-- where the entries of a night are right, its minutes are safe
abbrev pub NightsAreSafe : Type 0
NightsAreSafe =
    (sun : SunSource) (polygons : List Polygon) (root : Cell) (rule : NightRule) (method : Method) (n : Night) →
    AreStarts n → AreRight sun polygons root n → IsSafeNight sun polygons rule method n

-- the rows of sunrise and sunset are rows that a sky can judge
abbrev pub SunHasRows : Type 0
SunHasRows =
    (day offset noon : ℤ) (height : ℕ) → IsDay day offset noon height → (k : ℕ) → k < 2 → IsRow (row_at (night_rows day offset noon height) k)

-- of a day's rows and those of its sunrise and sunset the least minutes are sought
abbrev pub DaysHaveNights : Type 0
DaysHaveNights =
    (m : Method) (a : Asr) (day offset noon : ℤ) (height : ℕ) (interval : ℤ) → IsDay day offset noon height → (entries sun_entries : List Entry) →
    AreStarts (night_of (rows m a day offset noon height interval) entries (night_rows day offset noon height) sun_entries)

-- The days of an order, and the rows that it asks for on each.
use Rattle.std.specs.Prelude.{ℤ, pos, ◌+ℤ◌, List, [], ◌∷◌, Option, None, Some}
use Rattle.method_table.specs.declared.method.Method.{Method}
use Rattle.method_table.specs.Row.{Row}
use Rattle.method_table.specs.Table.{noon_of, rows}
use Rattle.night_portion.specs.Sun.{night_rows}
use Rattle.night_rule.specs.declared.rule.NightRule.{NightRule}
use Rattle.order_rule.specs.Asked.{Asked}
use Rattle.order_rule.specs.Late.{interval_on}
use Rattle.ring_survey.specs.Extent.{greatest, least, longitudes}

-- the rows of sunrise and sunset, and what the night's minutes are made by
pub record NightRows : Type 0 where
  pub rule : NightRule
  pub method : Method
  pub rows : List Row

-- a day since 1970-01-01, its rows in the order of the columns, and those of its night, where the order has a rule
pub record DayRows : Type 0 where
  pub number : ℤ
  pub rows : List Row
  pub night : Option NightRows

-- the reference noon with this offset of the clock: that of the middle longitude
abbrev pub noon_on : Asked → ℤ → ℤ
noon_on o offset = noon_of (least (longitudes o.district)) (greatest (longitudes o.district)) offset

-- the rows of a day with this offset
unfoldable pub rows_on : Asked → ℤ → ℤ → List Row
rows_on o day offset = rows o.method o.asr day offset (noon_on o offset) o.height (interval_on o.late day)

abbrev pub night_by : Method → List Row → Option NightRule → Option NightRows
night_by method rows (Some rule) = Some (record { rule = rule; method = method; rows = rows })
night_by method rows None = None

-- those of its night
unfoldable pub night_on : Asked → ℤ → ℤ → Option NightRows
night_on o day offset = night_by o.method (night_rows day offset (noon_on o offset) o.height) o.night

abbrev pub day_with : Asked → ℤ → ℤ → DayRows
day_with o day offset = record { number = day; rows = rows_on o day offset; night = night_on o day offset }

-- the days from this one on, one for each offset
abbrev pub days_from : Asked → ℤ → List ℤ → List DayRows
days_from o day [] = []
days_from o day (offset ∷ rest) = day_with o day offset ∷ days_from o (day +ℤ pos 1) rest

abbrev pub days_of : Asked → List DayRows
days_of o = days_from o o.from_day o.offsets

-- What an order asks for: an order without the proofs of its rule.
use Rattle.std.specs.Prelude.{ℕ, ℤ, List, Option}
use Rattle.method_table.specs.declared.method.Asr.{Asr}
use Rattle.method_table.specs.declared.method.Method.{Method}
use Rattle.night_rule.specs.declared.rule.NightRule.{NightRule}
use Rattle.order_rule.specs.declared.order.Order.{Order}
use Rattle.ring_survey.specs.Polygons.{Polygon}
use Rattle.method_table.specs.declared.sun.SunChoice.{SunChoice}
use Rattle.year_table.specs.declared.zone.Zone.{Zone}

pub record Asked : Type 0 where
  -- the first day, since 1970-01-01, and how many
  pub from_day : ℤ
  pub days : ℕ
  pub method : Method
  pub asr : Asr
  pub zone : Zone
  -- one of each day, in minutes
  pub offsets : List ℤ
  -- in metres
  pub height : ℕ
  pub late : List (ℤ × ℤ)
  pub sun : SunChoice
  pub night : Option NightRule
  pub district : List Polygon

abbrev pub asked_of : Order → Asked
asked_of o =
    record {
      from_day = o.from_day;
      days = o.days;
      method = o.method;
      asr = o.asr;
      zone = o.zone;
      offsets = o.offsets;
      height = o.height;
      late = o.late;
      sun = o.sun;
      night = o.night;
      district = o.district;
    }

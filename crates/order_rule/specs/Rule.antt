-- What is true of every order.
use Rattle.std.specs.Prelude.{◌≡◌, ◌≤◌, true, pos, ◌+ℤ◌, ◌≤ℤ◌, Some, None}
use Rattle.order_rule.specs.Asked.{Asked}
use Rattle.order_rule.specs.Late.{may_be_late}
use Rattle.order_rule.specs.Offsets.{first_day, is_zone, last_day, offsets_of}
use Rattle.ring_survey.specs.Faults.{first_fault}

pub record IsOrder (o : Asked) : Type 0 where
  pub not_early : first_day ≤ℤ o.from_day
  pub not_late : (o.from_day +ℤ pos o.days) ≤ℤ (last_day +ℤ pos 1)
  pub some_days : 1 ≤ o.days
  pub few_days : o.days ≤ 366
  pub known_zone : is_zone o.zone ≡ true
  pub offset_each : offsets_of o.zone o.from_day o.days ≡ Some o.offsets
  pub low : o.height ≤ 9000
  pub late_in_range : may_be_late o.method o.late ≡ true
  pub sound : first_fault o.district ≡ None

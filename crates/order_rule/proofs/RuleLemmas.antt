-- Every order keeps the rule, since its district does.
use Rattle.std.specs.Prelude.{◌≡◌, None}
use Rattle.order_rule.specs.Asked.{asked_of}
use Rattle.order_rule.specs.Rule.{IsOrder}
use Rattle.order_rule.specs.declared.order.Order.{Order}
use Rattle.ring_survey.specs.Faults.{first_fault}

pub is_order : (o : Order) → first_fault o.district ≡ None → IsOrder (asked_of o)
is_order o sound = record {
  not_early = o.not_early;
  not_late = o.not_late;
  some_days = o.some_days;
  few_days = o.few_days;
  known_zone = o.known_zone;
  offset_each = o.offset_each;
  low = o.low;
  late_in_range = o.late_in_range;
  sound = sound;
}

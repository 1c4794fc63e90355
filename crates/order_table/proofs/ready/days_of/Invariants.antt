use Rattle.std.proofs.Common.{◌≡◌, ◌++◌, drop, map, pos}
use Rattle.std.specs.Prelude.{◌+ℤ◌}
use Rattle.order_rule.specs.Asked.{asked_of}
use Rattle.order_table.specs.Made.{day_of}
use Rattle.order_table.specs.Days.{days_from, days_of}
use Rattle.order_table.proofs.ready.days_of.Given as goal

-- the days so far, with those that are left, are all
abbrev pub invariant-loop-i : goal.invariant-loop-i
invariant-loop-i l = record {
  end : l.i-end ≡ l.order.days;
  days : map day_of l.days.items ++ days_from (asked_of l.order) (l.order.from_day +ℤ pos l.i) (drop l.i l.order.offsets) ≡ days_of (asked_of l.order);
}

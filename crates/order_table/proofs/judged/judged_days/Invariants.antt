use Rattle.std.proofs.Common.{◌≡◌, ◌++◌, drop, length, map}
use Rattle.days_sky.specs.Days.{rows_of_day}
use Rattle.order_table.specs.Made.{rows_of}
use Rattle.order_table.proofs.judged.judged_days.Given as goal

-- the days so far, with those that are left, are all
abbrev pub invariant-loop-day : goal.invariant-loop-day
invariant-loop-day l = record {
  end : l.day-index-end ≡ length l.days;
  days : map rows_of_day l.judged.items ++ map rows_of (drop l.day-index l.days) ≡ map rows_of l.days;
}

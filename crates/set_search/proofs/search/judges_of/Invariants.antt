use Rattle.std.proofs.Common.{◌≡◌, ◌++◌, drop, length, map}
use Rattle.days_sky.specs.Days.{rows_of_day}
use Rattle.set_search.specs.Searches.{judge_of, judges_over}
use Rattle.set_search.proofs.search.judges_of.Given as goal

-- the judges so far, with those of the days that are left, are all
abbrev pub invariant-loop-day : goal.invariant-loop-day
invariant-loop-day l = record {
  end : l.day-index-end ≡ length l.days;
  judges : map judge_of l.judges.items ++ judges_over l.skies (map rows_of_day (drop l.day-index l.days)) ≡ judges_over l.skies (map rows_of_day l.days);
}

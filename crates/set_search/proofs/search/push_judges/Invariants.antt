use Rattle.std.proofs.Common.{◌≡◌, ◌++◌, drop, length, map}
use Rattle.days_sky.specs.Days.{rows_of_day}
use Rattle.set_search.specs.Searches.{judge_of, judge_over}
use Rattle.set_search.proofs.search.push_judges.Given as goal

-- the judges so far, with those of the skies that are left, are all
abbrev pub invariant-loop-sky : goal.invariant-loop-sky
invariant-loop-sky l = record {
  end : l.sky-index-end ≡ length l.skies;
  judges : map judge_of l.judges.items ++ map (judge_over (rows_of_day l.day)) (drop l.sky-index l.skies)
      ≡ map judge_of l.fn.judges.items ++ map (judge_over (rows_of_day l.day)) l.skies;
}

use Rattle.std.proofs.Common.{◌≡◌, ◌≤ℤ◌, ◌*◌, map, take}
use Rattle.std.specs.Prelude.{neg_ℤ, pos, zip}
use Rattle.method_table.specs.Row.{row_of}
use Rattle.demo_summary.specs.Summary.{minutes_of, total}
use Rattle.demo_summary.proofs.tally.sum_of_day.Given as goal

-- the sum so far
abbrev pub invariant-loop-i : goal.invariant-loop-i
invariant-loop-i l = record {
  value : l.sum ≡ total minutes_of (take l.i (zip (map row_of l.problems) l.entries));
  low : neg_ℤ (pos (3000 * l.i)) ≤ℤ l.sum;
  high : l.sum ≤ℤ pos (3000 * l.i);
}

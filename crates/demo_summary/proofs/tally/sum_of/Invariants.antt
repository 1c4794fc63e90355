use Rattle.std.proofs.Common.{◌≡◌, ◌≤ℤ◌, ◌*◌, map, take}
use Rattle.std.specs.Prelude.{neg_ℤ, pos, zip}
use Rattle.method_table.specs.Row.{row_of}
use Rattle.demo_summary.specs.Summary.{minutes_of, total}
use Rattle.demo_summary.proofs.tally.sum_of.Given as goal

-- the sum of the days so far
abbrev pub invariant-loop-i : goal.invariant-loop-i
invariant-loop-i l = record {
  value : l.sum ≡ total (λ x. total minutes_of (zip (map row_of x.0.problems) x.1)) (take l.i (zip l.days l.entries));
  low : neg_ℤ (pos (21000 * l.i)) ≤ℤ l.sum;
  high : l.sum ≤ℤ pos (21000 * l.i);
}

use Rattle.std.proofs.Common.{◌≡◌, ◌≤◌, ◌*◌, take}
use Rattle.demo_summary.specs.Summary.{counted}
use Rattle.demo_summary.proofs.tally.Variant.count_of.Given as goal

-- the entries of the days so far
abbrev pub invariant-loop-entries : goal.invariant-loop-entries
invariant-loop-entries l = record {
  count : l.count ≡ counted l.self (take l.entries-index l.days);
  few : l.count ≤ 7 * l.entries-index;
}

use Rattle.std.proofs.Common.{◌≡◌, ◌≤◌, take}
use Rattle.std.specs.Prelude.{count_by}
use Rattle.demo_summary.specs.Summary.{is_of}
use Rattle.demo_summary.proofs.tally.Variant.count_in.Given as goal

-- the entries of the variant so far
abbrev pub invariant-loop-entry : goal.invariant-loop-entry
invariant-loop-entry l = record {
  count : l.count ≡ count_by (is_of l.self) (take l.entry-index l.entries);
  few : l.count ≤ l.entry-index;
}

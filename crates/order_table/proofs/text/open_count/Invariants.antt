use Rattle.std.proofs.Common.{◌≡◌, ◌≤◌, take}
use Rattle.std.specs.Prelude.{count_by}
use Rattle.order_table.specs.Table.{is_undecided}
use Rattle.order_table.proofs.text.open_count.Given as goal

-- the open entries so far
abbrev pub invariant-loop-entry : goal.invariant-loop-entry
invariant-loop-entry l = record {
  count : l.count ≡ count_by is_undecided (take l.entry-index l.entries);
  few : l.count ≤ l.entry-index;
}

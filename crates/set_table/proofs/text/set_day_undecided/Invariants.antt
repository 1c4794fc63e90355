use Rattle.std.proofs.Common.{◌≡◌, ◌≤◌, ◌*◌, map, take}
use Rattle.order_table.specs.Made.{day_of}
use Rattle.order_table.specs.Table.{days_undecided}
use Rattle.set_table.specs.Table.{part_day}
use Rattle.set_table.proofs.text.set_day_undecided.Given as goal

-- the undecided entries so far
abbrev pub invariant-loop-entries : goal.invariant-loop-entries
invariant-loop-entries l = record {
  count : l.undecided ≡ days_undecided (map (part_day (day_of l.day)) (take l.entries-index l.found));
  few : l.undecided ≤ 7 * l.entries-index;
}

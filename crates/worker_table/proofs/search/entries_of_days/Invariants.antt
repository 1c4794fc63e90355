use Rattle.std.proofs.Common.{◌≡◌, ◌++◌, All, drop, map}
use Rattle.order_table.specs.Printing.{IsPrintable}
use Rattle.worker_table.specs.Entries.{entries_on}
use Rattle.worker_table.proofs.search.entries_of_days.Given as goal

-- the entries so far, with those of the days that are left, are all
abbrev pub invariant-loop-i : goal.invariant-loop-i
invariant-loop-i l = record {
  entries : l.found.items ++ map (entries_on l.sky.sky.now.sun l.sky.sky.now.district l.sky.sky.now.root) (drop l.i l.days) ≡ map (entries_on l.sky.sky.now.sun l.sky.sky.now.district l.sky.sky.now.root) l.days;
  printable : All (All IsPrintable) l.found.items;
}

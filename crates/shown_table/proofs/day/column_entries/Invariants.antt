use Rattle.std.proofs.Common.{◌≡◌, ◌+◌, length}
use Rattle.order_table.specs.Made.{day_of}
use Rattle.shown_table.proofs.ShowingLemmas.{IsDaySoFar}
use Rattle.shown_table.proofs.day.column_entries.Given as goal

-- the entries of the columns so far are those that their lines show
abbrev pub invariant-loop-k : goal.invariant-loop-k
invariant-loop-k l = record {
  number : l.lines.number ≡ l.fn.lines.number + l.k;
  seven : length l.entries ≡ 7;
  so_far : IsDaySoFar l.sky.sun l.sky.district l.sky.root (day_of l.day) l.fn.lines.number l.fn.lines.text.now l.entries l.k l.lines.number l.lines.text.now;
}

use Rattle.std.proofs.Common.{◌≡◌, ◌≤◌, ◌*◌, map, take}
use Rattle.source_sink.specs.Outside.{Adds}
use Rattle.order_table.specs.Made.{searched}
use Rattle.order_table.specs.Table.{days_undecided}
use Rattle.order_calendar.specs.Pieces.{days_text, sheet_seen}
use Rattle.order_calendar.proofs.calendar.write_days.Given as goal

-- the events of the days so far are written, and their undecided entries counted
abbrev pub invariant-loop-i : goal.invariant-loop-i
invariant-loop-i g l = record {
  count : l.undecided ≡ days_undecided (map (searched l.sky.sun l.sky.district l.sky.root) (take l.i l.days));
  few : l.undecided ≤ 7 * l.i;
  later : g.K.Sink.faults l.fn.out ≤ g.K.Sink.faults l.out;
  written : Adds (g.K.Sink.held l.fn.out) (g.K.Sink.held l.out) (days_text (sheet_seen l.sheet) (map (searched l.sky.sun l.sky.district l.sky.root) (take l.i l.days)));
}

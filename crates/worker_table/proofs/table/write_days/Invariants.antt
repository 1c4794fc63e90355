use Rattle.std.proofs.Common.{◌≡◌, ◌≤◌, ◌*◌, map, take}
use Rattle.source_sink.specs.Outside.{Adds}
use Rattle.order_table.specs.Made.{searched}
use Rattle.order_table.specs.Table.{days_text, days_undecided}
use Rattle.worker_table.proofs.table.write_days.Given as goal

-- the lines of the days so far are written, and their undecided entries counted
abbrev pub invariant-loop-i : goal.invariant-loop-i
invariant-loop-i g l = record {
  sun : l.sky.sun ≡ l.fn.sky.sun;
  district : l.sky.district ≡ l.fn.sky.district;
  root : l.sky.root ≡ l.fn.sky.root;
  count : l.undecided ≡ days_undecided (map (searched l.fn.sky.sun l.fn.sky.district l.fn.sky.root) (take l.i l.days));
  few : l.undecided ≤ 7 * l.i;
  later : g.K.Sink.faults l.fn.out ≤ g.K.Sink.faults l.out;
  written : Adds (g.K.Sink.held l.fn.out) (g.K.Sink.held l.out) (days_text (map (searched l.fn.sky.sun l.fn.sky.district l.fn.sky.root) (take l.i l.days)));
}

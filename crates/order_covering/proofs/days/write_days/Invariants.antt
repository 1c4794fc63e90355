use Rattle.std.proofs.Common.{◌≡◌, ◌-◌, ◌≤◌, ◌*◌, length, map, take}
use Rattle.std.specs.List.{flat_map}
use Rattle.source_sink.specs.Outside.{Adds}
use Rattle.order_covering.specs.Made.{written}
use Rattle.order_table.specs.Made.{searched}
use Rattle.order_table.specs.Table.{days_undecided}
use Rattle.order_covering.proofs.days.write_days.Given as goal

-- the lines of the days so far are written, and their undecided entries counted
abbrev pub invariant-loop-at : goal.invariant-loop-at
invariant-loop-at g l = record {
  inside : l.at ≤ length l.days;
  count : l.undecided ≡ days_undecided (map (searched l.sky.sun l.sky.district l.sky.root) (take l.at l.days));
  few : l.undecided ≤ 7 * l.at;
  later : g.K.Sink.faults l.fn.out ≤ g.K.Sink.faults l.out;
  written : Adds (g.K.Sink.held l.fn.out) (g.K.Sink.held l.out) (flat_map (written l.form l.sky.sun l.sky.district l.sky.root) (take l.at l.days));
}

abbrev pub decreases-loop-at : goal.decreases-loop-at
decreases-loop-at g l = length l.days - l.at

use Rattle.std.proofs.Common.{◌≡◌, ◌≤◌, ◌*◌, ◌-◌, length, map, take}
use Rattle.source_sink.specs.Outside.{Adds}
use Rattle.set_table.specs.Made.{searched}
use Rattle.set_table.specs.Table.{set_days_text, set_days_undecided}
use Rattle.set_table.proofs.table.write_all_days.Given as goal

abbrev pub decreases-loop-begun : goal.decreases-loop-begun
decreases-loop-begun g l = length l.days - l.begun

-- the lines of the days so far are written, and their undecided entries counted
abbrev pub invariant-loop-begun : goal.invariant-loop-begun
invariant-loop-begun g l = record {
  count : l.undecided ≡ set_days_undecided (map (searched l.skies) (take l.begun l.days));
  few : l.undecided ≤ 448 * l.begun;
  within : l.begun ≤ length l.days;
  later : g.K.Sink.faults l.fn.out ≤ g.K.Sink.faults l.out;
  written : Adds (g.K.Sink.held l.fn.out) (g.K.Sink.held l.out) (set_days_text (map (searched l.skies) (take l.begun l.days)));
}

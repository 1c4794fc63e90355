use Rattle.std.proofs.Common.{◌≡◌, ◌≤◌, ◌*◌, map, take}
use Rattle.std.specs.List.{flat_map}
use Rattle.source_sink.specs.Outside.{Adds}
use Rattle.order_covering.specs.Made.{written}
use Rattle.order_table.specs.Made.{searched}
use Rattle.order_table.specs.Table.{days_undecided}
use Rattle.order_covering.proofs.days.write_found.Given as goal

-- the lines of the days so far are written, and their undecided entries counted
abbrev pub invariant-loop-i : goal.invariant-loop-i
invariant-loop-i g l =
    let sky = l.sky in
    record {
      count : l.undecided ≡ days_undecided (map (searched sky.sun sky.district sky.root) (take l.i l.days));
      few : l.undecided ≤ 7 * l.i;
      later : g.K.Sink.faults l.fn.out ≤ g.K.Sink.faults l.out;
      written : Adds (g.K.Sink.held l.fn.out) (g.K.Sink.held l.out) (flat_map (written l.form sky.sun sky.district sky.root) (take l.i l.days));
    }

use Rattle.std.proofs.Common.{◌≡◌, ◌≤◌, take}
use Rattle.std.specs.Prelude.{sum_by}
use Rattle.std.specs.List.{flat_map}
use Rattle.std.specs.String.{string_bytes}
use Rattle.source_sink.specs.Outside.{Adds}
use Rattle.order_covering.specs.Made.{counted_at, written_at}
use Rattle.order_table.specs.Trees.{columns}
use Rattle.order_covering.proofs.day.write_columns.Given as goal

-- the lines of the columns so far are written, and their undecided entries counted
abbrev pub invariant-loop-k : goal.invariant-loop-k
invariant-loop-k g l =
    let sky = l.judge.sky.now in
    record {
      count : l.undecided ≡ sum_by (counted_at sky.sun sky.district sky.root l.day) (take l.k columns);
      few : l.undecided ≤ l.k;
      later : g.K.Sink.faults l.fn.out ≤ g.K.Sink.faults l.out;
      written : Adds (g.K.Sink.held l.fn.out) (g.K.Sink.held l.out)
          (flat_map (written_at l.form sky.sun sky.district sky.root l.day (string_bytes l.date)) (take l.k columns));
    }

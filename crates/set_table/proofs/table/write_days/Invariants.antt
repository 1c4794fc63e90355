use Rattle.std.proofs.Common.{◌≡◌, ◌≤◌, ◌*◌, All, drop, map, take}
use Rattle.source_sink.specs.Outside.{Adds}
use Rattle.set_search.specs.Searches.{IsFound, entries_on_days}
use Rattle.set_table.specs.Made.{searched}
use Rattle.set_table.specs.Table.{set_days_text, set_days_undecided}
use Rattle.set_table.proofs.table.write_days.Given as goal

-- the lines of the days so far are written, their undecided entries counted, and the entries of the others left
abbrev pub invariant-loop-day : goal.invariant-loop-day
invariant-loop-day g l = record {
  left : l.left ≡ entries_on_days l.skies (drop l.day-index l.days);
  found : All (All IsFound) l.left;
  count : l.undecided ≡ set_days_undecided (map (searched l.skies) (take l.day-index l.days));
  few : l.undecided ≤ 448 * l.day-index;
  later : g.K.Sink.faults l.fn.out ≤ g.K.Sink.faults l.out;
  written : Adds (g.K.Sink.held l.fn.out) (g.K.Sink.held l.out) (set_days_text (map (searched l.skies) (take l.day-index l.days)));
}

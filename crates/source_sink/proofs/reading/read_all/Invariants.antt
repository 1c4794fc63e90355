use Rattle.std.proofs.Common.{◌≤◌, ◌+◌, ◌-◌, length, vec_len}
use Rattle.source_sink.specs.Outside.{Gives}
use Rattle.source_sink.proofs.reading.read_all.Given as goal

-- So far the source gave what was found, at most one piece more than the limit.
abbrev pub invariant-turns : goal.invariant-turns
invariant-turns g l = record {
  later : g.S.Source.faults l.fn.source ≤ g.S.Source.faults l.source;
  given : Gives (g.S.Source.left l.fn.source) (g.S.Source.left l.source) l.found.items;
  few : length l.found.items ≤ l.limit + 65_536;
}

abbrev pub decreases-turns : goal.decreases-turns
decreases-turns g l = l.limit + 1 - vec_len l.found

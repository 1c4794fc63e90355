use Rattle.std.proofs.Common.{length, ◌-◌, ◌≤◌, take}
use Rattle.source_sink.specs.Outside.{Adds}
use Rattle.source_sink.proofs.writing.write_all.Given as goal

-- So far the bytes before `at` came in.
abbrev pub invariant-turns : goal.invariant-turns
invariant-turns g l = record {
  within : l.at ≤ length l.bytes;
  later : g.K.Sink.faults l.fn.sink ≤ g.K.Sink.faults l.sink;
  written : Adds (g.K.Sink.held l.fn.sink) (g.K.Sink.held l.sink) (take l.at l.bytes);
}

abbrev pub decreases-turns : goal.decreases-turns
decreases-turns g l = length l.bytes - l.at

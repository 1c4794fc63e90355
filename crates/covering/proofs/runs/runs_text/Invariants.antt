use Rattle.std.proofs.Common.{◌≡◌, ◌+◌, ◌<◌, ◌≤◌, drop}
use Rattle.std.specs.Prelude.{string_bytes}
use Rattle.covering.proofs.Running.{AreInRuns}
use Rattle.covering.proofs.runs.runs_text.Given as goal

-- what is written, the run in use and the letters that are left are the whole
abbrev pub invariant-loop-letter : goal.invariant-loop-letter
invariant-loop-letter l = record {
  left : l.letter-items ≡ drop 1 l.letters;
  written : AreInRuns l.letters (string_bytes l.text) l.count l.run (drop l.letter-index l.letter-items);
  letter : l.run < 128;
  few : l.count ≤ l.letter-index + 1;
}

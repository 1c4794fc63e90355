use Rattle.std.proofs.Common.{◌≡◌, Some, take}
use Rattle.json_value.specs.Machine.{start}
use Rattle.exact_json.specs.Runs.{run_within}
use Rattle.json_value.specs.Seen.{seen_with}
use Rattle.exact_json.proofs.reader.read.Given as goal

abbrev pub invariant-loop-place : goal.invariant-loop-place
invariant-loop-place l = run_within start (take l.place l.bytes) ≡ Some (seen_with l.machine l.next)

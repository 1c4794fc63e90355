use Rattle.std.proofs.Common.{arith}
use Rattle.json_value.specs.Seen.{seen_with}
use Rattle.exact_json.proofs.ReaderRuns.{before, turn, stop, stop_refuses}
use Rattle.exact_json.proofs.Readings.{fault_reading}
use Rattle.exact_json.proofs.reader.read.Goals as goal

pub advance-requires-clause-ready : goal.advance-requires-clause-ready
advance-requires-clause-ready c = (before c.args.bytes.now c.loop-place.place c.loop-place.machine c.loop-place.next (omega arith) c.loop-place.invariant).is_ready

pub advance-requires-clause-short : goal.advance-requires-clause-short
advance-requires-clause-short c = (before c.args.bytes.now c.loop-place.place c.loop-place.machine c.loop-place.next (omega arith) c.loop-place.invariant).is_short

pub advance-requires-clause-formed : goal.advance-requires-clause-formed
advance-requires-clause-formed c = (before c.args.bytes.now c.loop-place.place c.loop-place.machine c.loop-place.next (omega arith) c.loop-place.invariant).is_sound

pub loop-place-preserved : goal.loop-place-preserved
loop-place-preserved c =
    turn c.args.bytes.now c.loop-place.place (seen_with c.loop-place.machine c.loop-place.next) (seen_with c.advance.new.machine c.in-Ok.next) c.loop-place.invariant (omega arith) c.in-Ok.ensures.ok

pub returns-in-Err-clause-refused : goal.returns-in-Err-clause-refused
returns-in-Err-clause-refused c = stop_refuses c.args.bytes.now c.loop-place.place (seen_with c.loop-place.machine c.loop-place.next) c.in-Err.fault c.loop-place.invariant (omega arith) c.in-Err.ensures.err

pub returns-in-Err-clause-fault : goal.returns-in-Err-clause-fault
returns-in-Err-clause-fault c = stop c.args.bytes.now c.loop-place.place (seen_with c.loop-place.machine c.loop-place.next) c.in-Err.fault c.loop-place.invariant (omega arith) c.in-Err.ensures.err

pub returns-in-Err-clause-reading : goal.returns-in-Err-clause-reading
returns-in-Err-clause-reading c =
    fault_reading c.args.bytes.now c.in-Err.fault (stop c.args.bytes.now c.loop-place.place (seen_with c.loop-place.machine c.loop-place.next) c.in-Err.fault c.loop-place.invariant (omega arith) c.in-Err.ensures.err)

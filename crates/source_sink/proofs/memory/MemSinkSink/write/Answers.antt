use Rattle.std.proofs.Common.{◌≡◌, [], sym, ap, ◌∙◌, arith, append-nil}
use Rattle.source_sink.specs.Memory.{MemHeld}
use Rattle.source_sink.proofs.Transfers.{adds_told}
use Rattle.source_sink.proofs.memory.MemSinkSink.write.Goals as goal

pub returns-then-fails-clause-writes : goal.returns-then-fails-clause-writes
returns-then-fails-clause-writes c =
    let bytes : c.args.self.now.bytes ≡ c.self.inside.bytes.items = sym (ap (λ (s : MemHeld). s.bytes) c.self.view_is) in
    let faults : c.args.self.now.plan.faults ≡ c.self.inside.calls.faults =
    sym (ap (λ (s : MemHeld). s.plan.faults) c.self.view_is) in
    record {
      later = omega (arith, c.count.ensures.later);
      case = (adds_told _ _ [] (sym (append-nil _ ∙ bytes)), omega (arith, c.count.ensures.rose c.if-fails.true));
    }

use Rattle.std.proofs.Common.{◌≡◌, drop, [], sym, ap, arith}
use Rattle.source_sink.specs.Memory.{MemLeft}
use Rattle.source_sink.proofs.Transfers.{gives_told, gives_copied}
use Rattle.source_sink.proofs.memory.MemSourceSource.read.Goals as goal

pub returns-then-fails-clause-reads : goal.returns-then-fails-clause-reads
returns-then-fails-clause-reads c =
    let left : c.args.self.now.left ≡ drop c.self.inside.at c.self.inside.bytes.items =
    sym (ap (λ (s : MemLeft). s.left) c.self.view_is) in
    let faults : c.args.self.now.plan.faults ≡ c.self.inside.calls.faults =
    sym (ap (λ (s : MemLeft). s.plan.faults) c.self.view_is) in
    record {
      later = omega (arith, c.count.ensures.later);
      case = (gives_told _ _ [] left, omega (arith, c.count.ensures.rose c.if-fails.true));
    }

pub returns-clause-reads : goal.returns-clause-reads
returns-clause-reads c =
    let left : c.args.self.now.left ≡ drop c.self.inside.at c.self.inside.bytes.items =
    sym (ap (λ (s : MemLeft). s.left) c.self.view_is) in
    let faults : c.args.self.now.plan.faults ≡ c.self.inside.calls.faults =
    sym (ap (λ (s : MemLeft). s.plan.faults) c.self.view_is) in
    record {
      later = omega (arith, c.count.ensures.later);
      case = (
        omega (arith, c.if-count-eq0.false),
        omega (arith, c.copy_front-count.ensures.count),
        gives_copied c.self.inside.bytes.items c.deref.result.now _ c.copy_front-count.new.to c.self.inside.at
            c.copy_front-count.result c.deref.ensures.value left c.copy_front-count.ensures.front,
      );
    }

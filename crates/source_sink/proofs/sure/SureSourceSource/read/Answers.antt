use Rattle.std.proofs.Common.{sym, arith}
use Rattle.source_sink.proofs.Transfers.{gives_copied}
use Rattle.source_sink.proofs.sure.SureSourceSource.read.Goals as goal

pub returns-clause-reads : goal.returns-clause-reads
returns-clause-reads c = record {
  later = omega arith;
  case = (
    omega (arith, c.if-count-eq0.false),
    omega (arith, c.copy_front-count.ensures.count),
    gives_copied c.self.inside.bytes.items c.deref.result.now _ c.copy_front-count.new.to c.self.inside.at
        c.copy_front-count.result c.deref.ensures.value (sym c.self.view_is) c.copy_front-count.ensures.front,
  );
}

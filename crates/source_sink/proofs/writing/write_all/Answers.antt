use Rattle.std.proofs.Common.{take, arith}
use Rattle.source_sink.proofs.Transfers.{adds_more, take_next, next_within}
use Rattle.source_sink.proofs.writing.write_all.Goals as goal

pub turns-preserved : goal.turns-preserved
turns-preserved g c =
    let took = c.in-Took.ensures.case in
    let n = c.in-Took.count in
    record {
      within = next_within c.args.bytes.now c.turns.at n c.turns.invariant.within took.1;
      later = omega (arith, c.in-Took.ensures.later);
      written = adds_more _ _ _ (take c.turns.at c.args.bytes.now) _ _ c.turns.invariant.written took.2
          (take_next c.args.bytes.now c.turns.at n);
    }

use Rattle.std.proofs.Common.{sym}
use Rattle.search_worker.proofs.Trees.{refuted_rank}
use Rattle.search_worker.proofs.worker.tell.Goals as goal

pub raise-requires-clause-fact : goal.raise-requires-clause-fact
raise-requires-clause-fact g c = refuted_rank g.C.Case.case c.args.leaf.now c.requires.leaf (sym c.if-refutes.ensures)

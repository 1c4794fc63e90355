use Rattle.covering.proofs.Harvested.{harvested_open_rank, harvested_rank}
use Rattle.covering.proofs.entry.entry_of.Goals as goal

pub entry_of_ranks-requires-clause-ranks : goal.entry_of_ranks-requires-clause-ranks
entry_of_ranks-requires-clause-ranks g c =
    let lawful = g.met.J.Judge.lawful c.args.judge.now in
    record {
      greatest_refuted = (harvested_rank _ c.args.k _ _ _ lawful c.requires.known c.requires.harvest c.refuted_rank-refuted.ensures).ordinal;
      greatest_open = harvested_open_rank _ c.args.k _ _ _ _ lawful c.requires.known c.requires.harvest c.refuted_rank-refuted.ensures c.open_rank-left_open.ensures;
    }

use Rattle.demo_summary.proofs.TallyLemmas.{count_is}
use Rattle.demo_summary.proofs.summary.write_summary.Goals as goal

pub returns-clause-count : goal.returns-clause-count
returns-clause-count g c = count_is c.args.number c.in-Ok.tally _ c.in-Ok.ensures c.write_text.ensures.count

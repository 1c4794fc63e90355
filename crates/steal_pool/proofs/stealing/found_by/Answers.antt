use Rattle.std.proofs.Common.{subst}
use Rattle.bound_word.specs.Bounds.{seen}
use Rattle.cell_split.specs.Judges.{IsLawful}
use Rattle.steal_pool.proofs.Finding.{found}
use Rattle.steal_pool.proofs.stealing.found_by.Goals as goal

pub returns : goal.returns
returns g c = λ owes.
    let case = g.C.Case.case in
    let joined = c.args.joined in
    let ranks = c.in_ok-ranks.ensures in
    let lawful = subst IsLawful c.requires.case (g.met.J.Judge.lawful c.args.judge.now) in
    found case (g.S.Store.keeps case.problems joined.store) (seen joined.seat) c.in_ok-ranks.ranks.items lawful owes ranks.counted ranks.seen ranks.facts

use Rattle.std.proofs.Common.{◌∙◌}
use Rattle.district_set.proofs.SetLemmas.{asked, quarters_asked}
use Rattle.district_set.proofs.sky.SetSkyJudge.judge_quarters.Goals as goal

pub judge_quarters-requires-clause-task : goal.judge_quarters-requires-clause-task
judge_quarters-requires-clause-task g c =
    let set = c.args.self.now in asked g.J.Judge.content set.skies.now c.args.t c.index-self-t.result set.alike c.requires.task

pub returns : goal.returns
returns g c =
    let set = c.args.self.now in
    c.judge_quarters.ensures ∙ quarters_asked g.J.Judge.content set.skies.now c.args.t c.index-self-t.result c.requires.task

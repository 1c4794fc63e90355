use Rattle.district_set.proofs.SetLemmas.{asked}
use Rattle.district_set.proofs.sky.SetSkyJudge.judge.Goals as goal

pub judge-requires : goal.judge-requires
judge-requires g c =
    let set = c.args.self.now in asked g.J.Judge.content set.skies.now c.args.t c.index-self-t.result set.alike c.requires

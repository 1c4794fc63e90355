use Rattle.meeus_terms.specs.Suns.{grid_sun_of}
use Rattle.method_table.specs.Row.{row_of}
use Rattle.cell_judge.proofs.JudgeLemmas.{judged, judged_outside}
use Rattle.cell_judge.proofs.sky.Sky.judge_for.Goals as goal

pub returns-in-Some : goal.returns-in-Some
returns-in-Some c =
    judged (grid_sun_of c.args.self.now.sun) (row_of c.args.problem.now) c.args.self.now.district c.args.cell.now c.in-Some.p _ c.in-Some.ensures c.verdict_for.ensures

pub returns-in-None : goal.returns-in-None
returns-in-None c = judged_outside (grid_sun_of c.args.self.now.sun) _ c.args.self.now.district c.args.cell.now c.in-None.ensures

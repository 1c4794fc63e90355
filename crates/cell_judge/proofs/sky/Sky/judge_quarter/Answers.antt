use Rattle.std.proofs.Common.{refl}
use Rattle.meeus_terms.specs.Suns.{grid_sun_of}
use Rattle.method_table.specs.Row.{row_of}
use Rattle.cell_judge.proofs.JudgeLemmas.{judged, judged_outside, made_verdict}
use Rattle.cell_judge.proofs.sky.Sky.judge_quarter.Goals as goal

pub returns-in-Some : goal.returns-in-Some
returns-in-Some c =
    let row = row_of c.args.problem.now in
    let cell = c.args.cell.now in
    let grid = grid_sun_of c.args.self.now.sun in
    judged grid row c.args.self.now.district cell c.in-Some.p _ c.in-Some.ensures
    (made_verdict grid row cell c.in-Some.p _ _ _ _ c.judged.ensures (c.value_over.ensures grid c.requires.sun) c.requires.minutes refl)

pub returns-in-None : goal.returns-in-None
returns-in-None c = judged_outside (grid_sun_of c.args.self.now.sun) _ c.args.self.now.district c.args.cell.now c.in-None.ensures

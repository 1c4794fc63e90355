use Rattle.method_table.specs.Row.{row_of}
use Rattle.meeus_terms.specs.Suns.{grid_sun_of}
use Rattle.cell_judge.proofs.JudgeLemmas.{made_verdict}
use Rattle.cell_judge.proofs.judge.verdict_for.Goals as goal

pub returns : goal.returns
returns c =
    made_verdict (grid_sun_of c.args.sun) (row_of c.args.problem.now) c.args.cell.now c.args.p _ _ _ _
    c.verdict_at.ensures c.value-value.ensures c.minutes_at-minutes.ensures c.places_at.ensures

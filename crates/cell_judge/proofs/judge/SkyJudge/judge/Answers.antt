use Rattle.std.proofs.Common.{ap, ◌∙◌, arith}
use Rattle.std.proofs.lemmas.List.{length-map}
use Rattle.meeus_terms.specs.Suns.{grid_sun_of}
use Rattle.method_table.specs.Row.{Row, row_of}
use Rattle.cell_judge.specs.Skies.{verdict_on}
use Rattle.cell_judge.proofs.JudgeLemmas.{read_row}
use Rattle.cell_judge.proofs.judge.SkyJudge.judge.Goals as goal

pub returns : goal.returns
returns c =
    let sky = c.args.self.now in
    c.judge_for.ensures
    ∙ ap (λ (row : Row). verdict_on (grid_sun_of sky.sun) row sky.district c.args.t.cell)
    (read_row sky.problems c.args.t.problem c.index-self-k.result (omega (arith, length-map sky.problems row_of, c.requires.known)))

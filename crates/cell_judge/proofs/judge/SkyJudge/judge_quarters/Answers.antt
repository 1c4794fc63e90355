use Rattle.std.proofs.Common.{ap, map, sym, ◌∙◌, arith}
use Rattle.std.proofs.lemmas.List.{length-map}
use Rattle.std.proofs.lemmas.Simd.{map-map}
use Rattle.meeus_terms.specs.Suns.{grid_sun_of}
use Rattle.method_table.specs.Row.{Row, row_of}
use Rattle.cell_split.specs.Split.{children_of}
use Rattle.cell_split.specs.Tree.{task_of}
use Rattle.cell_judge.specs.Skies.{sky_content, verdict_on}
use Rattle.cell_judge.proofs.JudgeLemmas.{read_row}
use Rattle.cell_judge.proofs.judge.SkyJudge.judge_quarters.Goals as goal

pub returns : goal.returns
returns c =
    let sky = c.args.self.now in
    let t = c.args.t in
    c.judge_quarters_for.ensures
    ∙ (ap (λ (row : Row). map (verdict_on (grid_sun_of sky.sun) row sky.district) (children_of t.cell))
    (read_row sky.problems t.problem c.index-self-k.result (omega (arith, length-map sky.problems row_of, c.requires.task.known)))
    ∙ sym (map-map (sky_content sky.sun sky.district (map row_of sky.problems) sky.root).verdict (task_of t.problem) (children_of t.cell)))

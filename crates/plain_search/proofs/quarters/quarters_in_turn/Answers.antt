use Rattle.std.proofs.Common.{map, subst}
use Rattle.std.specs.List.Sorted.{IsPermutation}
use Rattle.std.proofs.lemmas.List.Sorted.{All-permutation, IsPermutation-map}
use Rattle.cell_split.specs.declared.cell.Cell.{Cell}
use Rattle.std.specs.Prelude.{List}
use Rattle.plain_search.specs.declared.quarters.Quarter.{Quarter}
use Rattle.plain_search.specs.Quarters.{IsJudged}
use Rattle.plain_search.proofs.quarters.quarters_in_turn.Goals as goal

pub returns-clause-cells : goal.returns-clause-cells
returns-clause-cells g c =
    let cell : Quarter → Cell = λ q. q.cell in
    let sorted = map cell c.sort_unstable_by_key.new.self in
    subst (λ (cells : List Cell). IsPermutation cells sorted) c.quarters_of-quarters.ensures.cells
    (IsPermutation-map cell c.quarters_of-quarters.result c.sort_unstable_by_key.new.self c.sort_unstable_by_key.ensures.permutation)

pub returns-clause-verdicts : goal.returns-clause-verdicts
returns-clause-verdicts g c =
    All-permutation (IsJudged (g.J.Judge.content c.args.judge.now) c.args.task.problem) c.quarters_of-quarters.result c.sort_unstable_by_key.new.self
    c.sort_unstable_by_key.ensures.permutation c.quarters_of-quarters.ensures.verdicts

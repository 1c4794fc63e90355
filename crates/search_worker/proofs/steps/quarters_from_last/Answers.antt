use Rattle.std.proofs.lemmas.List.Sorted.{IsPermutation-map, IsPermutation-trans}
use Rattle.cell_split.specs.declared.cell.Cell.{Cell}
use Rattle.plain_search.specs.declared.quarters.Quarter.{Quarter}
use Rattle.search_worker.proofs.steps.quarters_from_last.Goals as goal

pub returns-then-is_reversed-clause-cells : goal.returns-then-is_reversed-clause-cells
returns-then-is_reversed-clause-cells g c =
    let cell : Quarter → Cell = λ q. q.cell in
    IsPermutation-trans _ _ _ c.quarters_in_turn-quarters.ensures.cells (IsPermutation-map cell c.quarters_in_turn-quarters.result c.reverse.new.self c.reverse.ensures.permutation)

use Rattle.std.proofs.Common.{ap, get_or, ◌∙◌}
use Rattle.cell_split.specs.declared.cell.Children.{Children}
use Rattle.cell_split.proofs.SplitLemmas.{quartered}
use Rattle.cell_judge.proofs.quarters.quarters_of.Goals as goal

pub returns-clause-south_west : goal.returns-clause-south_west
returns-clause-south_west c = ap (λ (s : Children). get_or s.cells 0 _) (c.children.ensures.value ∙ quartered c.args.cell.now c.requires.quartered)

pub returns-clause-south_east : goal.returns-clause-south_east
returns-clause-south_east c = ap (λ (s : Children). get_or s.cells 1 _) (c.children.ensures.value ∙ quartered c.args.cell.now c.requires.quartered)

pub returns-clause-north_west : goal.returns-clause-north_west
returns-clause-north_west c = ap (λ (s : Children). get_or s.cells 2 _) (c.children.ensures.value ∙ quartered c.args.cell.now c.requires.quartered)

pub returns-clause-north_east : goal.returns-clause-north_east
returns-clause-north_east c = ap (λ (s : Children). get_or s.cells 3 _) (c.children.ensures.value ∙ quartered c.args.cell.now c.requires.quartered)

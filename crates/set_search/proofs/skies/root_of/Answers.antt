use Rattle.std.proofs.Common.{All, subst, sym}
use Rattle.cell_split.specs.declared.cell.Cell.{Cell}
use Rattle.cell_judge.specs.Limits.{IsOver}
use Rattle.set_search.proofs.ExtentLemmas.{root_over_all}
use Rattle.set_search.proofs.skies.root_of.Goals as goal

pub returns-clause-over : goal.returns-clause-over
returns-clause-over c =
    let P : Cell → Type 0 = λ root. All (IsOver root) c.args.parts.now in
    subst P (sym c.root_over.ensures.value) (root_over_all c.args.whole.now c.args.parts.now c.has_no_fault.ensures c.requires)

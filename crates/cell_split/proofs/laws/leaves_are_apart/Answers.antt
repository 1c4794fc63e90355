use Rattle.std.specs.Prelude.{◌≢◌}
use Rattle.cell_split.specs.Laws.{AreApart}
use Rattle.cell_split.specs.Tree.{leaves, root_task}
use Rattle.cell_split.proofs.Every.{AllPairs-from_pairs}
use Rattle.cell_split.proofs.LeafLemmas.{leaves_once, root_is_task}
use Rattle.cell_split.proofs.laws.leaves_are_apart.Goals as goal

pub returns : goal.returns
returns c content law problem known =
    AllPairs-from_pairs (λ k l. AreApart k.task.cell l.task.cell × (k ≢ l)) (leaves content (root_task content problem))
    (leaves_once content (root_task content problem) (root_is_task content law problem known))

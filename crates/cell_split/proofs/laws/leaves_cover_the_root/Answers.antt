use Rattle.cell_split.specs.Laws.{Covers}
use Rattle.cell_split.specs.Tree.{leaves, root_task}
use Rattle.cell_split.proofs.Every.{Any-from_somewhere}
use Rattle.cell_split.proofs.LeafLemmas.{leaves_cover, root_is_task}
use Rattle.cell_split.proofs.laws.leaves_cover_the_root.Goals as goal

pub returns : goal.returns
returns c content law problem known place rank h =
    Any-from_somewhere (λ l. Covers place rank l.task.cell) (leaves content (root_task content problem))
    (leaves_cover content law (root_task content problem) (root_is_task content law problem known) place rank h)

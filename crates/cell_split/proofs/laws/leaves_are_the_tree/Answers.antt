use Rattle.std.proofs.Common.{ℕ, subst}
use Rattle.std.specs.Prelude.{Contains}
use Rattle.std.proofs.lemmas.List.Elements.{All-from_recursion}
use Rattle.cell_split.specs.Tree.{IsLeafOf, leaves, root_task, top}
use Rattle.cell_split.proofs.LeafLemmas.{leaves_in_tree, tree_leaf}
use Rattle.cell_split.proofs.laws.leaves_are_the_tree.Goals as goal

pub returns : goal.returns
returns c content problem known = (
  All-from_recursion (IsLeafOf content) (leaves content (root_task content problem)) (leaves_in_tree content (root_task content problem) (top problem known)),
  λ l h same. subst (λ (k : ℕ). Contains (leaves content (root_task content k)) l) same (tree_leaf content l h),
)

-- The tree of a problem: the root's cell, and the children of each cell that the judge splits.
use Rattle.std.specs.Prelude.{◌≡◌, ℕ, zero, suc, ◌+◌, ◌-◌, ◌<◌, true, false, if◌then◌else◌, List, [], ◌∷◌, ◌++◌, map, Contains, flat_map}
use Rattle.cell_split.specs.declared.cell.Cell.{Cell}
use Rattle.cell_split.specs.declared.cell.Task.{Task}
use Rattle.cell_split.specs.declared.verdict.Leaf.{Leaf}
use Rattle.cell_split.specs.Judges.{Content}
use Rattle.cell_split.specs.Split.{children_of}
use Rattle.cell_split.specs.Verdicts.{is_split}

abbrev pub task_of : ℕ → Cell → Task
task_of problem cell = record { problem = problem; cell = cell }

abbrev pub root_task : Content → ℕ → Task
root_task c problem = task_of problem c.root

-- the children of a task, in tree order
abbrev pub child_tasks : Task → List Task
child_tasks t = map (task_of t.problem) (children_of t.cell)

abbrev pub leaf_of : Content → Task → Leaf
leaf_of c t = record { task = t; verdict = c.verdict t }

-- the tree, whether or not a search visits all of it
pub data InTree (c : Content) : Task → Type 0 where
  top : (problem : ℕ) → problem < c.problems → InTree c (root_task c problem)
  below : (t u : Task) → InTree c t → is_split (c.verdict t) ≡ true → Contains (child_tasks t) u → InTree c u

-- a task of the tree that isn't split, with its verdict
pub record IsLeafOf (c : Content) (l : Leaf) : Type 0 where
  pub in_tree : InTree c l.task
  pub judged : l.verdict ≡ c.verdict l.task
  pub whole : is_split l.verdict ≡ false

-- it falls at every child, so the tree ends
abbrev pub levels : Cell → ℕ
levels c = suc (c.size + (c.last - c.first))

-- the leaves below a task in tree order, down to a number of levels
unfoldable pub leaves_to : ℕ → Content → Task → List Leaf
leaves_to zero c t = []
leaves_to (suc n) c t =
    if is_split (c.verdict t) then flat_map (leaves_to n c) (child_tasks t) else leaf_of c t ∷ []

-- the leaves below a task in tree order
unfoldable pub leaves : Content → Task → List Leaf
leaves c t = leaves_to (levels t.cell) c t

-- the leaves of all problems
abbrev pub all_leaves_to : ℕ → Content → List Leaf
all_leaves_to zero c = []
all_leaves_to (suc k) c = all_leaves_to k c ++ leaves c (root_task c k)

abbrev pub all_leaves : Content → List Leaf
all_leaves c = all_leaves_to c.problems c

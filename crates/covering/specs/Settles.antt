-- What is settled of the tree of one problem.
use Rattle.std.specs.Prelude.{◌≡◌, ℕ, List}
use Rattle.cell_split.specs.declared.verdict.Leaf.{Leaf}
use Rattle.cell_split.specs.Entries.{entry_of, open_ordinal, refuted_ordinal}
use Rattle.cell_split.specs.Judges.{Content}
use Rattle.cell_split.specs.Tree.{leaves, root_task}
use Rattle.covering.specs.declared.settled.Settled.{Settled}
use Rattle.covering.specs.Letters.{letters_of}
use Rattle.covering.specs.Refuted.{first_refuted, rank_of}

-- the leaves of a problem's tree, whether or not a search visits them
abbrev pub leaves_of : Content → ℕ → List Leaf
leaves_of c problem = leaves c (root_task c problem)

-- the ordinal of its greatest refuted rank
abbrev pub refuted_ordinal_of : Content → ℕ → ℕ
refuted_ordinal_of c problem = refuted_ordinal (leaves_of c problem)

-- the ordinal of its greatest open rank above that
abbrev pub open_ordinal_of : Content → ℕ → ℕ
open_ordinal_of c problem = open_ordinal (refuted_ordinal_of c problem) (leaves_of c problem)

pub record IsSettled (c : Content) (problem : ℕ) (s : Settled) : Type 0 where
  pub entry : s.entry ≡ entry_of (leaves_of c problem)
  pub rank : s.r ≡ rank_of (refuted_ordinal_of c problem)
  pub letters : s.letters ≡ letters_of c (refuted_ordinal_of c problem) (root_task c problem)
  pub refuted : s.refuted ≡ first_refuted (refuted_ordinal_of c problem) (leaves_of c problem)

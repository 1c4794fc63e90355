use Rattle.cell_split.specs.Laws.{AreApart}
use Rattle.cell_split.specs.Split.{children_of}
use Rattle.cell_split.proofs.Every.{AllPairs-from_pairs}
use Rattle.cell_split.proofs.SplitLemmas.{children_apart}
use Rattle.cell_split.proofs.laws.children_are_apart.Goals as goal

pub returns : goal.returns
returns c cell h = AllPairs-from_pairs AreApart (children_of cell) (children_apart cell h.of_root.formed)

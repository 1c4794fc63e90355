use Rattle.std.proofs.lemmas.List.Elements.{All-from_recursion}
use Rattle.cell_split.specs.Laws.{IsChildOf}
use Rattle.cell_split.specs.Split.{children_of}
use Rattle.cell_split.proofs.LeafLemmas.{children_are}
use Rattle.cell_split.proofs.laws.children_lie_in_their_parent.Goals as goal

pub returns : goal.returns
returns c root cell h = All-from_recursion (IsChildOf root cell) (children_of cell) (children_are root cell h)

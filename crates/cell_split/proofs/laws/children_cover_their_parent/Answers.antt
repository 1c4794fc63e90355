use Rattle.cell_split.specs.Laws.{Covers}
use Rattle.cell_split.specs.Split.{children_of}
use Rattle.cell_split.proofs.Every.{Any-from_somewhere}
use Rattle.cell_split.proofs.SplitLemmas.{children_cover}
use Rattle.cell_split.proofs.laws.children_cover_their_parent.Goals as goal

pub returns : goal.returns
returns c cell h many place rank k =
    Any-from_somewhere (Covers place rank) (children_of cell) (children_cover cell h.of_root.formed many place rank k)

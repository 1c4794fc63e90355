use Rattle.std.proofs.Common.{◌≡◌, ◌-◌, ◌*◌}
use Rattle.cell_split.specs.Split.{children_of}
use Rattle.cell_split.specs.Tree.{levels}
use Rattle.plain_search.specs.Harvests.{ordinal_of}
use Rattle.covering.proofs.Spelling.{AreWritten}
use Rattle.covering.proofs.letter_walk.+writes.Given as goal

abbrev pub decreases-write_letters : goal.decreases-write_letters
decreases-write_letters g l = 2 * levels l.task.cell

abbrev pub decreases-write_letters_below : goal.decreases-write_letters_below
decreases-write_letters_below g l = 2 * levels l.task.cell - 1

-- the letters below the children before this one are written
abbrev pub invariant-write_letters_below-loop-cell : goal.invariant-write_letters_below-loop-cell
invariant-write_letters_below-loop-cell g l = record {
  children : l.cell-items ≡ children_of l.task.cell;
  written : AreWritten (g.J.Judge.content l.judge) (ordinal_of l.refuted) l.task l.cell-items l.cell-index l.initial.letters.items l.letters.items;
}

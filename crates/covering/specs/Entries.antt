-- What every entry of a tree keeps.
use Rattle.std.specs.Prelude.{◌≡◌, ℕ, ◌+◌, ◌<◌, ◌≤◌, true}
use Rattle.cell_split.specs.declared.cell.Cell.{Cell}
use Rattle.cell_split.specs.declared.verdict.Entry.{Entry}
use Rattle.cell_split.specs.declared.verdict.Entry.TheVariants.{Minute, Whole, Never, Open}
use Rattle.cell_split.specs.Cells.{IsCellOf, is_smallest}

-- an open entry: a smallest cell of the root, at the rank before the safe ones, which is not before `from`
pub record IsOpenIn (root : Cell) (safe from : ℕ) (cell : Cell) : Type 0 where
  pub in_frame : safe ≤ 721
  pub ordered : from < safe
  pub of_root : IsCellOf root cell
  pub smallest : is_smallest cell ≡ true
  pub rank : cell.last + 1 ≡ safe

-- the entry's ranks are a frame's, and its cell is the root's
abbrev pub IsEntryIn : Cell → Entry → Type 0
IsEntryIn root (Minute rank) = (0 < rank) × (rank ≤ 720)
IsEntryIn root Whole = Unit {0}
IsEntryIn root Never = Unit {0}
IsEntryIn root (Open safe from cell) = IsOpenIn root safe from cell

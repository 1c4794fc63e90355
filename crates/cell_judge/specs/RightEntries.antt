-- When an entry of the table is right: what it says of every rational place of the district at every minute to its frame's end.
use Rattle.std.specs.Prelude.{◌≡◌, ℕ, ◌+◌, ◌-◌, ◌≤◌, ◌<◌, true}
use Rattle.plane_edges.specs.Plane.{Place, IsIn}
use Rattle.cell_split.specs.declared.cell.Cell.{Cell}
use Rattle.cell_split.specs.declared.verdict.Entry.{Entry}
use Rattle.cell_split.specs.declared.verdict.Entry.TheVariants.{Minute, Whole, Never, Open}
use Rattle.cell_split.specs.Cells.{IsCellOf, is_smallest}
use Rattle.cell_split.specs.Laws.{box_of}
use Rattle.cell_judge.specs.Scenes.{Scene, IsPlaceOf, HoldsAt, FailsAt, IsNearAt}

-- the condition holds at every place of the district at every rank from this one to the last
pub record IsSafeFrom (s : Scene) (rank : ℕ) : Type 0 where
  pub holds : (p : Place) → IsPlaceOf s p → (later : ℕ) → rank ≤ later → later ≤ 720 → HoldsAt s p later

-- at some place of the district the condition fails at this rank
pub record FailsSomewhere (s : Scene) (rank : ℕ) : Type 0 where
  pub place : Place
  pub is_place : IsPlaceOf s place
  pub fails : FailsAt s place rank

-- the least rank from which every rank is safe: one rank earlier some place fails
pub record IsLeastSafe (s : Scene) (rank : ℕ) : Type 0 where
  pub not_first : 1 ≤ rank
  pub in_frame : rank ≤ 720
  pub safe : IsSafeFrom s rank
  pub before : FailsSomewhere s (rank - 1)

-- the smallest cell at the rank before `safe` has a place of the district where the value is within the tolerance
pub record IsUndecidedIn (s : Scene) (root cell : Cell) (safe : ℕ) : Type 0 where
  pub of_root : IsCellOf root cell
  pub smallest : is_smallest cell ≡ true
  pub one_rank : cell.last + 1 ≡ safe
  pub place : Place
  pub in_box : IsIn (box_of cell) place
  pub is_place : IsPlaceOf s place
  pub near : IsNearAt s place cell.last

-- an undecided entry tells the truth of what it names
pub record IsOpenAsSaid (s : Scene) (root : Cell) (safe from : ℕ) (cell : Cell) : Type 0 where
  pub ordered : from < safe
  pub in_frame : safe ≤ 721
  pub safe_from : IsSafeFrom s safe
  pub before : 1 ≤ from → FailsSomewhere s (from - 1)
  pub undecided : IsUndecidedIn s root cell safe

abbrev pub IsRight : Scene → Cell → Entry → Type 0
IsRight s root (Minute rank) = IsLeastSafe s rank
IsRight s root Whole = IsSafeFrom s 0
IsRight s root Never = FailsSomewhere s 720
IsRight s root (Open safe from cell) = IsOpenAsSaid s root safe from cell

-- an entry that names a minute, or says that every rank is safe or the last one is not
abbrev pub IsDecided : Entry → Type 0
IsDecided (Open safe from cell) = ⊥
IsDecided entry = Unit {0}

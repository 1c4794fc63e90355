-- What it means that a district holds a border, for places and for the entries of the district's table.
use Rattle.std.specs.Prelude.{◌≡◌, ◌<ℤ◌, pos, ℕ, List, None, IsTrue}
use Rattle.plane_edges.specs.Plane.{Place}
use Rattle.ring_survey.specs.Polygons.{Polygon}
use Rattle.region.specs.Rings.{is_in_district}
use Rattle.ring_survey.specs.Faults.{first_fault}
use Rattle.cell_split.specs.declared.cell.Cell.{Cell}
use Rattle.cell_split.specs.declared.verdict.Entry.{Entry}
use Rattle.cell_split.specs.declared.verdict.Entry.TheVariants.{Minute, Whole, Never, Open}
use Rattle.border_check.specs.Borders.{border_fault}
use Rattle.border_check.specs.Settled.{unsettled}
use Rattle.border_check.specs.Squares.{root}
use Rattle.cell_judge.specs.Scenes.{Scene}
use Rattle.cell_judge.specs.RightEntries.{IsRight, IsSafeFrom}

-- a border and a district without a fault, between which no square is unsettled
pub record IsHeld (border district : List Polygon) : Type 0 where
  pub border_sound : border_fault border ≡ None
  pub district_sound : first_fault district ≡ None
  pub settled : unsettled border district root ≡ None

-- every rational place of the border is a place of the district
pub record IsWithin (border district : List Polygon) : Type 0 where
  pub places : (p : Place) → pos 0 <ℤ p.d → IsTrue (is_in_district p border) → IsTrue (is_in_district p district)

abbrev pub HeldBordersHaveNoPlaceOutside : Type 0
HeldBordersHaveNoPlaceOutside = (border district : List Polygon) → IsHeld border district → IsWithin border district

-- the same sun and row, over the places of a border
abbrev pub over : List Polygon → Scene → Scene
over border s = record { sun = s.sun; row = s.row; polygons = border }

-- the first rank from which an entry says that the condition holds everywhere; 721 where it says so of none
abbrev pub safe_rank : Entry → ℕ
safe_rank (Minute rank) = rank
safe_rank Whole = 0
safe_rank Never = 721
safe_rank (Open safe from cell) = safe

-- A right entry of the district's table is safe over the border: from the rank that it names on, at every rank of the
-- frame, the condition holds at every rational place of the border.
abbrev pub HeldBordersAreSafe : Type 0
HeldBordersAreSafe =
    (s : Scene) (border : List Polygon) (cells : Cell) (e : Entry) → IsHeld border s.polygons → IsRight s cells e →
    IsSafeFrom (over border s) (safe_rank e)

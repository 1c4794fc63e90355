-- A problem of the table over a district: what its condition says of the district's places at its ranks.
use Rattle.std.specs.Prelude.{ℕ, ◌≤◌, pos, ◌<ℤ◌, List, IsTrue}
use Rattle.solar_terms.specs.SunLaws.{SunSource}
use Rattle.method_table.specs.Row.{Row, time_of}
use Rattle.plane_edges.specs.Plane.{Place, IsIn}
use Rattle.ring_survey.specs.Polygons.{Polygon}
use Rattle.region.specs.Rings.{is_in_district}
use Rattle.cell_split.specs.declared.cell.Cell.{Cell}
use Rattle.cell_split.specs.declared.verdict.Verdict.{Verdict}
use Rattle.cell_split.specs.declared.verdict.Verdict.TheVariants.{Outside, Proved, Refuted, Split, Open}
use Rattle.cell_split.specs.Laws.{box_of}
use Rattle.plane_edges.specs.Views.{place_of}
use Rattle.cell_judge.specs.Conditions.{Holds, Fails, IsNear}

-- the sun that is taken, the problem and the district's polygons
pub record Scene : Type 0 where
  pub sun : SunSource
  pub row : Row
  pub polygons : List Polygon

-- a rational place of the district
pub record IsPlaceOf (s : Scene) (p : Place) : Type 0 where
  pub positive : pos 0 <ℤ p.d
  pub inside : IsTrue (is_in_district p s.polygons)

-- the condition at a place and a rank: it holds, it fails, its value is within the tolerance of zero
unfoldable pub HoldsAt : Scene → Place → ℕ → Type 0
HoldsAt s p rank = Holds s.sun s.row.kind (time_of s.row rank) p

unfoldable pub FailsAt : Scene → Place → ℕ → Type 0
FailsAt s p rank = Fails s.sun s.row.kind (time_of s.row rank) p

unfoldable pub IsNearAt : Scene → Place → ℕ → Type 0
IsNearAt s p rank = IsNear s.sun s.row.kind (time_of s.row rank) p

-- a rank of the cell
pub record IsRankOf (c : Cell) (rank : ℕ) : Type 0 where
  pub from_first : c.first ≤ rank
  pub to_last : rank ≤ c.last

-- ---- what a verdict on a cell says

-- the box has no place of the district
pub record IsOutside (s : Scene) (c : Cell) : Type 0 where
  pub none : (p : Place) → IsIn (box_of c) p → IsPlaceOf s p → ⊥

-- at every place of the district in the box, at every rank of the cell, the condition holds and doesn't fail
pub record IsProved (s : Scene) (c : Cell) : Type 0 where
  pub holds : (p : Place) → IsIn (box_of c) p → IsPlaceOf s p → (rank : ℕ) → IsRankOf c rank → HoldsAt s p rank
  pub fails_nowhere : (p : Place) → IsIn (box_of c) p → IsPlaceOf s p → (rank : ℕ) → IsRankOf c rank → FailsAt s p rank → ⊥

-- the place is one of the district in the box, and at every rank of the cell the condition fails there and doesn't hold
pub record IsRefutedAt (s : Scene) (c : Cell) (p : Place) : Type 0 where
  pub in_box : IsIn (box_of c) p
  pub is_place : IsPlaceOf s p
  pub fails : (rank : ℕ) → IsRankOf c rank → FailsAt s p rank
  pub holds_never : (rank : ℕ) → IsRankOf c rank → HoldsAt s p rank → ⊥

-- the place is one of the district in the box, and at every rank of the cell the value there is within the tolerance
pub record IsOpenAt (s : Scene) (c : Cell) (p : Place) : Type 0 where
  pub in_box : IsIn (box_of c) p
  pub is_place : IsPlaceOf s p
  pub near : (rank : ℕ) → IsRankOf c rank → IsNearAt s p rank

abbrev pub IsTrueVerdict : Scene → Cell → Verdict → Type 0
IsTrueVerdict s c Outside = IsOutside s c
IsTrueVerdict s c Proved = IsProved s c
IsTrueVerdict s c (Refuted p) = IsRefutedAt s c (place_of p)
IsTrueVerdict s c Split = Unit {0}
IsTrueVerdict s c (Open p) = IsOpenAt s c (place_of p)

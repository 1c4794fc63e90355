-- What a sky is made of: problems within the limits of the sun, and a root over the district.
use Rattle.std.specs.Prelude.{pos, neg_ℤ, ◌+ℤ◌, ◌*ℤ◌, ◌≤ℤ◌, List, All}
use Rattle.method_table.specs.declared.problem.Problem.{Problem}
use Rattle.method_table.specs.Row.{Row, row_of}
use Rattle.ring_survey.specs.Extent.{longitudes, latitudes, least, greatest}
use Rattle.ring_survey.specs.Polygons.{Polygon}
use Rattle.cell_split.specs.declared.cell.Cell.{Cell}
use Rattle.cell_split.specs.Cells.{side}

-- every minute of the frame is within 53,200,000 minutes (101 years) of 2000-01-01 12:00 Universal Time
pub record IsInLimits (row : Row) : Type 0 where
  pub not_before : neg_ℤ (pos 53_200_000) ≤ℤ (row.base +ℤ row.first)
  pub not_after : (row.base +ℤ row.last) ≤ℤ pos 53_200_000

abbrev pub AreInLimits : List Problem → Type 0
AreInLimits problems = All (λ p. IsInLimits (row_of p)) problems

-- every position of the district lies in the root's box
pub record IsOver (root : Cell) (polygons : List Polygon) : Type 0 where
  pub west : root.x ≤ℤ (pos 128 *ℤ least (longitudes polygons))
  pub east : (pos 128 *ℤ greatest (longitudes polygons)) ≤ℤ (root.x +ℤ side root)
  pub south : root.y ≤ℤ (pos 128 *ℤ least (latitudes polygons))
  pub north : (pos 128 *ℤ greatest (latitudes polygons)) ≤ℤ (root.y +ℤ side root)

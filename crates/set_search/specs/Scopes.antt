-- The skies over the districts of a set, and their root.
use Rattle.std.specs.Prelude.{◌≡◌, pos, List, All, map, slice_index_or}
use Rattle.cell_judge.specs.declared.sky.Sky.{Sky}
use Rattle.cell_split.specs.declared.cell.Cell.{Cell}
use Rattle.cell_split.specs.Cells.{root_at}
use Rattle.ring_survey.specs.Polygons.{Polygon}
use Rattle.method_table.specs.declared.sun.SunChoice.{SunChoice}

-- a district under a sun, with the root of its cells
pub record Scope : Type 0 where
  pub sun : SunChoice
  pub root : Cell
  pub polygons : List Polygon

abbrev pub scope_of : Sky → Scope
scope_of sky = record { sun = sky.sun; root = sky.root; polygons = sky.district }

abbrev pub scope_over : SunChoice → Cell → List Polygon → Scope
scope_over sun root polygons = record { sun = sun; root = root; polygons = polygons }

-- the root of the first sky
abbrev pub first_root : List Sky → Cell
first_root skies = slice_index_or (map (λ sky. sky.root) skies) 0 (root_at (pos 0) (pos 0))

abbrev pub HaveOneRoot : List Sky → Type 0
HaveOneRoot skies = All (λ sky. sky.root ≡ first_root skies) skies

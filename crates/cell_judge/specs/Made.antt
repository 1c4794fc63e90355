-- What a sky is made of.
use Rattle.std.specs.Prelude.{◌≡◌, List}
use Rattle.method_table.specs.declared.sun.SunChoice.{SunChoice}
use Rattle.method_table.specs.declared.problem.Problem.{Problem}
use Rattle.ring_survey.specs.Polygons.{Polygon}
use Rattle.cell_split.specs.declared.cell.Cell.{Cell}
use Rattle.cell_judge.specs.declared.sky.Sky.{Sky}

-- the sky is under this sun over this district, for these problems, with this root
pub record IsSkyOf (sun : SunChoice) (district : List Polygon) (problems : List Problem) (root : Cell) (sky : Sky) : Type 0 where
  pub sun_is : sky.sun ≡ sun
  pub district_is : sky.district ≡ district
  pub problems_are : sky.problems ≡ problems
  pub root_is : sky.root ≡ root

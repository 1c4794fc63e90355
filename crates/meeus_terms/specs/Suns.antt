-- The sun of a choice, exactly and on the grid, and what the judge of the sky asks of a sun.
use Rattle.std.specs.Prelude.{◌≡◌, ◌≤◌, unsigned_abs}
use Rattle.fixed_interval.specs.Grid.{Range}
use Rattle.solar_terms.specs.Sun.{SunTerms, exact_sun, grid_sun}
use Rattle.solar_terms.specs.SunLaws.{SunSource, IsSunSource, GridHoldsSun}
use Rattle.solar_terms.specs.SunWidths.{IsNarrowSun}
use Rattle.meeus_terms.specs.Meeus.{exact_meeus, grid_meeus}
use Rattle.method_table.specs.declared.sun.SunChoice.{SunChoice}
use Rattle.method_table.specs.declared.sun.SunChoice.TheVariants.{Usno, Meeus}

abbrev pub exact_sun_of : SunChoice → SunSource
exact_sun_of Usno = exact_sun
exact_sun_of Meeus = exact_meeus

abbrev pub grid_sun_of : SunChoice → Range → SunTerms
grid_sun_of Usno = grid_sun
grid_sun_of Meeus = grid_meeus

-- a sun, and its terms on the grid, which hold it and are narrow at one minute
pub record IsSun (sun : SunSource) (grid : Range → SunTerms) : Type 0 where
  pub source : IsSunSource sun
  pub holds : GridHoldsSun sun grid
  pub narrow : (r : Range) → r.hi ≡ r.lo → unsigned_abs r.lo ≤ 53_200_000 → IsNarrowSun (grid r)

-- every sun that can be chosen is one
abbrev pub SunsAreSound : Type 0
SunsAreSound = (sun : SunChoice) → IsSun (exact_sun_of sun) (grid_sun_of sun)

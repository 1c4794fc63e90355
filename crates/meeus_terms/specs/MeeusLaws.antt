-- What is true of Meeus's sun, as sentences.
use Rattle.std.specs.Prelude.{◌≡◌, ◌≤◌, pos, neg_ℤ, unsigned_abs}
use Rattle.fixed_interval.specs.Fraction.{Fraction, ◌≤ᶠ◌, over}
use Rattle.fixed_interval.specs.Grid.{Range}
use Rattle.solar_terms.specs.SunLaws.{IsSunSource, GridHoldsSun}
use Rattle.solar_terms.specs.SunWidths.{IsNarrowSun}
use Rattle.meeus_terms.specs.Polynomials.{held}
use Rattle.meeus_terms.specs.Meeus.{exact_meeus, grid_meeus}

-- a fraction of minutes within the limits is taken as it is
abbrev pub MinutesAreThemselves : Type 0
MinutesAreThemselves = (k : Fraction) → over (neg_ℤ (pos 53_200_000)) 1 ≤ᶠ k → k ≤ᶠ over (pos 53_200_000) 1 → held k ≡ k

-- it is a source of suns, and its grid form holds it
pub record MeeusIsSound : Type 0 where
  pub source : IsSunSource exact_meeus
  pub grid : GridHoldsSun exact_meeus grid_meeus

-- at one minute within the limits it is narrow
abbrev pub MeeusIsNarrow : Type 0
MeeusIsNarrow = (r : Range) → r.hi ≡ r.lo → unsigned_abs r.lo ≤ 53_200_000 → IsNarrowSun (grid_meeus r)

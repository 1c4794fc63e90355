-- What the grid shows of the conditions, as sentences. They hold for every sun that is a source.
use Rattle.std.specs.Prelude.{ℕ, ℤ, pos, ◌≤ℤ◌, ◌<ℤ◌}
use Rattle.fixed_interval.specs.Enclosure.{Enclosure, IsOrdered, LiesIn, point}
use Rattle.fixed_interval.specs.Grid.{Ends, Range, enclosure_of_range}
use Rattle.solar_terms.specs.Sun.{SunTerms}
use Rattle.solar_terms.specs.SunLaws.{SunSource, IsSunSource, GridHoldsSun}
use Rattle.altitude_test.specs.Values.{Box, grid_altitude_value, grid_meridian_value}
use Rattle.altitude_test.specs.Conditions.{Spot, IsAbove, IsBelow, altitude_at, meridian_at}

-- the place lies in the box, and the minute in the range
pub record IsAmong (k : ℤ) (p : Spot) (r : Range) (c : Box) : Type 0 where
  pub not_before : r.lo ≤ℤ k
  pub not_after : k ≤ℤ r.hi
  pub x : LiesIn (point p.x) (enclosure_of_range c.x)
  pub y : LiesIn (point p.y) (enclosure_of_range c.y)

-- no value is both above and below zero
pub record IsOneSided (value : ℕ → Enclosure) : Type 0 where
  pub one_sided : IsAbove value → IsBelow value → ⊥

-- ends on the grid show the side of a value: where they lie on one side of zero, the value does
pub record ShowsSide (e : Ends) (value : ℕ → Enclosure) : Type 0 where
  pub above : pos 0 <ℤ e.lo → IsAbove value
  pub below : e.hi <ℤ pos 0 → IsBelow value

abbrev pub AltitudeIsOneSided : Type 0
AltitudeIsOneSided =
    (sun : SunSource) → IsSunSource sun → (k : ℤ) (p : Spot) (a : Enclosure) → IsOrdered a →
    IsOneSided (altitude_at sun k p a)

abbrev pub MeridianIsOneSided : Type 0
MeridianIsOneSided = (sun : SunSource) → IsSunSource sun → (k : ℤ) (p : Spot) → IsOneSided (meridian_at sun k p)

abbrev pub GridShowsAltitude : Type 0
GridShowsAltitude =
    (sun : SunSource) (grid : Range → SunTerms) → IsSunSource sun → GridHoldsSun sun grid →
    (k : ℤ) (p : Spot) (r : Range) (c : Box) → IsAmong k p r c →
    (a : Enclosure) (angle : Range) → IsOrdered a → LiesIn a (enclosure_of_range angle) →
    ShowsSide (grid_altitude_value (grid r) r c angle) (altitude_at sun k p a)

abbrev pub GridShowsMeridian : Type 0
GridShowsMeridian =
    (sun : SunSource) (grid : Range → SunTerms) → IsSunSource sun → GridHoldsSun sun grid →
    (k : ℤ) (p : Spot) (r : Range) (c : Box) → IsAmong k p r c →
    ShowsSide (grid_meridian_value (grid r) r c) (meridian_at sun k p)

-- When a condition holds at a place and a minute: the exact enclosure of its value there lies on one side of zero at some
-- depth. A value is given by its enclosures at all depths.
use Rattle.std.specs.Prelude.{ℕ, ◌^◌, ◌≤◌, ℤ, pos, negsuc}
use Rattle.fixed_interval.specs.Fraction.{Fraction, over}
use Rattle.fixed_interval.specs.Enclosure.{Enclosure, LiesIn, IsAboveZero, IsBelowZero, point}
use Rattle.solar_terms.specs.SunLaws.{SunSource}
use Rattle.altitude_test.specs.Values.{ExactBox, exact_altitude_value, exact_meridian_value}

-- at some depth from 1 on the enclosure is so
pub record AtSomeDepth (IsSo : Enclosure → Type 0) (value : ℕ → Enclosure) : Type 0 where
  pub depth : ℕ
  pub from_one : 1 ≤ depth
  pub found : IsSo (value depth)

-- the value is above zero, below zero, within 2^-bits of zero
abbrev pub IsAbove : (ℕ → Enclosure) → Type 0
IsAbove value = AtSomeDepth IsAboveZero value

abbrev pub IsBelow : (ℕ → Enclosure) → Type 0
IsBelow value = AtSomeDepth IsBelowZero value

unfoldable pub around_zero : ℕ → Enclosure
around_zero bits = record { lo = over (negsuc 0) (2 ^ bits); hi = over (pos 1) (2 ^ bits) }

abbrev pub IsWithin : ℕ → (ℕ → Enclosure) → Type 0
IsWithin bits value = AtSomeDepth (λ a. LiesIn a (around_zero bits)) value

-- ---- the values at one place and one minute

-- a rational place: x is the longitude, positive to the east, and y the latitude, in place units
pub record Spot : Type 0 where
  pub x : Fraction
  pub y : Fraction

unfoldable pub box_at : Spot → ExactBox
box_at p = record { x = point p.x; y = point p.y }

unfoldable pub minute_at : ℤ → Enclosure
minute_at k = point (over k 1)

-- where it is above zero the sun is above each angle of the range below the horizon; where below zero, below each
unfoldable pub altitude_at : SunSource → ℤ → Spot → Enclosure → ℕ → Enclosure
altitude_at sun k p angle n = exact_altitude_value n (sun n (minute_at k)) (minute_at k) (box_at p) angle

-- where it is above zero the sun is past the meridian; where below zero, before it
unfoldable pub meridian_at : SunSource → ℤ → Spot → ℕ → Enclosure
meridian_at sun k p n = exact_meridian_value n (sun n (minute_at k)) (minute_at k) (box_at p)

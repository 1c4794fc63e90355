-- What is true of the values, as sentences: over less of the sky or at a greater depth a value lies in what it was before,
-- and the value on the grid holds the exact value of each part of its sun, minutes and places.
use Rattle.std.specs.Prelude.{ℕ, ◌≤◌}
use Rattle.fixed_interval.specs.Enclosure.{Enclosure, IsOrdered, LiesIn}
use Rattle.fixed_interval.specs.Grid.{Range, enclosure_of, enclosure_of_range, DEPTH}
use Rattle.solar_terms.specs.Sun.{ExactSun, SunTerms}
use Rattle.solar_terms.specs.SunLaws.{SunIsOrdered, SunLiesIn, exact_terms}
use Rattle.altitude_test.specs.Values.{ExactBox, Box, exact_altitude_value, exact_meridian_value, grid_altitude_value, grid_meridian_value}

unfoldable pub exact_box : Box → ExactBox
exact_box b = record { x = enclosure_of_range b.x; y = enclosure_of_range b.y }

-- sun, minutes and places, each in order and within another
pub record IsPartOf (s s' : ExactSun) (m m' : Enclosure) (b b' : ExactBox) : Type 0 where
  pub sun_ordered : SunIsOrdered s
  pub minutes_ordered : IsOrdered m
  pub x_ordered : IsOrdered b.x
  pub y_ordered : IsOrdered b.y
  pub sun : SunLiesIn s s'
  pub minutes : LiesIn m m'
  pub x : LiesIn b.x b'.x
  pub y : LiesIn b.y b'.y

-- over less of the sky or at a greater depth a value lies in what it was before
abbrev pub AltitudeNarrows : Type 0
AltitudeNarrows =
    (n n' : ℕ) (s s' : ExactSun) (m m' : Enclosure) (b b' : ExactBox) (a a' : Enclosure) → n' ≤ n →
    IsPartOf s s' m m' b b' → IsOrdered a → LiesIn a a' →
    LiesIn (exact_altitude_value n s m b a) (exact_altitude_value n' s' m' b' a')

abbrev pub MeridianNarrows : Type 0
MeridianNarrows =
    (n n' : ℕ) (s s' : ExactSun) (m m' : Enclosure) (b b' : ExactBox) → n' ≤ n →
    IsPartOf s s' m m' b b' → LiesIn (exact_meridian_value n s m b) (exact_meridian_value n' s' m' b')

-- the value on the grid holds the exact value of a part
abbrev pub GridAltitudeHolds : Type 0
GridAltitudeHolds =
    (s : ExactSun) (t : SunTerms) (m : Enclosure) (r : Range) (b : ExactBox) (c : Box) (a : Enclosure) (angle : Range) →
    IsPartOf s (exact_terms t) m (enclosure_of_range r) b (exact_box c) → IsOrdered a → LiesIn a (enclosure_of_range angle) →
    LiesIn (exact_altitude_value DEPTH s m b a) (enclosure_of (grid_altitude_value t r c angle))

abbrev pub GridMeridianHolds : Type 0
GridMeridianHolds =
    (s : ExactSun) (t : SunTerms) (m : Enclosure) (r : Range) (b : ExactBox) (c : Box) →
    IsPartOf s (exact_terms t) m (enclosure_of_range r) b (exact_box c) →
    LiesIn (exact_meridian_value DEPTH s m b) (enclosure_of (grid_meridian_value t r c))

-- The altitude value and the meridian value over a box of places and a range of minutes (PrayTimes.org, Prayer Times
-- Calculation; J. Meeus, Astronomical Algorithms, chapter 13), without inverse functions. With the latitude φ, the
-- sidereal time θ, and of the sun the longitude L, the obliquity e and the mean longitude q:
--   sine of the altitude   S = sin φ · sin e · sin L + cos φ · (cos θ · cos L + sin θ · cos e · sin L)
--   altitude value         S + sin α     above zero where the sun is above α below the horizon
--   meridian value         sin θ · cos L - cos θ · cos e · sin L     above zero where the sun is past the meridian
-- since sin d = sin e · sin L, cos d · cos RA = cos L and cos d · sin RA = cos e · sin L for the declination d and
-- the right ascension RA.
-- One place unit, 1/128 microdegree, is 1,125 angle units, and the sky turns by 36,000,000,000 angle units a minute.
use Rattle.std.specs.Prelude.{ℕ}
use Rattle.fixed_interval.specs.Enclosure.{Enclosure, sum, difference, product, scale_units}
use Rattle.fixed_interval.specs.Grid.{Ends, Range, grid_sum, grid_difference, grid_product}
use Rattle.trig_series.specs.Sine.{sine, cosine, grid_sine, grid_cosine}
use Rattle.trig_series.specs.Ranges.{added, scaled}
use Rattle.solar_terms.specs.Sun.{ExactSun, SunTerms}
use Rattle.altitude_test.specs.declared.Place.{Place}

-- a box of places between exact ends: x is the longitude, positive to the east, and y the latitude, in place units
pub record ExactBox : Type 0 where
  pub x : Enclosure
  pub y : Enclosure

-- and between whole place units
pub record Box : Type 0 where
  pub x : Range
  pub y : Range

abbrev pub box_of : Place → Box
box_of p = record { x = record { lo = p.x0; hi = p.x1 }; y = record { lo = p.y0; hi = p.y1 } }

-- ---- exact, at depth n

unfoldable pub latitude : ExactBox → Enclosure
latitude box = scale_units box.y 1_125

unfoldable pub sidereal_time : ExactSun → Enclosure → ExactBox → Enclosure
sidereal_time s m box = sum (sum (scale_units m 36_000_000_000) (scale_units box.x 1_125)) s.q

unfoldable pub exact_altitude_sine : ℕ → ExactSun → Enclosure → ExactBox → Enclosure
exact_altitude_sine n s m box =
    let φ = latitude box in
    let θ = sidereal_time s m box in
    sum
    (product (product (sine n φ) s.sin_e) s.sin_l)
    (product (cosine n φ) (sum (product (cosine n θ) s.cos_l) (product (product (sine n θ) s.cos_e) s.sin_l)))

-- for every angle of a range, in angle units
unfoldable pub exact_altitude_value : ℕ → ExactSun → Enclosure → ExactBox → Enclosure → Enclosure
exact_altitude_value n s m box angle = sum (exact_altitude_sine n s m box) (sine n angle)

unfoldable pub exact_meridian_value : ℕ → ExactSun → Enclosure → ExactBox → Enclosure
exact_meridian_value n s m box =
    let θ = sidereal_time s m box in
    difference (product (sine n θ) s.cos_l) (product (product (cosine n θ) s.cos_e) s.sin_l)

-- ---- the same on the grid

unfoldable pub grid_latitude : Box → Range
grid_latitude box = scaled box.y 1_125

unfoldable pub grid_sidereal_time : SunTerms → Range → Box → Range
grid_sidereal_time s m box = added (added (scaled m 36_000_000_000) (scaled box.x 1_125)) s.q

-- by the sine and the cosine of the latitude φ, and those of the sidereal time θ
abbrev pub altitude_by : SunTerms → Ends → Ends → Ends → Ends → Ends
altitude_by s sin_φ cos_φ sin_θ cos_θ =
    grid_sum
    (grid_product (grid_product sin_φ s.sin_e) s.sin_l)
    (grid_product cos_φ (grid_sum (grid_product cos_θ s.cos_l) (grid_product (grid_product sin_θ s.cos_e) s.sin_l)))

unfoldable pub grid_altitude_sine : SunTerms → Range → Box → Ends
grid_altitude_sine s m box =
    let φ = grid_latitude box in
    let θ = grid_sidereal_time s m box in
    altitude_by s (grid_sine φ) (grid_cosine φ) (grid_sine θ) (grid_cosine θ)

unfoldable pub grid_altitude_value : SunTerms → Range → Box → Range → Ends
grid_altitude_value s m box angle = grid_sum (grid_altitude_sine s m box) (grid_sine angle)

abbrev pub meridian_by : SunTerms → Ends → Ends → Ends
meridian_by s sin_θ cos_θ =
    grid_difference (grid_product sin_θ s.cos_l) (grid_product (grid_product cos_θ s.cos_e) s.sin_l)

unfoldable pub grid_meridian_value : SunTerms → Range → Box → Ends
grid_meridian_value s m box =
    let θ = grid_sidereal_time s m box in
    meridian_by s (grid_sine θ) (grid_cosine θ)

-- The Asr value over a box of places and a range of minutes (PrayTimes.org, Prayer Times Calculation): at Asr the
-- shadow of an upright object is t times the object longer than at noon, cot(altitude) = t + tan |φ - d| for the
-- latitude φ and the sun's declination d. The absolute value and the form without inverse functions are this project's:
--   w  = sin e · sin L             the sine of d
--   cd = root(1 - w · w)           the cosine of d
--   cz = cos φ · cd + sin φ · w    the cosine of φ - d
--   sz = sin φ · cd - cos φ · w    the sine of φ - d
--   v  = t · cz + |sz|             where 2 · cz is cz + cz
--   (1 - S · S) · (cz · cz) - S|S| · (v · v)
-- with the sine S of the altitude. The value is above zero where the shadow is longer than at Asr, or the sun is below
-- the horizon.
use Rattle.std.specs.Prelude.{ℕ, ◌==◌, pos, if◌then◌else◌}
use Rattle.fixed_interval.specs.Enclosure.{Enclosure, sum, difference, product, magnitude, signed_square, root}
use Rattle.fixed_interval.specs.Grid.{UNIT, Ends, Range, grid_sum, grid_difference, grid_product, grid_magnitude, grid_signed_square, grid_root}
use Rattle.trig_series.specs.Sine.{sine, cosine, grid_sine, grid_cosine}
use Rattle.trig_series.specs.Ranges.{exactly}
use Rattle.solar_terms.specs.Sun.{ExactSun, SunTerms}
use Rattle.altitude_test.specs.Values.{ExactBox, Box, latitude, exact_altitude_sine, grid_latitude, grid_altitude_sine}

-- ---- exact, at depth n

unfoldable pub sine_declination : ExactSun → Enclosure
sine_declination s = product s.sin_e s.sin_l

unfoldable pub cosine_declination : ℕ → ExactSun → Enclosure
cosine_declination n s = let w = sine_declination s in root n (difference (exactly 1) (product w w))

unfoldable pub noon_cosine : ℕ → ExactSun → ExactBox → Enclosure
noon_cosine n s box =
    let φ = latitude box in
    sum (product (cosine n φ) (cosine_declination n s)) (product (sine n φ) (sine_declination s))

unfoldable pub noon_sine : ℕ → ExactSun → ExactBox → Enclosure
noon_sine n s box =
    let φ = latitude box in
    difference (product (sine n φ) (cosine_declination n s)) (product (cosine n φ) (sine_declination s))

unfoldable pub times_factor : ℕ → Enclosure → Enclosure
times_factor factor a = if factor == 2 then sum a a else a

unfoldable pub asr_shadow : ℕ → ExactSun → ExactBox → ℕ → Enclosure
asr_shadow n s box factor = sum (times_factor factor (noon_cosine n s box)) (magnitude (noon_sine n s box))

unfoldable pub exact_asr_value : ℕ → ExactSun → Enclosure → ExactBox → ℕ → Enclosure
exact_asr_value n s m box factor =
    let S = exact_altitude_sine n s m box in
    let cz = noon_cosine n s box in
    let v = asr_shadow n s box factor in
    difference
    (product (difference (exactly 1) (product S S)) (product cz cz))
    (product (signed_square S) (product v v))

-- ---- the same on the grid

unfoldable pub grid_one : Ends
grid_one = record { lo = pos UNIT; hi = pos UNIT }

unfoldable pub grid_sine_declination : SunTerms → Ends
grid_sine_declination s = grid_product s.sin_e s.sin_l

unfoldable pub grid_cosine_declination : SunTerms → Ends
grid_cosine_declination s = let w = grid_sine_declination s in grid_root (grid_difference grid_one (grid_product w w))

-- by the sine and the cosine of the latitude φ
abbrev pub noon_cosine_by : SunTerms → Ends → Ends → Ends
noon_cosine_by s sin_φ cos_φ =
    grid_sum (grid_product cos_φ (grid_cosine_declination s)) (grid_product sin_φ (grid_sine_declination s))

unfoldable pub grid_noon_cosine : SunTerms → Box → Ends
grid_noon_cosine s box = let φ = grid_latitude box in noon_cosine_by s (grid_sine φ) (grid_cosine φ)

abbrev pub noon_sine_by : SunTerms → Ends → Ends → Ends
noon_sine_by s sin_φ cos_φ =
    grid_difference (grid_product sin_φ (grid_cosine_declination s)) (grid_product cos_φ (grid_sine_declination s))

unfoldable pub grid_noon_sine : SunTerms → Box → Ends
grid_noon_sine s box = let φ = grid_latitude box in noon_sine_by s (grid_sine φ) (grid_cosine φ)

unfoldable pub grid_times_factor : ℕ → Ends → Ends
grid_times_factor factor a = if factor == 2 then grid_sum a a else a

-- by the cosine and the sine of φ - d
abbrev pub shadow_by : Ends → Ends → ℕ → Ends
shadow_by cz sz factor = grid_sum (grid_times_factor factor cz) (grid_magnitude sz)

unfoldable pub grid_asr_shadow : SunTerms → Box → ℕ → Ends
grid_asr_shadow s box factor = shadow_by (grid_noon_cosine s box) (grid_noon_sine s box) factor

-- by the sine of the altitude, the cosine of φ - d and the shadow
abbrev pub asr_by : Ends → Ends → Ends → Ends
asr_by S cz v =
    grid_difference
    (grid_product (grid_difference grid_one (grid_product S S)) (grid_product cz cz))
    (grid_product (grid_signed_square S) (grid_product v v))

unfoldable pub grid_asr_value : SunTerms → Range → Box → ℕ → Ends
grid_asr_value s m box factor =
    asr_by (grid_altitude_sine s m box) (grid_noon_cosine s box) (grid_asr_shadow s box factor)

-- by the sine of the altitude, and the sine and the cosine of the latitude φ
abbrev pub asr_at_latitude : SunTerms → Ends → Ends → Ends → ℕ → Ends
asr_at_latitude s S sin_φ cos_φ factor =
    let cz = noon_cosine_by s sin_φ cos_φ in
    asr_by S cz (shadow_by cz (noon_sine_by s sin_φ cos_φ) factor)

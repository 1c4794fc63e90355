-- The sun over a range of minutes, by J. Meeus, Astronomical Algorithms, second edition (1998), chapter 25 (solar
-- coordinates, low accuracy), with the obliquity of chapter 22. With T the Julian centuries since 2000-01-01 12:00, in degrees:
--   mean longitude  L0 = 280.46646 + 36000.76983 T + 0.0003032 T^2
--   mean anomaly     M = 357.52911 + 35999.05029 T - 0.0001537 T^2
--   node             N = 125.04 - 1934.136 T, of the moon's orbit
--   centre           C = (1.914602 - 0.004817 T - 0.000014 T^2) sin M + (0.019993 - 0.000101 T) sin 2M + 0.000289 sin 3M
--   apparent longitude L = L0 + C - 0.00569 - 0.00478 sin N
--   obliquity        e = 23 deg 26' 21.448" - 46.8150" T - 0.00059" T^2 + 0.001813" T^3 + 0.00256 cos N
-- The mean longitude for the sidereal time is q = L0 - 0.0057183. That constant, and that nutation in right ascension is
-- left out, are choices of this project. Angles are in angle units, of which 144,000,000,000 make one degree.
use Rattle.std.specs.Prelude.{ℕ, pos, neg_ℤ}
use Rattle.fixed_interval.specs.Enclosure.{Enclosure, sum, difference, product, scale_units}
use Rattle.fixed_interval.specs.Grid.{Range, enclosure_of_range, range_around, grid_scale_units}
use Rattle.trig_series.specs.Sine.{sine, cosine, grid_sine, grid_cosine}
use Rattle.trig_series.specs.Ranges.{whole, added, subtracted, exactly}
use Rattle.solar_terms.specs.Sun.{ExactSun, SunTerms}
use Rattle.meeus_terms.specs.Polynomials.{linear, quadratic, cubic, rising, falling}
use Rattle.meeus_terms.specs.Scaled.{grid_scale_between}

-- ---- exact, over the minutes m, at depth n

unfoldable pub mean_longitude : Enclosure → Enclosure
mean_longitude = rising (quadratic (pos 40_387_170_240_000) (pos 5_184_110_855_520_000) (pos 43_660_800))

unfoldable pub mean_anomaly : Enclosure → Enclosure
mean_anomaly = rising (quadratic (pos 51_484_191_840_000) (pos 5_183_863_241_760_000) (neg_ℤ (pos 22_132_800)))

unfoldable pub node : Enclosure → Enclosure
node = falling (linear (pos 18_005_760_000_000) (neg_ℤ (pos 278_515_584_000_000)))

-- the coefficients of sin M and sin 2M
unfoldable pub first_coefficient : Enclosure → Enclosure
first_coefficient = falling (quadratic (pos 275_702_688_000) (neg_ℤ (pos 693_648_000)) (neg_ℤ (pos 2_016_000)))

unfoldable pub second_coefficient : Enclosure → Enclosure
second_coefficient = falling (linear (pos 2_878_992_000) (neg_ℤ (pos 14_544_000)))

-- the equation of the centre
unfoldable pub centre : ℕ → Enclosure → Enclosure
centre n m =
    let g = mean_anomaly m in
    let double = sum g g in
    sum
    (sum (product (sine n g) (first_coefficient m)) (product (sine n double) (second_coefficient m)))
    (scale_units (sine n (sum double g)) 41_616_000)

-- the apparent longitude: the true one less aberration and nutation
unfoldable pub longitude : ℕ → Enclosure → Enclosure
longitude n m =
    difference
    (difference (sum (mean_longitude m) (centre n m)) (exactly 819_360_000))
    (scale_units (sine n (node m)) 688_320_000)

unfoldable pub mean_obliquity : Enclosure → Enclosure
mean_obliquity = falling (cubic (pos 3_375_257_920_000) (neg_ℤ (pos 1_872_600_000)) (neg_ℤ (pos 23_600)) (pos 72_520))

unfoldable pub obliquity : ℕ → Enclosure → Enclosure
obliquity n m = sum (mean_obliquity m) (scale_units (cosine n (node m)) 368_640_000)

unfoldable pub exact_meeus : ℕ → Enclosure → ExactSun
exact_meeus n m = record {
  sin_l = sine n (longitude n m);
  cos_l = cosine n (longitude n m);
  sin_e = sine n (obliquity n m);
  cos_e = cosine n (obliquity n m);
  q = difference (mean_longitude m) (exactly 823_435_200);
}

-- ---- the same on the grid

unfoldable pub grid_mean_longitude : Range → Range
grid_mean_longitude m = range_around (mean_longitude (enclosure_of_range m))

unfoldable pub grid_mean_anomaly : Range → Range
grid_mean_anomaly m = range_around (mean_anomaly (enclosure_of_range m))

unfoldable pub grid_node : Range → Range
grid_node m = range_around (node (enclosure_of_range m))

unfoldable pub grid_first_coefficient : Range → Range
grid_first_coefficient m = range_around (first_coefficient (enclosure_of_range m))

unfoldable pub grid_second_coefficient : Range → Range
grid_second_coefficient m = range_around (second_coefficient (enclosure_of_range m))

unfoldable pub grid_centre : Range → Range
grid_centre m =
    let g = grid_mean_anomaly m in
    let double = added g g in
    added
    (added (grid_scale_between (grid_sine g) (grid_first_coefficient m)) (grid_scale_between (grid_sine double) (grid_second_coefficient m)))
    (grid_scale_units (grid_sine (added double g)) 41_616_000)

unfoldable pub grid_longitude : Range → Range
grid_longitude m =
    subtracted
    (subtracted (added (grid_mean_longitude m) (grid_centre m)) (whole 819_360_000))
    (grid_scale_units (grid_sine (grid_node m)) 688_320_000)

unfoldable pub grid_mean_obliquity : Range → Range
grid_mean_obliquity m = range_around (mean_obliquity (enclosure_of_range m))

unfoldable pub grid_obliquity : Range → Range
grid_obliquity m = added (grid_mean_obliquity m) (grid_scale_units (grid_cosine (grid_node m)) 368_640_000)

unfoldable pub grid_meeus : Range → SunTerms
grid_meeus m = record {
  sin_l = grid_sine (grid_longitude m);
  cos_l = grid_cosine (grid_longitude m);
  sin_e = grid_sine (grid_obliquity m);
  cos_e = grid_cosine (grid_obliquity m);
  q = subtracted (grid_mean_longitude m) (whole 823_435_200);
}

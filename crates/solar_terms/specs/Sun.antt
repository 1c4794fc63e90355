-- The sun over a range of minutes, by the approximate solar coordinates of the US Naval Observatory.
-- With D the days since 2000-01-01 12:00 Universal Time, in degrees:
--   mean anomaly        g = 357.529 + 0.98560028 D
--   mean longitude      q = 280.459 + 0.98564736 D
--   ecliptic longitude  L = q + 1.915 sin g + 0.020 sin 2g
--   obliquity           e = 23.439 - 0.00000036 D
-- Angles are in angle units, of which 144,000,000,000 make one degree: so one unit a minute is 0.00000001 degrees a day.
use Rattle.std.specs.Prelude.{ℕ}
use Rattle.fixed_interval.specs.Enclosure.{Enclosure, sum, difference, scale_units}
use Rattle.fixed_interval.specs.Grid.{Ends, Range, grid_scale_units}
use Rattle.fixed_interval.specs.Interval.{ends}
use Rattle.trig_series.specs.Sine.{sine, cosine, grid_sine, grid_cosine}
use Rattle.trig_series.specs.Angle.{range_of}
use Rattle.trig_series.specs.Ranges.{whole, added, subtracted, scaled, exactly}
use Rattle.solar_terms.specs.declared.Minutes.{Minutes}
use Rattle.solar_terms.specs.declared.Sun.{Sun}

-- what the sky's values need of the sun, exact
pub record ExactSun : Type 0 where
  pub sin_l : Enclosure
  pub cos_l : Enclosure
  pub sin_e : Enclosure
  pub cos_e : Enclosure
  pub q : Enclosure

-- and on the grid
pub record SunTerms : Type 0 where
  pub sin_l : Ends
  pub cos_l : Ends
  pub sin_e : Ends
  pub cos_e : Ends
  pub q : Range

abbrev pub minutes_of : Minutes → Range
minutes_of m = record { lo = m.first; hi = m.last }

abbrev pub terms_of : Sun → SunTerms
terms_of s = record {
  sin_l = ends s.sin_l;
  cos_l = ends s.cos_l;
  sin_e = ends s.sin_e;
  cos_e = ends s.cos_e;
  q = range_of s.q;
}

-- ---- exact, over the minutes m, at depth n

unfoldable pub mean_anomaly : Enclosure → Enclosure
mean_anomaly m = sum (exactly 51_484_176_000_000) (scale_units m 98_560_028)

unfoldable pub mean_longitude : Enclosure → Enclosure
mean_longitude m = sum (exactly 40_386_096_000_000) (scale_units m 98_564_736)

unfoldable pub obliquity : Enclosure → Enclosure
obliquity m = difference (exactly 3_375_216_000_000) (scale_units m 36)

-- the two terms of the equation of the centre
unfoldable pub longitude : ℕ → Enclosure → Enclosure
longitude n m =
    let g = mean_anomaly m in
    sum (sum (mean_longitude m) (scale_units (sine n g) 275_760_000_000)) (scale_units (sine n (sum g g)) 2_880_000_000)

unfoldable pub exact_sun : ℕ → Enclosure → ExactSun
exact_sun n m = record {
  sin_l = sine n (longitude n m);
  cos_l = cosine n (longitude n m);
  sin_e = sine n (obliquity m);
  cos_e = cosine n (obliquity m);
  q = mean_longitude m;
}

-- ---- the same on the grid

unfoldable pub grid_mean_anomaly : Range → Range
grid_mean_anomaly m = added (whole 51_484_176_000_000) (scaled m 98_560_028)

unfoldable pub grid_mean_longitude : Range → Range
grid_mean_longitude m = added (whole 40_386_096_000_000) (scaled m 98_564_736)

unfoldable pub grid_obliquity : Range → Range
grid_obliquity m = subtracted (whole 3_375_216_000_000) (scaled m 36)

unfoldable pub grid_longitude : Range → Range
grid_longitude m =
    let g = grid_mean_anomaly m in
    added
    (added (grid_mean_longitude m) (grid_scale_units (grid_sine g) 275_760_000_000))
    (grid_scale_units (grid_sine (added g g)) 2_880_000_000)

unfoldable pub grid_sun : Range → SunTerms
grid_sun m = record {
  sin_l = grid_sine (grid_longitude m);
  cos_l = grid_cosine (grid_longitude m);
  sin_e = grid_sine (grid_obliquity m);
  cos_e = grid_cosine (grid_obliquity m);
  q = grid_mean_longitude m;
}

-- The sun over fewer minutes and at a greater depth, and on the grid: each law follows from those of the operations.
use Rattle.std.proofs.Common.{ℕ, ◌≤◌}
use Rattle.fixed_interval.specs.Enclosure.{Enclosure, IsOrdered, LiesIn}
use Rattle.fixed_interval.specs.Grid.{Range, enclosure_of_range, DEPTH}
use Rattle.fixed_interval.proofs.EnclosureLaws.{LiesIn_refl, sum_mono, difference_mono, scale_units_mono, sum_ordered, difference_ordered, scale_units_ordered}
use Rattle.fixed_interval.proofs.Inclusion.{scale_units_holds}
use Rattle.trig_series.proofs.SineLaws.{sine_ordered, cosine_ordered, sine_holds, cosine_holds}
use Rattle.solar_terms.specs.Sun.{mean_anomaly, mean_longitude, obliquity, longitude, exact_sun, grid_mean_anomaly, grid_mean_longitude, grid_obliquity, grid_longitude, grid_sun}
use Rattle.solar_terms.specs.SunLaws.{SunIsOrdered, SunLiesIn, exact_terms, ObservatoryIsSound}
use Rattle.solar_terms.proofs.Narrowing.{sine_narrows, cosine_narrows}
use Rattle.solar_terms.proofs.RangeLaws.{exactly_ordered, exactly_holds, added_holds, subtracted_holds, scaled_holds}

ruleset orders = (exactly_ordered, sum_ordered, difference_ordered, scale_units_ordered, sine_ordered, cosine_ordered)

ruleset narrowing = (orders, LiesIn_refl, sum_mono, difference_mono, scale_units_mono, sine_narrows, cosine_narrows)

-- ---- in order

mean_anomaly_ordered : (m : Enclosure) → IsOrdered m → IsOrdered (mean_anomaly m)
unfolding mean_anomaly
mean_anomaly_ordered m h = search orders

mean_longitude_ordered : (m : Enclosure) → IsOrdered m → IsOrdered (mean_longitude m)
unfolding mean_longitude
mean_longitude_ordered m h = search orders

obliquity_ordered : (m : Enclosure) → IsOrdered m → IsOrdered (obliquity m)
unfolding obliquity
obliquity_ordered m h = search orders

longitude_ordered : (n : ℕ) (m : Enclosure) → IsOrdered m → IsOrdered (longitude n m)
unfolding longitude
longitude_ordered n m h = search (orders, mean_anomaly_ordered, mean_longitude_ordered) depth 12

exact_sun_ordered : (n : ℕ) (m : Enclosure) → IsOrdered m → SunIsOrdered (exact_sun n m)
unfolding exact_sun
exact_sun_ordered n m h = record {
  sin_l = sine_ordered n _ (longitude_ordered n m h);
  cos_l = cosine_ordered n _ (longitude_ordered n m h);
  sin_e = sine_ordered n _ (obliquity_ordered m h);
  cos_e = cosine_ordered n _ (obliquity_ordered m h);
  q = mean_longitude_ordered m h;
}

-- ---- over fewer minutes, at a greater depth

mean_anomaly_mono : (m m' : Enclosure) → LiesIn m m' → LiesIn (mean_anomaly m) (mean_anomaly m')
unfolding mean_anomaly
mean_anomaly_mono m m' h = search narrowing

mean_longitude_mono : (m m' : Enclosure) → LiesIn m m' → LiesIn (mean_longitude m) (mean_longitude m')
unfolding mean_longitude
mean_longitude_mono m m' h = search narrowing

obliquity_mono : (m m' : Enclosure) → LiesIn m m' → LiesIn (obliquity m) (obliquity m')
unfolding obliquity
obliquity_mono m m' h = search narrowing

longitude_narrows : (n n' : ℕ) (m m' : Enclosure) → n' ≤ n → IsOrdered m → LiesIn m m' → LiesIn (longitude n m) (longitude n' m')
unfolding longitude
longitude_narrows n n' m m' deeper p h = search (narrowing, mean_anomaly_ordered, mean_anomaly_mono, mean_longitude_mono) depth 12

sun_narrows : (n n' : ℕ) (m m' : Enclosure) → n' ≤ n → IsOrdered m → LiesIn m m' → SunLiesIn (exact_sun n m) (exact_sun n' m')
unfolding exact_sun
sun_narrows n n' m m' deeper p h = record {
  sin_l = sine_narrows n n' _ _ deeper (longitude_ordered n m p) (longitude_narrows n n' m m' deeper p h);
  cos_l = cosine_narrows n n' _ _ deeper (longitude_ordered n m p) (longitude_narrows n n' m m' deeper p h);
  sin_e = sine_narrows n n' _ _ deeper (obliquity_ordered m p) (obliquity_mono m m' h);
  cos_e = cosine_narrows n n' _ _ deeper (obliquity_ordered m p) (obliquity_mono m m' h);
  q = mean_longitude_mono m m' h;
}

-- ---- on the grid

mean_anomaly_holds : (m : Enclosure) (r : Range) → LiesIn m (enclosure_of_range r) → LiesIn (mean_anomaly m) (enclosure_of_range (grid_mean_anomaly r))
unfolding mean_anomaly grid_mean_anomaly
mean_anomaly_holds m r h = added_holds _ _ _ _ (exactly_holds _) (scaled_holds _ _ _ h)

mean_longitude_holds : (m : Enclosure) (r : Range) → LiesIn m (enclosure_of_range r) → LiesIn (mean_longitude m) (enclosure_of_range (grid_mean_longitude r))
unfolding mean_longitude grid_mean_longitude
mean_longitude_holds m r h = added_holds _ _ _ _ (exactly_holds _) (scaled_holds _ _ _ h)

obliquity_holds : (m : Enclosure) (r : Range) → LiesIn m (enclosure_of_range r) → LiesIn (obliquity m) (enclosure_of_range (grid_obliquity r))
unfolding obliquity grid_obliquity
obliquity_holds m r h = subtracted_holds _ _ _ _ (exactly_holds _) (scaled_holds _ _ _ h)

longitude_holds : (m : Enclosure) (r : Range) → IsOrdered m → LiesIn m (enclosure_of_range r) → LiesIn (longitude DEPTH m) (enclosure_of_range (grid_longitude r))
unfolding longitude grid_longitude
longitude_holds m r p h =
    search (added_holds, scale_units_holds, sine_holds, sum_ordered, mean_anomaly_ordered, mean_anomaly_holds, mean_longitude_holds) depth 12

grid_sun_holds : (m : Enclosure) (r : Range) → IsOrdered m → LiesIn m (enclosure_of_range r) → SunLiesIn (exact_sun DEPTH m) (exact_terms (grid_sun r))
unfolding exact_sun grid_sun exact_terms
grid_sun_holds m r p h = record {
  sin_l = sine_holds _ _ (longitude_ordered DEPTH m p) (longitude_holds m r p h);
  cos_l = cosine_holds _ _ (longitude_ordered DEPTH m p) (longitude_holds m r p h);
  sin_e = sine_holds _ _ (obliquity_ordered m p) (obliquity_holds m r h);
  cos_e = cosine_holds _ _ (obliquity_ordered m p) (obliquity_holds m r h);
  q = mean_longitude_holds m r h;
}

pub observatory_is_sound : ObservatoryIsSound
observatory_is_sound = record {
  source = record { ordered = exact_sun_ordered; narrows = sun_narrows };
  grid = record { holds = grid_sun_holds };
}

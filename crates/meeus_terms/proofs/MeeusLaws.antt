-- Meeus's sun over fewer minutes and at a greater depth, and on the grid: each law follows from those of the operations.
use Rattle.std.proofs.Common.{ℕ, ◌≤◌, pos, ◌≤ℤ◌, arith, lit≤}
use Rattle.std.proofs.lemmas.Int.{ints}
use Rattle.fixed_interval.specs.Enclosure.{Enclosure, IsOrdered, LiesIn}
use Rattle.fixed_interval.specs.Grid.{Ends, Range, UNIT, DEPTH, enclosure_of, enclosure_of_range}
use Rattle.fixed_interval.proofs.FractionLaws.{from_over}
use Rattle.fixed_interval.proofs.EnclosureLaws.{LiesIn_refl, sum_mono, difference_mono, product_mono, scale_units_mono, sum_ordered, difference_ordered, product_ordered, scale_units_ordered}
use Rattle.fixed_interval.proofs.Inclusion.{scale_units_holds}
use Rattle.trig_series.specs.Sine.{grid_sine}
use Rattle.trig_series.proofs.SineLaws.{sine_ordered, cosine_ordered, sine_holds, cosine_holds, grid_sine_ordered}
use Rattle.solar_terms.specs.SunLaws.{SunIsOrdered, SunLiesIn, exact_terms}
use Rattle.solar_terms.proofs.Narrowing.{sine_narrows, cosine_narrows}
use Rattle.solar_terms.proofs.RangeLaws.{exactly_ordered, exactly_holds, added_holds, subtracted_holds}
use Rattle.meeus_terms.specs.Meeus.{mean_longitude, mean_anomaly, node, first_coefficient, second_coefficient, centre, longitude, mean_obliquity, obliquity, exact_meeus, grid_mean_longitude, grid_mean_anomaly, grid_node, grid_first_coefficient, grid_second_coefficient, grid_centre, grid_longitude, grid_mean_obliquity, grid_obliquity, grid_meeus}
use Rattle.meeus_terms.specs.MeeusLaws.{MeeusIsSound}
use Rattle.meeus_terms.proofs.LineLaws.{IsWithin, line_holds, order_of_held, grid_line_within}
use Rattle.meeus_terms.proofs.Products.{AreFactors, scale_between_holds}
use Rattle.meeus_terms.proofs.Terms.{mean_longitude_line, mean_anomaly_line, node_line, first_coefficient_line, second_coefficient_line, mean_obliquity_line, all_first_coefficients, all_second_coefficients, all_mean_obliquities, first_coefficients, second_coefficients, mean_obliquities}

ruleset orders = (exactly_ordered, sum_ordered, difference_ordered, product_ordered, scale_units_ordered, sine_ordered, cosine_ordered)

ruleset narrowing = (orders, LiesIn_refl, sum_mono, difference_mono, product_mono, scale_units_mono, sine_narrows, cosine_narrows)

-- ---- in order

centre_ordered : (n : ℕ) (m : Enclosure) → IsOrdered m → IsOrdered (centre n m)
unfolding centre
centre_ordered n m h = search (orders, mean_anomaly_line.ordered) depth 12

longitude_ordered : (n : ℕ) (m : Enclosure) → IsOrdered m → IsOrdered (longitude n m)
unfolding longitude
longitude_ordered n m h = search (orders, centre_ordered, mean_longitude_line.ordered, node_line.ordered) depth 12

obliquity_ordered : (n : ℕ) (m : Enclosure) → IsOrdered m → IsOrdered (obliquity n m)
unfolding obliquity
obliquity_ordered n m h = search (orders, mean_obliquity_line.ordered, node_line.ordered) depth 12

exact_meeus_ordered : (n : ℕ) (m : Enclosure) → IsOrdered m → SunIsOrdered (exact_meeus n m)
unfolding exact_meeus
exact_meeus_ordered n m h = record {
  sin_l = sine_ordered n _ (longitude_ordered n m h);
  cos_l = cosine_ordered n _ (longitude_ordered n m h);
  sin_e = sine_ordered n _ (obliquity_ordered n m h);
  cos_e = cosine_ordered n _ (obliquity_ordered n m h);
  q = difference_ordered _ _ (mean_longitude_line.ordered m h) (exactly_ordered _);
}

-- ---- over fewer minutes, at a greater depth

centre_narrows : (n n' : ℕ) (m m' : Enclosure) → n' ≤ n → IsOrdered m → LiesIn m m' → LiesIn (centre n m) (centre n' m')
unfolding centre
centre_narrows n n' m m' deeper p h = search (narrowing, mean_anomaly_line.ordered, first_coefficient_line.ordered, second_coefficient_line.ordered, mean_anomaly_line.mono, first_coefficient_line.mono, second_coefficient_line.mono) depth 12

longitude_narrows : (n n' : ℕ) (m m' : Enclosure) → n' ≤ n → IsOrdered m → LiesIn m m' → LiesIn (longitude n m) (longitude n' m')
unfolding longitude
longitude_narrows n n' m m' deeper p h = search (narrowing, centre_narrows, node_line.ordered, mean_longitude_line.mono, node_line.mono) depth 12

obliquity_narrows : (n n' : ℕ) (m m' : Enclosure) → n' ≤ n → IsOrdered m → LiesIn m m' → LiesIn (obliquity n m) (obliquity n' m')
unfolding obliquity
obliquity_narrows n n' m m' deeper p h = search (narrowing, node_line.ordered, mean_obliquity_line.mono, node_line.mono) depth 12

meeus_narrows : (n n' : ℕ) (m m' : Enclosure) → n' ≤ n → IsOrdered m → LiesIn m m' → SunLiesIn (exact_meeus n m) (exact_meeus n' m')
unfolding exact_meeus
meeus_narrows n n' m m' deeper p h = record {
  sin_l = sine_narrows n n' _ _ deeper (longitude_ordered n m p) (longitude_narrows n n' m m' deeper p h);
  cos_l = cosine_narrows n n' _ _ deeper (longitude_ordered n m p) (longitude_narrows n n' m m' deeper p h);
  sin_e = sine_narrows n n' _ _ deeper (obliquity_ordered n m p) (obliquity_narrows n n' m m' deeper p h);
  cos_e = cosine_narrows n n' _ _ deeper (obliquity_ordered n m p) (obliquity_narrows n n' m m' deeper p h);
  q = difference_mono _ _ _ _ (mean_longitude_line.mono m m' h) (LiesIn_refl _);
}

-- ---- on the grid

mean_longitude_holds : (m : Enclosure) (r : Range) → LiesIn m (enclosure_of_range r) → LiesIn (mean_longitude m) (enclosure_of_range (grid_mean_longitude r))
unfolding grid_mean_longitude
mean_longitude_holds = line_holds _ mean_longitude_line

mean_anomaly_holds : (m : Enclosure) (r : Range) → LiesIn m (enclosure_of_range r) → LiesIn (mean_anomaly m) (enclosure_of_range (grid_mean_anomaly r))
unfolding grid_mean_anomaly
mean_anomaly_holds = line_holds _ mean_anomaly_line

node_holds : (m : Enclosure) (r : Range) → LiesIn m (enclosure_of_range r) → LiesIn (node m) (enclosure_of_range (grid_node r))
unfolding grid_node
node_holds = line_holds _ node_line

mean_obliquity_holds : (m : Enclosure) (r : Range) → LiesIn m (enclosure_of_range r) → LiesIn (mean_obliquity m) (enclosure_of_range (grid_mean_obliquity r))
unfolding grid_mean_obliquity
mean_obliquity_holds = line_holds _ mean_obliquity_line

first_coefficient_holds : (m : Enclosure) (r : Range) → LiesIn m (enclosure_of_range r) → LiesIn (first_coefficient m) (enclosure_of_range (grid_first_coefficient r))
unfolding grid_first_coefficient
first_coefficient_holds = line_holds _ first_coefficient_line

second_coefficient_holds : (m : Enclosure) (r : Range) → LiesIn m (enclosure_of_range r) → LiesIn (second_coefficient m) (enclosure_of_range (grid_second_coefficient r))
unfolding grid_second_coefficient
second_coefficient_holds = line_holds _ second_coefficient_line

pub first_coefficient_within : (r : Range) → r.lo ≤ℤ r.hi → IsWithin (grid_first_coefficient r) all_first_coefficients
unfolding grid_first_coefficient
first_coefficient_within = grid_line_within _ first_coefficient_line _ first_coefficients

pub second_coefficient_within : (r : Range) → r.lo ≤ℤ r.hi → IsWithin (grid_second_coefficient r) all_second_coefficients
unfolding grid_second_coefficient
second_coefficient_within = grid_line_within _ second_coefficient_line _ second_coefficients

pub mean_obliquity_within : (r : Range) → r.lo ≤ℤ r.hi → IsWithin (grid_mean_obliquity r) all_mean_obliquities
unfolding grid_mean_obliquity
mean_obliquity_within = grid_line_within _ mean_obliquity_line _ mean_obliquities

-- a sine and a coefficient
ends_in_order : (a : Ends) → IsOrdered (enclosure_of a) → a.lo ≤ℤ a.hi
unfolding enclosure_of
ends_in_order a h = from_over UNIT _ _ (lit≤ tt) h.ordered

sine_factors : (g c s : Range) → IsWithin c s → pos 0 ≤ℤ s.lo → AreFactors (grid_sine g) c
sine_factors g c s h p = record { ends = ends_in_order _ (grid_sine_ordered g); coefficients = h.ordered; least = omega (arith, ints, p, h.low) }

first_factors : (g r : Range) → r.lo ≤ℤ r.hi → AreFactors (grid_sine g) (grid_first_coefficient r)
first_factors g r h = sine_factors g _ _ (first_coefficient_within r h) (omega (arith, ints))

second_factors : (g r : Range) → r.lo ≤ℤ r.hi → AreFactors (grid_sine g) (grid_second_coefficient r)
second_factors g r h = sine_factors g _ _ (second_coefficient_within r h) (omega (arith, ints))

centre_holds : (m : Enclosure) (r : Range) → IsOrdered m → LiesIn m (enclosure_of_range r) → LiesIn (centre DEPTH m) (enclosure_of_range (grid_centre r))
unfolding centre grid_centre
centre_holds m r p h =
    let o = order_of_held m r p h in
    search (added_holds, scale_units_holds, scale_between_holds, first_factors, second_factors, sine_holds, sine_ordered, sum_ordered, mean_anomaly_holds, first_coefficient_holds, second_coefficient_holds, mean_anomaly_line.ordered, first_coefficient_line.ordered, second_coefficient_line.ordered) depth 12

longitude_holds : (m : Enclosure) (r : Range) → IsOrdered m → LiesIn m (enclosure_of_range r) → LiesIn (longitude DEPTH m) (enclosure_of_range (grid_longitude r))
unfolding longitude grid_longitude
longitude_holds m r p h =
    search (added_holds, subtracted_holds, exactly_holds, scale_units_holds, sine_holds, centre_holds, node_holds, mean_longitude_holds, node_line.ordered) depth 12

obliquity_holds : (m : Enclosure) (r : Range) → IsOrdered m → LiesIn m (enclosure_of_range r) → LiesIn (obliquity DEPTH m) (enclosure_of_range (grid_obliquity r))
unfolding obliquity grid_obliquity
obliquity_holds m r p h =
    search (added_holds, scale_units_holds, cosine_holds, node_holds, mean_obliquity_holds, node_line.ordered) depth 12

grid_meeus_holds : (m : Enclosure) (r : Range) → IsOrdered m → LiesIn m (enclosure_of_range r) → SunLiesIn (exact_meeus DEPTH m) (exact_terms (grid_meeus r))
unfolding exact_meeus grid_meeus exact_terms
grid_meeus_holds m r p h = record {
  sin_l = sine_holds _ _ (longitude_ordered DEPTH m p) (longitude_holds m r p h);
  cos_l = cosine_holds _ _ (longitude_ordered DEPTH m p) (longitude_holds m r p h);
  sin_e = sine_holds _ _ (obliquity_ordered DEPTH m p) (obliquity_holds m r p h);
  cos_e = cosine_holds _ _ (obliquity_ordered DEPTH m p) (obliquity_holds m r p h);
  q = subtracted_holds _ _ _ _ (mean_longitude_holds m r h) (exactly_holds _);
}

pub meeus_is_sound : MeeusIsSound
meeus_is_sound = record {
  source = record { ordered = exact_meeus_ordered; narrows = meeus_narrows };
  grid = record { holds = grid_meeus_holds };
}

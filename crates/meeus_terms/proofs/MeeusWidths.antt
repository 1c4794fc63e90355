-- How great and how wide Meeus's sun is at one minute.
use Rattle.std.proofs.Common.{◌≡◌, ℕ, zero, suc, ◌+◌, ◌-◌, ◌*◌, ◌/◌, ◌^◌, ◌≤◌, ℤ, pos, neg_ℤ, ◌+ℤ◌, ◌*ℤ◌, ◌≤ℤ◌, unsigned_abs, lit≤, arith, refl, subst}
use Rattle.std.proofs.lemmas.Int.{ints, clamps}
use Rattle.fixed_interval.specs.Bound.{IsBounded, IsBoundedRange, scale_bound}
use Rattle.fixed_interval.specs.Fraction.{over, negate, plus, times, least, greatest, floor_at, ceil_at}
use Rattle.fixed_interval.specs.Enclosure.{LiesIn, point, negated, sum, product, divide_by, times_ratio, magnitude}
use Rattle.fixed_interval.specs.Grid.{Ends, Range, UNIT, enclosure_of, enclosure_of_range, rounded_out, grid_negated, grid_sum, grid_product, grid_divide_by, grid_times_ratio, grid_scale_units}
use Rattle.fixed_interval.specs.Whole.{floor_over, ceil_over}
use Rattle.fixed_interval.proofs.GridLaws.{grid_scale_units-is}
use Rattle.fixed_interval.proofs.Inclusion.{lower_end, upper_end, ranges_lie}
use Rattle.fixed_interval.proofs.Whole.{div-parts}
use Rattle.fixed_interval.proofs.Widths.{grid_scale_units_bounded, more_bounded}
use Rattle.trig_series.specs.Laws.{sine_limit, sine_bound}
use Rattle.trig_series.specs.Pi.{pi, grid_pi, machin, arctan_term, arctan_below, arctan_above}
use Rattle.trig_series.specs.Quarters.{first_quarter, last_quarter, grid_piece, grid_hull_from, grid_over_quarters}
use Rattle.trig_series.specs.Series.{margin, next_grid_term, grid_term, grid_partial_sum, grid_margin, grid_series, grid_sine_series}
use Rattle.trig_series.specs.Sine.{grid_quarters_on, grid_sine_beyond, grid_sine, grid_cosine}
use Rattle.trig_series.proofs.SineLaws.{grid_sine_mono}
use Rattle.trig_series.proofs.SineWidths.{grid_sine_narrow, grid_cosine_narrow}
use Rattle.trig_series.specs.Ranges.{whole, added, subtracted}
use Rattle.meeus_terms.specs.Meeus.{mean_longitude, mean_anomaly, node, first_coefficient, second_coefficient, mean_obliquity, grid_mean_longitude, grid_mean_anomaly, grid_node, grid_first_coefficient, grid_second_coefficient, grid_centre, grid_longitude, grid_mean_obliquity, grid_obliquity, grid_meeus}
use Rattle.meeus_terms.specs.MeeusLaws.{MeeusIsNarrow}
use Rattle.meeus_terms.specs.Scaled.{hull_of, grid_scale_between}
use Rattle.meeus_terms.proofs.LineLaws.{IsWithin, IsOneUnit, rising_at_one, falling_at_one}
use Rattle.meeus_terms.proofs.MeeusLaws.{first_coefficient_within, second_coefficient_within, mean_obliquity_within}

-- a range of at most u units more than one
record IsNarrow (u : ℕ) (r : Range) : Type 0 where
  ordered : r.lo ≤ℤ r.hi
  narrow : r.hi ≤ℤ (r.lo +ℤ pos u)

-- ---- the lines at one minute

one_mean_longitude : (r : Range) → r.hi ≡ r.lo → IsOneUnit (grid_mean_longitude r)
unfolding grid_mean_longitude mean_longitude
one_mean_longitude r e = rising_at_one _ r e

one_mean_anomaly : (r : Range) → r.hi ≡ r.lo → IsOneUnit (grid_mean_anomaly r)
unfolding grid_mean_anomaly mean_anomaly
one_mean_anomaly r e = rising_at_one _ r e

one_node : (r : Range) → r.hi ≡ r.lo → IsOneUnit (grid_node r)
unfolding grid_node node
one_node r e = falling_at_one _ r e

one_first_coefficient : (r : Range) → r.hi ≡ r.lo → IsOneUnit (grid_first_coefficient r)
unfolding grid_first_coefficient first_coefficient
one_first_coefficient r e = falling_at_one _ r e

one_second_coefficient : (r : Range) → r.hi ≡ r.lo → IsOneUnit (grid_second_coefficient r)
unfolding grid_second_coefficient second_coefficient
one_second_coefficient r e = falling_at_one _ r e

one_mean_obliquity : (r : Range) → r.hi ≡ r.lo → IsOneUnit (grid_mean_obliquity r)
unfolding grid_mean_obliquity mean_obliquity
one_mean_obliquity r e = falling_at_one _ r e

-- ---- products with sines of narrow angles

sine_narrow : (r : Range) → IsNarrow 4 r → IsBounded (grid_sine r) (sine_bound 4)
sine_narrow r h = grid_sine_narrow r 4 (lit≤ tt) h.ordered h.narrow

cosine_narrow : (r : Range) → IsNarrow 4 r → IsBounded (grid_cosine r) (sine_bound 4)
cosine_narrow r h = grid_cosine_narrow r 4 (lit≤ tt) h.ordered h.narrow

scaled_bounded : (a : Ends) (n : ℕ) → IsBounded a (sine_bound 4) → n ≤ 2 ^ 39 → IsBoundedRange (grid_scale_units a n) (record { reach = 2 ^ 41; width = 2 })
unfolding scale_bound
scaled_bounded a n h k = more_bounded _ _ _ _ (grid_scale_units_bounded a (sine_bound 4) n h) (omega arith) (omega arith)

scaled_narrow : (a : Ends) (n : ℕ) → IsBounded a (sine_bound 4) → n ≤ 2 ^ 39 → IsNarrow 2 (grid_scale_units a n)
scaled_narrow a n h k = let s = scaled_bounded a n h k in record { ordered = s.ordered; narrow = s.width }

-- one more coefficient moves a product by at most 2 units
record AreNear (r s : Range) : Type 0 where
  low : r.lo ≤ℤ (s.lo +ℤ pos 2)
  high : s.hi ≤ℤ (r.hi +ℤ pos 2)

floor_near : (x y : ℤ) → unsigned_abs y ≤ 2 * UNIT → floor_over x UNIT ≤ℤ (floor_over (x +ℤ y) UNIT +ℤ pos 2)
floor_near x y h = omega (arith, ints, div-parts x UNIT (lit≤ tt), div-parts (x +ℤ y) UNIT (lit≤ tt))

ceil_near : (x y : ℤ) → unsigned_abs y ≤ 2 * UNIT → ceil_over (x +ℤ y) UNIT ≤ℤ (ceil_over x UNIT +ℤ pos 2)
ceil_near x y h = omega (arith, ints, div-parts (neg_ℤ x) UNIT (lit≤ tt), div-parts (neg_ℤ (x +ℤ y)) UNIT (lit≤ tt))

one_more : (z : ℤ) (n : ℕ) → z *ℤ pos (n + 1) ≡ (z *ℤ pos n) +ℤ z
one_more z n = omega (arith, ints)

next_near : (a : Ends) (n : ℕ) → IsBounded a (sine_bound 4) → AreNear (grid_scale_units a n) (grid_scale_units a (n + 1))
next_near a n h =
    rw (grid_scale_units-is a n, grid_scale_units-is a (n + 1), one_more a.lo n, one_more a.hi n)
    (record { low = floor_near (a.lo *ℤ pos n) a.lo (omega (arith, h.reach)); high = ceil_near (a.hi *ℤ pos n) a.hi (omega (arith, h.reach)) })

same_near : (r : Range) → AreNear r r
same_near r = record { low = omega (arith, ints); high = omega (arith, ints) }

further_near : (a : Ends) (m k : ℕ) → k ≤ 1 → IsBounded a (sine_bound 4) → AreNear (grid_scale_units a m) (grid_scale_units a (m + k))
further_near a m zero h b = subst (λ (j : ℕ). AreNear (grid_scale_units a m) (grid_scale_units a j)) (omega arith) (same_near _)
further_near a m (suc zero) h b = next_near a m b
further_near a m (suc (suc k)) h b = absurd (omega arith)

products_near : (a : Ends) (m n : ℕ) → m ≤ n → n ≤ m + 1 → IsBounded a (sine_bound 4) → AreNear (grid_scale_units a m) (grid_scale_units a n)
products_near a m n h k b =
    let e : m + (n - m) ≡ n = omega arith in
    subst (λ (j : ℕ). AreNear (grid_scale_units a m) (grid_scale_units a j)) e (further_near a m (n - m) (omega arith) b)

joined_narrow : (r s : Range) → IsNarrow 2 r → IsNarrow 2 s → AreNear r s → IsNarrow 8 (hull_of r s)
unfolding hull_of
joined_narrow r s h k n = record { ordered = omega (arith, ints, clamps, h.ordered); narrow = omega (arith, ints, clamps, h.narrow, n.low, n.high) }

between_narrow : (a : Ends) (c s : Range) → IsBounded a (sine_bound 4) → IsOneUnit c → IsWithin c s → pos 0 ≤ℤ s.lo → s.hi ≤ℤ pos (2 ^ 39) → IsNarrow 8 (grid_scale_between a c)
unfolding grid_scale_between
between_narrow a c s b one w low high =
    joined_narrow _ _
    (scaled_narrow a (unsigned_abs c.lo) b (omega (arith, ints, w.low, w.high, w.ordered)))
    (scaled_narrow a (unsigned_abs c.hi) b (omega (arith, ints, w.low, w.high, w.ordered)))
    (products_near a (unsigned_abs c.lo) (unsigned_abs c.hi) (omega (arith, ints, w.low, w.ordered)) (omega (arith, ints, w.low, one.narrow, w.ordered)) b)

-- ---- the longitude

centre_narrow : (r : Range) → r.hi ≡ r.lo → IsNarrow 20 (grid_centre r)
unfolding grid_centre added
centre_narrow r e =
    let g = grid_mean_anomaly r in
    let one = one_mean_anomaly r e in
    let double = added g g in
    let triple = added double g in
    let order : r.lo ≤ℤ r.hi = omega (arith, ints, e) in
    let first = between_narrow (grid_sine g) (grid_first_coefficient r) _ (sine_narrow g (record { ordered = one.ordered; narrow = omega (arith, ints, one.narrow) })) (one_first_coefficient r e) (first_coefficient_within r order) (omega (arith, ints)) (omega (arith, ints)) in
    let second = between_narrow (grid_sine double) (grid_second_coefficient r) _ (sine_narrow double (record { ordered = omega (arith, ints, one.ordered); narrow = omega (arith, ints, one.narrow) })) (one_second_coefficient r e) (second_coefficient_within r order) (omega (arith, ints)) (omega (arith, ints)) in
    let third = scaled_narrow (grid_sine triple) 41_616_000 (sine_narrow triple (record { ordered = omega (arith, ints, one.ordered); narrow = omega (arith, ints, one.narrow) })) (lit≤ tt) in
    record { ordered = omega (arith, ints, first.ordered, second.ordered, third.ordered); narrow = omega (arith, ints, first.narrow, second.narrow, third.narrow) }

node_narrow : (r : Range) → r.hi ≡ r.lo → IsNarrow 4 (grid_node r)
node_narrow r e = let one = one_node r e in record { ordered = one.ordered; narrow = omega (arith, ints, one.narrow) }

longitude_narrow : (r : Range) → r.hi ≡ r.lo → IsNarrow 24 (grid_longitude r)
unfolding grid_longitude added subtracted whole
longitude_narrow r e =
    let q = one_mean_longitude r e in
    let centre = centre_narrow r e in
    let nutation = scaled_narrow (grid_sine (grid_node r)) 688320000 (sine_narrow _ (node_narrow r e)) (lit≤ tt) in
    record { ordered = omega (arith, ints, q.ordered, centre.ordered, nutation.ordered); narrow = omega (arith, ints, q.narrow, centre.narrow, nutation.narrow) }

-- ---- the obliquity, and its sine of at most 0.42

nutation_of_obliquity : (r : Range) → r.hi ≡ r.lo → IsBoundedRange (grid_scale_units (grid_cosine (grid_node r)) 368640000) (record { reach = 491_520_000; width = 2 })
unfolding scale_bound
nutation_of_obliquity r e =
    more_bounded _ _ _ _ (grid_scale_units_bounded _ (sine_bound 4) 368640000 (cosine_narrow _ (node_narrow r e))) (omega arith) (omega arith)

obliquity_narrow : (r : Range) → r.hi ≡ r.lo → IsNarrow 4 (grid_obliquity r)
unfolding grid_obliquity added
obliquity_narrow r e =
    let mean = one_mean_obliquity r e in
    let nutation = nutation_of_obliquity r e in
    record { ordered = omega (arith, ints, mean.ordered, nutation.ordered); narrow = omega (arith, ints, mean.narrow, nutation.width) }

-- every obliquity within the limits of the minutes
abbrev all_obliquities : Range
all_obliquities = record { lo = pos 3_372_872_346_407; hi = pos 3_377_643_445_303 }

abbrev sines : Ends
sines = record { lo = pos 28640261080118977; hi = pos 28685465776125420 }

sine_of_obliquities : grid_sine all_obliquities ≡ sines
unfolding grid_sine grid_over_quarters first_quarter last_quarter grid_hull_from grid_sine_beyond grid_piece grid_quarters_on grid_pi pi machin arctan_term arctan_below arctan_above over plus negate times rounded_out floor_at ceil_at least greatest point negated sum product divide_by magnitude times_ratio enclosure_of enclosure_of_range grid_negated grid_sum grid_product grid_divide_by grid_times_ratio next_grid_term grid_term grid_partial_sum margin grid_margin grid_series grid_sine_series
sine_of_obliquities = refl

obliquity_among : (r : Range) → r.hi ≡ r.lo → LiesIn (enclosure_of_range (grid_obliquity r)) (enclosure_of_range all_obliquities)
unfolding grid_obliquity added
obliquity_among r e =
    let mean = mean_obliquity_within r (omega (arith, ints, e)) in
    let nutation = nutation_of_obliquity r e in
    ranges_lie _ all_obliquities (omega (arith, ints, mean.low, nutation.reach)) (omega (arith, ints, mean.high, nutation.reach))

sine_among : (r : Range) → r.hi ≡ r.lo → LiesIn (enclosure_of (grid_sine (grid_obliquity r))) (enclosure_of sines)
sine_among r e =
    subst (λ (s : Ends). LiesIn (enclosure_of (grid_sine (grid_obliquity r))) (enclosure_of s)) sine_of_obliquities
    (grid_sine_mono (grid_obliquity r) all_obliquities (obliquity_narrow r e).ordered (obliquity_among r e))

smaller : (a : Ends) (w v : ℕ) → IsBounded a (record { reach = sine_limit; width = w }) → w ≤ v → pos 28640261080118977 ≤ℤ a.lo → a.hi ≤ℤ pos 28685465776125420 → IsBounded a (record { reach = 42 * UNIT / 100; width = v })
smaller a w v h k low high = record { ordered = h.ordered; reach = omega (arith, ints, h.ordered); width = omega (arith, ints, h.width) }

-- ---- the sun

pub meeus_is_narrow : MeeusIsNarrow
unfolding grid_meeus subtracted whole
meeus_is_narrow r e limit =
    let l = longitude_narrow r e in
    let o = obliquity_narrow r e in
    let q = one_mean_longitude r e in
    let among = sine_among r e in
    record {
      sin_l = more_bounded _ _ _ _ (grid_sine_narrow (grid_longitude r) 24 (lit≤ tt) l.ordered l.narrow) (lit≤ tt) (lit≤ tt);
      cos_l = more_bounded _ _ _ _ (grid_cosine_narrow (grid_longitude r) 24 (lit≤ tt) l.ordered l.narrow) (lit≤ tt) (lit≤ tt);
      sin_e = smaller _ _ _ (sine_narrow _ o) (lit≤ tt) (lower_end _ sines among) (upper_end _ sines among);
      cos_e = more_bounded _ _ _ _ (cosine_narrow _ o) (lit≤ tt) (lit≤ tt);
      q_ordered = omega (arith, ints, q.ordered);
      q_narrow = omega (arith, ints, q.narrow);
    }

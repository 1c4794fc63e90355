-- How great and how wide the observatory's sun is at one minute.
use Rattle.std.proofs.Common.{◌≡◌, ℕ, ◌*◌, ◌/◌, ◌^◌, ◌≤◌, pos, ◌+ℤ◌, ◌≤ℤ◌, unsigned_abs, lit≤, arith, refl, subst}
use Rattle.std.proofs.lemmas.Int.{ints}
use Rattle.fixed_interval.specs.Bound.{IsBounded, IsBoundedRange, scale_bound}
use Rattle.fixed_interval.specs.Fraction.{over, negate, plus, times, least, greatest, floor_at, ceil_at}
use Rattle.fixed_interval.specs.Enclosure.{LiesIn, point, negated, sum, product, divide_by, times_ratio, magnitude}
use Rattle.fixed_interval.specs.Grid.{Ends, Range, UNIT, enclosure_of, enclosure_of_range, rounded_out, grid_negated, grid_sum, grid_product, grid_divide_by, grid_times_ratio, grid_scale_units}
use Rattle.fixed_interval.proofs.Inclusion.{lower_end, upper_end, ranges_lie}
use Rattle.fixed_interval.proofs.Widths.{grid_scale_units_bounded, more_bounded}
use Rattle.trig_series.specs.Laws.{sine_limit, sine_bound}
use Rattle.trig_series.specs.Pi.{pi, grid_pi, machin, arctan_term, arctan_below, arctan_above}
use Rattle.trig_series.specs.Quarters.{first_quarter, last_quarter, grid_piece, grid_hull_from, grid_over_quarters}
use Rattle.trig_series.specs.Series.{margin, next_grid_term, grid_term, grid_partial_sum, grid_margin, grid_series, grid_sine_series}
use Rattle.trig_series.specs.Sine.{grid_quarters_on, grid_sine_beyond, grid_sine}
use Rattle.trig_series.proofs.SineLaws.{grid_sine_mono}
use Rattle.trig_series.proofs.SineWidths.{grid_sine_narrow, grid_cosine_narrow}
use Rattle.trig_series.specs.Ranges.{whole, added, subtracted, scaled}
use Rattle.solar_terms.specs.Sun.{grid_mean_anomaly, grid_mean_longitude, grid_obliquity, grid_longitude, grid_sun}
use Rattle.solar_terms.specs.SunWidths.{ObservatoryIsNarrow}

record IsFourUnits (r : Range) : Type 0 where
  ordered : r.lo ≤ℤ r.hi
  narrow : r.hi ≤ℤ (r.lo +ℤ pos 4)

-- ---- the angles at one minute

one_anomaly : (r : Range) → r.hi ≡ r.lo → (grid_mean_anomaly r).hi ≡ (grid_mean_anomaly r).lo
unfolding grid_mean_anomaly whole added scaled
one_anomaly r e = omega (arith, ints, e)

one_mean_longitude : (r : Range) → r.hi ≡ r.lo → (grid_mean_longitude r).hi ≡ (grid_mean_longitude r).lo
unfolding grid_mean_longitude whole added scaled
one_mean_longitude r e = omega (arith, ints, e)

one_obliquity : (r : Range) → r.hi ≡ r.lo → (grid_obliquity r).hi ≡ (grid_obliquity r).lo
unfolding grid_obliquity whole subtracted scaled
one_obliquity r e = omega (arith, ints, e)

-- a term of the equation of the centre, of one angle: at most 3 units wide
term_narrow : (r : Range) (n : ℕ) → r.hi ≡ r.lo → n ≤ 2 ^ 39 → IsBoundedRange (grid_scale_units (grid_sine r) n) (record { reach = 2 ^ 41; width = 2 })
unfolding scale_bound
term_narrow r n e h =
    let bounded = grid_scale_units_bounded (grid_sine r) (sine_bound 0) n (grid_sine_narrow r 0 (lit≤ tt) (omega (arith, ints, e)) (omega (arith, ints, e))) in
    more_bounded _ _ _ _ bounded (omega arith) (omega arith)

double_anomaly : (r : Range) → r.hi ≡ r.lo → (added r r).hi ≡ (added r r).lo
unfolding added
double_anomaly r e = omega (arith, ints, e)

longitude_narrow : (r : Range) → r.hi ≡ r.lo → IsFourUnits (grid_longitude r)
unfolding grid_longitude added
longitude_narrow r e =
    let g = grid_mean_anomaly r in
    let first = term_narrow g 275760000000 (one_anomaly r e) (lit≤ tt) in
    let second = term_narrow (added g g) 2880000000 (double_anomaly g (one_anomaly r e)) (lit≤ tt) in
    let q = one_mean_longitude r e in
    record { ordered = omega (arith, ints, first.ordered, second.ordered, q); narrow = omega (arith, ints, first.width, second.width, q) }

-- ---- the sine of the obliquity is at most 0.42

-- every obliquity within the limits of the minutes
abbrev all_obliquities : Range
all_obliquities = record { lo = pos 3_373_300_800_000; hi = pos 3_377_131_200_000 }

abbrev sines : Ends
sines = record { lo = pos 28644382248719973; hi = pos 28680674040111023 }

sine_of_obliquities : grid_sine all_obliquities ≡ sines
unfolding grid_sine grid_over_quarters first_quarter last_quarter grid_hull_from grid_sine_beyond grid_piece grid_quarters_on grid_pi pi machin arctan_term arctan_below arctan_above over plus negate times rounded_out floor_at ceil_at least greatest point negated sum product divide_by magnitude times_ratio enclosure_of enclosure_of_range grid_negated grid_sum grid_product grid_divide_by grid_times_ratio next_grid_term grid_term grid_partial_sum margin grid_margin grid_series grid_sine_series
sine_of_obliquities = refl

obliquity_among : (r : Range) → r.hi ≡ r.lo → unsigned_abs r.lo ≤ 53_200_000 → LiesIn (enclosure_of_range (grid_obliquity r)) (enclosure_of_range all_obliquities)
unfolding grid_obliquity whole subtracted scaled
obliquity_among r e h = ranges_lie _ all_obliquities (omega (arith, ints, e)) (omega (arith, ints, e))

sine_among : (r : Range) → r.hi ≡ r.lo → unsigned_abs r.lo ≤ 53_200_000 → LiesIn (enclosure_of (grid_sine (grid_obliquity r))) (enclosure_of sines)
sine_among r e h =
    subst (λ (s : Ends). LiesIn (enclosure_of (grid_sine (grid_obliquity r))) (enclosure_of s)) sine_of_obliquities
    (grid_sine_mono (grid_obliquity r) all_obliquities (omega (arith, ints, one_obliquity r e)) (obliquity_among r e h))

smaller : (a : Ends) (w v : ℕ) → IsBounded a (record { reach = sine_limit; width = w }) → w ≤ v → pos 28644382248719973 ≤ℤ a.lo → a.hi ≤ℤ pos 28680674040111023 → IsBounded a (record { reach = 42 * UNIT / 100; width = v })
smaller a w v h k low high = record { ordered = h.ordered; reach = omega (arith, ints, h.ordered); width = omega (arith, ints, h.width) }

-- ---- the sun

pub observatory_is_narrow : ObservatoryIsNarrow
unfolding grid_sun
observatory_is_narrow r e limit =
    let l = longitude_narrow r e in
    let o = one_obliquity r e in
    let among = sine_among r e limit in
    record {
      sin_l = more_bounded _ _ _ _ (grid_sine_narrow (grid_longitude r) 4 (lit≤ tt) l.ordered l.narrow) (lit≤ tt) (lit≤ tt);
      cos_l = more_bounded _ _ _ _ (grid_cosine_narrow (grid_longitude r) 4 (lit≤ tt) l.ordered l.narrow) (lit≤ tt) (lit≤ tt);
      sin_e = smaller _ _ _ (grid_sine_narrow (grid_obliquity r) 0 (lit≤ tt) (omega (arith, ints, o)) (omega (arith, ints, o))) (lit≤ tt) (lower_end _ sines among) (upper_end _ sines among);
      cos_e = more_bounded _ _ _ _ (grid_cosine_narrow (grid_obliquity r) 0 (lit≤ tt) (omega (arith, ints, o)) (omega (arith, ints, o))) (lit≤ tt) (lit≤ tt);
      q_ordered = omega (arith, ints, one_mean_longitude r e);
      q_narrow = omega (arith, ints, one_mean_longitude r e);
    }

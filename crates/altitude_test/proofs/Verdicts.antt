-- Each condition has one side, and the grid shows it.
use Rattle.std.proofs.Common.{ℕ, suc, max, ℤ, ◌≤ℤ◌, arith}
use Rattle.fixed_interval.specs.Enclosure.{Enclosure, IsOrdered, LiesIn, point}
use Rattle.fixed_interval.specs.Grid.{Ends, Range, DEPTH, enclosure_of, enclosure_of_range}
use Rattle.fixed_interval.proofs.FractionLaws.{over_mono}
use Rattle.fixed_interval.proofs.EnclosureLaws.{LiesIn_refl, point_ordered, sum_ordered, difference_ordered, product_ordered, above_zero, below_zero, above_not_below}
use Rattle.fixed_interval.proofs.Inclusion.{above_of_ends, below_of_ends}
use Rattle.trig_series.proofs.SineLaws.{sine_ordered}
use Rattle.solar_terms.specs.Sun.{SunTerms}
use Rattle.solar_terms.specs.SunLaws.{SunSource, IsSunSource, GridHoldsSun, exact_terms}
use Rattle.solar_terms.proofs.Narrowing.{Narrows, lies_deeper}
use Rattle.altitude_test.specs.Values.{Box, exact_altitude_value, exact_meridian_value}
use Rattle.altitude_test.specs.ValueLaws.{exact_box, IsPartOf}
use Rattle.altitude_test.specs.Conditions.{Spot, box_at, minute_at, altitude_at, meridian_at}
use Rattle.altitude_test.specs.Verdicts.{IsAmong, IsOneSided, ShowsSide, AltitudeIsOneSided, MeridianIsOneSided, GridShowsAltitude, GridShowsMeridian}
use Rattle.altitude_test.proofs.ValueLaws.{altitude_sine_ordered, altitude_narrows, meridian_narrows, grid_altitude_holds, grid_meridian_holds}

-- ---- any value

-- where the enclosures are in order and narrow, those above and below zero meet at the greater depth
pub one_sided_value : (value : ℕ → Enclosure) → ((n : ℕ) → IsOrdered (value n)) → Narrows value → IsOneSided value
one_sided_value value ordered narrows = record {
  one_sided = λ above below.
      let n = max above.depth below.depth in
      above_not_below (value n) (ordered n)
      (above_zero _ _ (lies_deeper value narrows n above.depth (omega arith)) above.found)
      (below_zero _ _ (lies_deeper value narrows n below.depth (omega arith)) below.found);
}

-- the grid shows the side of what it holds
pub shown_side : (e : Ends) (value : ℕ → Enclosure) → LiesIn (value DEPTH) (enclosure_of e) → ShowsSide e value
shown_side e value h = record {
  above = λ s. record { depth = DEPTH; from_one = omega arith; found = above_zero _ _ h (above_of_ends e s) };
  below = λ s. record { depth = DEPTH; from_one = omega arith; found = below_zero _ _ h (below_of_ends e s) };
}

-- ---- one place and one minute

-- at a greater depth the sun, the minute and the place are parts of what they were
pub deeper_part : (sun : SunSource) → IsSunSource sun → (k : ℤ) (p : Spot) (n : ℕ) → IsPartOf (sun (suc n) (minute_at k)) (sun n (minute_at k)) (minute_at k) (minute_at k) (box_at p) (box_at p)
unfolding minute_at box_at
deeper_part sun source k p n = record {
  sun_ordered = source.ordered (suc n) _ (point_ordered _);
  minutes_ordered = point_ordered _;
  x_ordered = point_ordered _;
  y_ordered = point_ordered _;
  sun = source.narrows (suc n) n _ _ (omega arith) (point_ordered _) (LiesIn_refl _);
  minutes = LiesIn_refl _;
  x = LiesIn_refl _;
  y = LiesIn_refl _;
}

minute_ordered : (k : ℤ) → IsOrdered (minute_at k)
unfolding minute_at
minute_ordered k = point_ordered _

minute_among : (k : ℤ) (r : Range) → r.lo ≤ℤ k → k ≤ℤ r.hi → LiesIn (minute_at k) (enclosure_of_range r)
unfolding minute_at point enclosure_of_range
minute_among k r low high = record { low = over_mono 1 _ _ low; high = over_mono 1 _ _ high }

-- and they are parts of the sun, the minutes and the box on the grid
pub among_part : (sun : SunSource) (grid : Range → SunTerms) → IsSunSource sun → GridHoldsSun sun grid → (k : ℤ) (p : Spot) (r : Range) (c : Box) → IsAmong k p r c → IsPartOf (sun DEPTH (minute_at k)) (exact_terms (grid r)) (minute_at k) (enclosure_of_range r) (box_at p) (exact_box c)
unfolding box_at exact_box
among_part sun grid source holds k p r c among =
    let ordered : IsOrdered (minute_at k) = minute_ordered k in
    let within = minute_among k r among.not_before among.not_after in
    record {
      sun_ordered = source.ordered DEPTH _ ordered;
      minutes_ordered = ordered;
      x_ordered = point_ordered _;
      y_ordered = point_ordered _;
      sun = holds.holds _ r ordered within;
      minutes = within;
      x = among.x;
      y = among.y;
    }

-- ---- the two values

altitude_ordered : (sun : SunSource) (k : ℤ) (p : Spot) (a : Enclosure) (n : ℕ) → IsOrdered a → IsOrdered (altitude_at sun k p a n)
unfolding altitude_at exact_altitude_value
altitude_ordered sun k p a n o = sum_ordered _ _ (altitude_sine_ordered n _ _ _) (sine_ordered n a o)

altitude_at_narrows : (sun : SunSource) → IsSunSource sun → (k : ℤ) (p : Spot) (a : Enclosure) → IsOrdered a → Narrows (altitude_at sun k p a)
unfolding altitude_at
altitude_at_narrows sun source k p a o n =
    altitude_narrows (suc n) n _ _ _ _ _ _ a a (omega arith) (deeper_part sun source k p n) o (LiesIn_refl a)

pub altitude_is_one_sided : AltitudeIsOneSided
altitude_is_one_sided sun source k p a o =
    one_sided_value (altitude_at sun k p a) (λ n. altitude_ordered sun k p a n o) (altitude_at_narrows sun source k p a o)

meridian_ordered : (sun : SunSource) (k : ℤ) (p : Spot) (n : ℕ) → IsOrdered (meridian_at sun k p n)
unfolding meridian_at exact_meridian_value
meridian_ordered sun k p n = difference_ordered _ _ (product_ordered _ _) (product_ordered _ _)

meridian_at_narrows : (sun : SunSource) → IsSunSource sun → (k : ℤ) (p : Spot) → Narrows (meridian_at sun k p)
unfolding meridian_at
meridian_at_narrows sun source k p n =
    meridian_narrows (suc n) n _ _ _ _ _ _ (omega arith) (deeper_part sun source k p n)

pub meridian_is_one_sided : MeridianIsOneSided
meridian_is_one_sided sun source k p = one_sided_value (meridian_at sun k p) (meridian_ordered sun k p) (meridian_at_narrows sun source k p)

pub grid_shows_altitude : GridShowsAltitude
unfolding altitude_at
grid_shows_altitude sun grid source holds k p r c among a angle o h =
    shown_side _ _ (grid_altitude_holds _ _ _ _ _ c a angle (among_part sun grid source holds k p r c among) o h)

pub grid_shows_meridian : GridShowsMeridian
unfolding meridian_at
grid_shows_meridian sun grid source holds k p r c among =
    shown_side _ _ (grid_meridian_holds _ _ _ _ _ c (among_part sun grid source holds k p r c among))

-- That a verdict is true of the sky: the ends on the grid show on which side of zero the exact value lies.
use Rattle.std.proofs.Common.{◌≡◌, Bool, true, false, cond, refl, arith}
use Rattle.std.proofs.lemmas.Int.{ints}
use Rattle.std.specs.Prelude.{ℕ, ◌≤◌, ℤ, pos, ◌<ℤ◌, ◌≤ℤ◌, ◌*ℤ◌, int_lt, unsigned_abs}
use Rattle.fixed_interval.specs.Fraction.{over}
use Rattle.fixed_interval.specs.Enclosure.{IsOrdered, LiesIn}
use Rattle.fixed_interval.specs.Enclosure.{point as exact_point}
use Rattle.fixed_interval.specs.Grid.{Ends, enclosure_of_range}
use Rattle.fixed_interval.proofs.FractionLaws.{≤ᶠ_refl}
use Rattle.fixed_interval.proofs.EnclosureLaws.{LiesIn_refl}
use Rattle.meeus_terms.specs.Suns.{exact_sun_of, grid_sun_of}
use Rattle.meeus_terms.proofs.SunLaws.{suns_are_sound}
use Rattle.altitude_test.specs.Verdicts.{IsAmong, ShowsSide}
use Rattle.altitude_test.specs.Tolerance.{IsNarrowRange, IsSmallest, ShowsNear}
use Rattle.altitude_test.proofs.Tolerance.{open_altitude_is_near, open_meridian_is_near}
use Rattle.altitude_test.proofs.Verdicts.{grid_shows_altitude, grid_shows_meridian}
use Rattle.asr_test.proofs.Tolerance.{open_asr_is_near}
use Rattle.asr_test.proofs.AsrLaws.{grid_shows_asr}
use Rattle.sun_verdict.proofs.VerdictLemmas.{small_within}
use Rattle.sun_verdict.specs.Request.{IsInRange}
use Rattle.sun_verdict.specs.Truth.{spot_of, asked_at, tolerance_bits, IsTrueOfSky}
use Rattle.sun_verdict.specs.Verdict.{point, place_of, angle_of, value_at, value_of, side_of, verdict_of}
use Rattle.sun_verdict.specs.declared.request.Question.{Question}
use Rattle.sun_verdict.specs.declared.request.Question.TheVariants.{Altitude, Meridian, Shadow}
use Rattle.sun_verdict.specs.declared.request.Request.{Request}
use Rattle.sun_verdict.specs.declared.verdict.Verdict.TheVariants.{Above, Below, Open}

-- the verdict above says that both ends are above zero, and below that both are below
pub side_is_above : (e : Ends) → side_of e ≡ Above → pos 0 <ℤ e.lo
side_is_above e above = by (int_lt (pos 0) e.lo) (int_lt e.hi (pos 0)) refl above where
  by : (t u : Bool) → int_lt (pos 0) e.lo ≡ t → cond t Above (cond u Below Open) ≡ Above → pos 0 <ℤ e.lo
  by true u is_above same = omega (arith, ints, is_above)
  by false true is_above same = absurd cc
  by false false is_above same = absurd cc

pub side_is_below : (e : Ends) → side_of e ≡ Below → e.hi <ℤ pos 0
side_is_below e below = by (int_lt (pos 0) e.lo) (int_lt e.hi (pos 0)) refl below where
  by : (t u : Bool) → int_lt e.hi (pos 0) ≡ u → cond t Above (cond u Below Open) ≡ Below → e.hi <ℤ pos 0
  by true u is_below same = absurd cc
  by false true is_below same = omega (arith, ints, is_below)
  by false false is_below same = absurd cc

pub side_is_open : (e : Ends) → side_of e ≡ Open → (e.lo ≤ℤ pos 0) × (pos 0 ≤ℤ e.hi)
side_is_open e is_open = by (int_lt (pos 0) e.lo) (int_lt e.hi (pos 0)) refl refl is_open where
  by : (t u : Bool) → int_lt (pos 0) e.lo ≡ t → int_lt e.hi (pos 0) ≡ u → cond t Above (cond u Below Open) ≡ Open →
      (e.lo ≤ℤ pos 0) × (pos 0 ≤ℤ e.hi)
  by true u is_above is_below same = absurd cc
  by false true is_above is_below same = absurd cc
  by false false is_above is_below same = (omega (arith, ints, is_above), omega (arith, ints, is_below))

-- a point is as narrow as any range
pub point_is_narrow : (n : ℕ) (z : ℤ) → IsNarrowRange n (point z)
point_is_narrow n z = record { ordered = omega (arith, ints); narrow = omega (arith, ints) }

-- a point lies in itself
pub point_lies_in : (z : ℤ) → LiesIn (exact_point (over z 1)) (enclosure_of_range (point z))
unfolding enclosure_of_range exact_point
point_lies_in z = LiesIn_refl _

pub point_is_ordered : (z : ℤ) → IsOrdered (enclosure_of_range (point z))
unfolding enclosure_of_range
point_is_ordered z = record { ordered = ≤ᶠ_refl _ }

-- the place and the minute of a request are those of its box
pub request_is_among : (r : Request) → IsAmong r.minute (spot_of r) (point r.minute) (place_of r.lon r.lat)
unfolding spot_of
request_is_among r = record {
  not_before = omega (arith, ints);
  not_after = omega (arith, ints);
  x = point_lies_in (r.lon *ℤ pos 128);
  y = point_lies_in (r.lat *ℤ pos 128);
}

-- the ends on the grid show the side of the exact value
pub request_shows_side : (r : Request) (q : Question) →
    ShowsSide (value_at (grid_sun_of r.sun) q (point r.minute) (place_of r.lon r.lat)) (asked_at (exact_sun_of r.sun) q r.minute (spot_of r))
unfolding value_at asked_at
request_shows_side r (Altitude angle) =
    grid_shows_altitude (exact_sun_of r.sun) (grid_sun_of r.sun) (suns_are_sound r.sun).source (suns_are_sound r.sun).holds
    r.minute (spot_of r) (point r.minute) (place_of r.lon r.lat) (request_is_among r)
    (enclosure_of_range (angle_of angle)) (angle_of angle) (point_is_ordered (angle *ℤ pos 144_000)) (LiesIn_refl _)
request_shows_side r Meridian =
    grid_shows_meridian (exact_sun_of r.sun) (grid_sun_of r.sun) (suns_are_sound r.sun).source (suns_are_sound r.sun).holds
    r.minute (spot_of r) (point r.minute) (place_of r.lon r.lat) (request_is_among r)
request_shows_side r (Shadow factor) =
    grid_shows_asr (exact_sun_of r.sun) (grid_sun_of r.sun) (suns_are_sound r.sun).source (suns_are_sound r.sun).holds
    r.minute (spot_of r) (point r.minute) (place_of r.lon r.lat) (request_is_among r) factor

-- one minute and one place are a smallest box
pub request_is_smallest : (r : Request) → IsSmallest (point r.minute) (place_of r.lon r.lat)
request_is_smallest r = record { one_minute = refl; x = point_is_narrow 16 _; y = point_is_narrow 16 _ }

-- ends on both sides of zero show that the exact value is within the tolerance
pub request_shows_near : (r : Request) (q : Question) → unsigned_abs r.minute ≤ 53_200_000 →
    ShowsNear (tolerance_bits q) (value_at (grid_sun_of r.sun) q (point r.minute) (place_of r.lon r.lat)) (asked_at (exact_sun_of r.sun) q r.minute (spot_of r))
unfolding value_at asked_at
request_shows_near r (Altitude angle) small =
    open_altitude_is_near (exact_sun_of r.sun) (grid_sun_of r.sun) (suns_are_sound r.sun).source (suns_are_sound r.sun).holds
    r.minute (spot_of r) (point r.minute) (place_of r.lon r.lat) (request_is_among r)
    ((suns_are_sound r.sun).narrow (point r.minute) refl small) (request_is_smallest r)
    (enclosure_of_range (angle_of angle)) (angle_of angle) (point_is_ordered (angle *ℤ pos 144_000)) (LiesIn_refl _)
    (point_is_narrow 1 _)
request_shows_near r Meridian small =
    open_meridian_is_near (exact_sun_of r.sun) (grid_sun_of r.sun) (suns_are_sound r.sun).source (suns_are_sound r.sun).holds
    r.minute (spot_of r) (point r.minute) (place_of r.lon r.lat) (request_is_among r)
    ((suns_are_sound r.sun).narrow (point r.minute) refl small) (request_is_smallest r)
request_shows_near r (Shadow factor) small =
    open_asr_is_near (exact_sun_of r.sun) (grid_sun_of r.sun) (suns_are_sound r.sun).source (suns_are_sound r.sun).holds
    r.minute (spot_of r) (point r.minute) (place_of r.lon r.lat) (request_is_among r)
    ((suns_are_sound r.sun).narrow (point r.minute) refl small) (request_is_smallest r) factor

pub is_true_of_sky : (r : Request) → IsInRange r → IsTrueOfSky r
unfolding verdict_of value_of
is_true_of_sky r range =
    let small = small_within 53_200_000 r.minute range.minute in
    let value = value_at (grid_sun_of r.sun) r.question (point r.minute) (place_of r.lon r.lat) in
    let shown = request_shows_side r r.question in
    record {
      above = λ is_above. shown.above (side_is_above value is_above);
      below = λ is_below. shown.below (side_is_below value is_below);
      undecided = λ is_open.
          (request_shows_near r r.question small).near (side_is_open value is_open).0 (side_is_open value is_open).1;
    }

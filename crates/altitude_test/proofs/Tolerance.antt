-- How wide the values are over a smallest box, from how wide each operation makes them.
use Rattle.std.proofs.Common.{ℕ, ◌*◌, ◌/◌, ◌^◌, pos, ◌+ℤ◌, ◌≤ℤ◌, lit≤, arith}
use Rattle.std.proofs.lemmas.Int.{ints}
use Rattle.fixed_interval.specs.Fraction.{over}
use Rattle.fixed_interval.specs.Bound.{Bound, IsBounded, sum_bound, product_bound, ratio_bound}
use Rattle.fixed_interval.specs.Enclosure.{Enclosure, LiesIn}
use Rattle.fixed_interval.specs.Grid.{Ends, Range, UNIT, DEPTH, enclosure_of, grid_sum, grid_difference, grid_product}
use Rattle.fixed_interval.proofs.EnclosureLaws.{LiesIn_trans}
use Rattle.fixed_interval.proofs.Widths.{grid_sum_bounded, grid_difference_bounded, grid_product_bounded, more_bounded}
use Rattle.trig_series.specs.Laws.{sine_limit, sine_bound}
use Rattle.trig_series.specs.Sine.{grid_sine, grid_cosine}
use Rattle.trig_series.proofs.SineWidths.{grid_sine_narrow, grid_cosine_narrow}
use Rattle.trig_series.specs.Ranges.{added, scaled}
use Rattle.solar_terms.specs.Sun.{SunTerms}
use Rattle.solar_terms.specs.SunWidths.{IsNarrowSun}
use Rattle.altitude_test.specs.Values.{Box, grid_latitude, grid_sidereal_time, grid_altitude_sine, grid_altitude_value, grid_meridian_value}
use Rattle.altitude_test.specs.Conditions.{around_zero, altitude_at, meridian_at}
use Rattle.altitude_test.specs.Tolerance.{IsNarrowRange, IsSmallest, ShowsNear, AltitudeIsClose, MeridianIsClose, OpenAltitudeIsNear, OpenMeridianIsNear}
use Rattle.altitude_test.proofs.ValueLaws.{grid_altitude_holds, grid_meridian_holds}
use Rattle.altitude_test.proofs.Verdicts.{among_part}

-- a sine over a smallest box, a term of the sun, the sine of its obliquity
abbrev pub of_sky : Bound
of_sky = record { reach = sine_limit; width = 2 ^ 28 }

abbrev pub of_sun : Bound
of_sun = record { reach = sine_limit; width = 2 ^ 20 }

abbrev pub of_obliquity : Bound
of_obliquity = record { reach = 42 * UNIT / 100; width = 2 ^ 20 }

abbrev pub of_altitude_sine : Bound
of_altitude_sine = record { reach = 8 * UNIT; width = 11 * 2 ^ 28 }

abbrev of_value : Bound
of_value = record { reach = 10 * UNIT; width = 2 ^ 32 }

-- ---- sines of the latitude and of the sidereal time

pub narrow_sine : (r : Range) → IsNarrowRange 18100 r → IsBounded (grid_sine r) of_sky
narrow_sine r h = more_bounded (grid_sine r).lo (grid_sine r).hi (sine_bound 18100) of_sky (grid_sine_narrow r 18100 (lit≤ tt) h.ordered h.narrow) (lit≤ tt) (lit≤ tt)

pub narrow_cosine : (r : Range) → IsNarrowRange 18100 r → IsBounded (grid_cosine r) of_sky
narrow_cosine r h = more_bounded (grid_cosine r).lo (grid_cosine r).hi (sine_bound 18100) of_sky (grid_cosine_narrow r 18100 (lit≤ tt) h.ordered h.narrow) (lit≤ tt) (lit≤ tt)

pub latitude_narrow : (r : Range) (c : Box) → IsSmallest r c → IsNarrowRange 18100 (grid_latitude c)
unfolding grid_latitude scaled
latitude_narrow r c small = record { ordered = omega (arith, ints, small.y.ordered); narrow = omega (arith, ints, small.y.narrow) }

sidereal_time_narrow : (t : SunTerms) (r : Range) (c : Box) → IsNarrowSun t → IsSmallest r c → IsNarrowRange 18100 (grid_sidereal_time t r c)
unfolding grid_sidereal_time added scaled
sidereal_time_narrow t r c sun small = record {
  ordered = omega (arith, ints, small.one_minute, small.x.ordered, sun.q_ordered);
  narrow = omega (arith, ints, small.one_minute, small.x.narrow, sun.q_narrow);
}

-- ---- the values

three_bounded : (a b c : Ends) (s t u : Bound) → IsBounded a s → IsBounded b t → IsBounded c u → IsBounded (grid_product (grid_product a b) c) (product_bound (product_bound s t) u)
three_bounded a b c s t u h k l = grid_product_bounded (grid_product a b) c (product_bound s t) u (grid_product_bounded a b s t h k) l

altitude_formula_bounded :
    (sp cp st ct se ce sl cl : Ends) → IsBounded sp of_sky → IsBounded cp of_sky → IsBounded st of_sky → IsBounded ct of_sky →
    IsBounded se of_obliquity → IsBounded ce of_sun → IsBounded sl of_sun → IsBounded cl of_sun →
    IsBounded (grid_sum (grid_product (grid_product sp se) sl) (grid_product cp (grid_sum (grid_product ct cl) (grid_product (grid_product st ce) sl)))) of_altitude_sine
unfolding sum_bound product_bound ratio_bound
altitude_formula_bounded sp cp st ct se ce sl cl h1 h2 h3 h4 h5 h6 h7 h8 =
    let up = three_bounded sp se sl _ _ _ h1 h5 h7 in
    let level = grid_sum_bounded (grid_product ct cl) (grid_product (grid_product st ce) sl) _ _ (grid_product_bounded ct cl _ _ h4 h8) (three_bounded st ce sl _ _ _ h3 h6 h7) in
    let across = grid_product_bounded cp (grid_sum (grid_product ct cl) (grid_product (grid_product st ce) sl)) _ _ h2 level in
    more_bounded _ _ _ of_altitude_sine (grid_sum_bounded (grid_product (grid_product sp se) sl) (grid_product cp (grid_sum (grid_product ct cl) (grid_product (grid_product st ce) sl))) _ _ up across) (lit≤ tt) (lit≤ tt)

meridian_formula_bounded :
    (st ct ce sl cl : Ends) → IsBounded st of_sky → IsBounded ct of_sky → IsBounded ce of_sun → IsBounded sl of_sun → IsBounded cl of_sun →
    IsBounded (grid_difference (grid_product st cl) (grid_product (grid_product ct ce) sl)) of_value
unfolding sum_bound product_bound ratio_bound
meridian_formula_bounded st ct ce sl cl h3 h4 h6 h7 h8 =
    more_bounded _ _ _ of_value (grid_difference_bounded (grid_product st cl) (grid_product (grid_product ct ce) sl) _ _ (grid_product_bounded st cl _ _ h3 h8) (three_bounded ct ce sl _ _ _ h4 h6 h7)) (lit≤ tt) (lit≤ tt)

pub altitude_sine_close : (t : SunTerms) (r : Range) (c : Box) → IsNarrowSun t → IsSmallest r c → IsBounded (grid_altitude_sine t r c) of_altitude_sine
unfolding grid_altitude_sine
altitude_sine_close t r c sun small =
    let place = latitude_narrow r c small in
    let time = sidereal_time_narrow t r c sun small in
    altitude_formula_bounded _ _ _ _ t.sin_e t.cos_e t.sin_l t.cos_l
    (narrow_sine _ place) (narrow_cosine _ place) (narrow_sine _ time) (narrow_cosine _ time) sun.sin_e sun.cos_e sun.sin_l sun.cos_l

pub altitude_is_close : AltitudeIsClose
unfolding grid_altitude_value sum_bound
altitude_is_close t r c angle sun small one_unit =
    more_bounded _ _ _ _
    (grid_sum_bounded (grid_altitude_sine t r c) (grid_sine angle) _ _ (altitude_sine_close t r c sun small) (grid_sine_narrow angle 1 (lit≤ tt) one_unit.ordered one_unit.narrow))
    (lit≤ tt) (lit≤ tt)

pub meridian_is_close : MeridianIsClose
unfolding grid_meridian_value
meridian_is_close t r c sun small =
    let time = sidereal_time_narrow t r c sun small in
    meridian_formula_bounded _ _ t.cos_e t.sin_l t.cos_l (narrow_sine _ time) (narrow_cosine _ time) sun.cos_e sun.sin_l sun.cos_l

-- ---- near zero

-- 2^32 steps of the grid are 2^-24
near_zero : (e : Ends) → e.hi ≤ℤ (e.lo +ℤ pos (2 ^ 32)) → e.lo ≤ℤ pos 0 → pos 0 ≤ℤ e.hi → LiesIn (enclosure_of e) (around_zero 24)
unfolding enclosure_of around_zero over
near_zero e h low high = record { low = record { crossed = omega (arith, ints) }; high = record { crossed = omega (arith, ints) } }

shown_near : (e : Ends) (value : ℕ → Enclosure) → LiesIn (value DEPTH) (enclosure_of e) → IsBounded e of_value → ShowsNear 24 e value
shown_near e value h close = record { near = λ low high. record { depth = DEPTH; from_one = omega arith; found = LiesIn_trans _ _ _ h (near_zero e close.width low high) } }

pub open_altitude_is_near : OpenAltitudeIsNear
unfolding altitude_at
open_altitude_is_near sun grid source holds k p r c among narrow small a angle o h one_unit =
    shown_near _ _ (grid_altitude_holds _ _ _ _ _ c a angle (among_part sun grid source holds k p r c among) o h) (altitude_is_close (grid r) r c angle narrow small one_unit)

pub open_meridian_is_near : OpenMeridianIsNear
unfolding meridian_at
open_meridian_is_near sun grid source holds k p r c among narrow small =
    shown_near _ _ (grid_meridian_holds _ _ _ _ _ c (among_part sun grid source holds k p r c among)) (meridian_is_close (grid r) r c narrow small)

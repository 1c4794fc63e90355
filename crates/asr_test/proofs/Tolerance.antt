-- How wide the Asr value is over a smallest box, from how wide each operation makes it.
use Rattle.std.proofs.Common.{ℕ, ◌*◌, ◌/◌, ◌^◌, ◌≤◌, Bool, true, false, ◌==◌, if◌then◌else◌, ℤ, pos, negsuc, ◌+ℤ◌, ◌-ℤ◌, ◌≤ℤ◌, unsigned_abs, lit≤, arith}
use Rattle.std.proofs.lemmas.Int.{ints}
use Rattle.fixed_interval.specs.Fraction.{over}
use Rattle.fixed_interval.specs.Bound.{Bound, IsBounded, sum_bound, product_bound, ratio_bound, square_bound}
use Rattle.fixed_interval.specs.Enclosure.{Enclosure, LiesIn, natural}
use Rattle.fixed_interval.specs.Grid.{Ends, Range, UNIT, DEPTH, enclosure_of, grid_sum, grid_difference, grid_product, grid_magnitude, grid_signed_square, grid_root}
use Rattle.fixed_interval.proofs.EnclosureLaws.{LiesIn_trans}
use Rattle.fixed_interval.proofs.GridLaws.{grid_difference-is}
use Rattle.fixed_interval.proofs.Widths.{grid_sum_bounded, grid_difference_bounded, grid_product_bounded, grid_magnitude_bounded, grid_signed_square_bounded, grid_root_bounded, more_bounded}
use Rattle.solar_terms.specs.Sun.{SunTerms}
use Rattle.solar_terms.specs.SunWidths.{IsNarrowSun}
use Rattle.altitude_test.specs.Values.{Box, grid_latitude, grid_altitude_sine}
use Rattle.altitude_test.specs.Conditions.{around_zero}
use Rattle.altitude_test.specs.Tolerance.{IsSmallest, ShowsNear}
use Rattle.altitude_test.proofs.Tolerance.{of_sky, of_sun, of_obliquity, of_altitude_sine, narrow_sine, narrow_cosine, latitude_narrow, altitude_sine_close}
use Rattle.altitude_test.proofs.Verdicts.{among_part}
use Rattle.asr_test.specs.Asr.{grid_one, grid_sine_declination, grid_cosine_declination, grid_noon_cosine, grid_noon_sine, grid_times_factor, grid_asr_shadow, grid_asr_value}
use Rattle.asr_test.specs.AsrLaws.{asr_at}
use Rattle.asr_test.specs.Tolerance.{AsrIsClose, OpenAsrIsNear}
use Rattle.asr_test.proofs.AsrLaws.{grid_asr_holds}

-- sine and cosine of the declination, of the zenith distance at noon, and the shadow's length
abbrev of_sine_declination : Bound
of_sine_declination = record { reach = 57 * UNIT / 100; width = 2 ^ 21 }

abbrev of_cosine_declination : Bound
of_cosine_declination = record { reach = 116 * UNIT / 100; width = 2 ^ 23 }

abbrev of_noon : Bound
of_noon = record { reach = 231 * UNIT / 100; width = 18 * 2 ^ 28 / 10 }

abbrev of_shadow : Bound
of_shadow = record { reach = 693 * UNIT / 100; width = 54 * 2 ^ 28 / 10 }

abbrev of_value : Bound
of_value = record { reach = 4096 * UNIT; width = 2 ^ 42 }

-- ---- the declination

one_bounded : IsBounded grid_one (record { reach = UNIT; width = 0 })
unfolding grid_one
one_bounded = record { ordered = omega (arith, ints); reach = lit≤ tt; width = omega (arith, ints) }

sine_declination_bounded : (se sl : Ends) → IsBounded se of_obliquity → IsBounded sl of_sun → IsBounded (grid_product se sl) of_sine_declination
unfolding product_bound ratio_bound
sine_declination_bounded se sl h k = more_bounded _ _ _ of_sine_declination (grid_product_bounded se sl _ _ h k) (lit≤ tt) (lit≤ tt)

abbrev of_square : Bound
of_square = record { reach = 33 * UNIT / 100; width = 2 ^ 22 }

square_bounded : (w : Ends) → IsBounded w of_sine_declination → IsBounded (grid_product w w) of_square
unfolding product_bound ratio_bound
square_bounded w h = more_bounded _ _ _ of_square (grid_product_bounded w w _ _ h h) (lit≤ tt) (lit≤ tt)

natural_at_least : (y : ℤ) (n : ℕ) → pos n ≤ℤ y → n ≤ natural y
unfolding natural
natural_at_least (pos m) n h = omega (arith, ints)
natural_at_least (negsuc m) n h = absurd (omega (arith, ints))

-- 1 less a number of at most 0.33 is at least 0.64
far_from_zero : (a : Ends) → IsBounded a of_square → (8 * UNIT / 10) * (8 * UNIT / 10) ≤ natural (grid_difference grid_one a).lo * UNIT
unfolding grid_one
far_from_zero a h = rw (grid_difference-is grid_one a) (core a.hi (omega (arith, h.reach)))
  where
    core : (z : ℤ) → unsigned_abs z ≤ 33 * UNIT / 100 → (8 * UNIT / 10) * (8 * UNIT / 10) ≤ natural (pos UNIT -ℤ z) * UNIT
    core z k = omega (arith, natural_at_least (pos UNIT -ℤ z) (67 * UNIT / 100) (omega (arith, ints)))

cosine_declination_bounded : (w : Ends) → IsBounded w of_sine_declination → IsBounded (grid_root (grid_difference grid_one (grid_product w w))) of_cosine_declination
unfolding sum_bound
cosine_declination_bounded w h =
    let square = square_bounded w h in
    let argument = grid_difference_bounded grid_one (grid_product w w) _ _ one_bounded square in
    more_bounded _ _ _ of_cosine_declination
    (grid_root_bounded (grid_difference grid_one (grid_product w w)) _ (record { reach = 116 * UNIT / 100; width = 2 ^ 22 }) (8 * UNIT / 10) argument (far_from_zero (grid_product w w) square) (lit≤ tt) (lit≤ tt))
    (lit≤ tt) (lit≤ tt)

-- ---- noon and the shadow

noon_cosine_bounded : (sp cp w cd : Ends) → IsBounded sp of_sky → IsBounded cp of_sky → IsBounded w of_sine_declination → IsBounded cd of_cosine_declination → IsBounded (grid_sum (grid_product cp cd) (grid_product sp w)) of_noon
unfolding sum_bound product_bound ratio_bound
noon_cosine_bounded sp cp w cd h1 h2 h3 h4 =
    more_bounded _ _ _ of_noon (grid_sum_bounded (grid_product cp cd) (grid_product sp w) _ _ (grid_product_bounded cp cd _ _ h2 h4) (grid_product_bounded sp w _ _ h1 h3)) (lit≤ tt) (lit≤ tt)

noon_sine_bounded : (sp cp w cd : Ends) → IsBounded sp of_sky → IsBounded cp of_sky → IsBounded w of_sine_declination → IsBounded cd of_cosine_declination → IsBounded (grid_difference (grid_product sp cd) (grid_product cp w)) of_noon
unfolding sum_bound product_bound ratio_bound
noon_sine_bounded sp cp w cd h1 h2 h3 h4 =
    more_bounded _ _ _ of_noon (grid_difference_bounded (grid_product sp cd) (grid_product cp w) _ _ (grid_product_bounded sp cd _ _ h1 h4) (grid_product_bounded cp w _ _ h2 h3)) (lit≤ tt) (lit≤ tt)

shadow_bounded : (twice : Bool) (cz sz : Ends) → IsBounded cz of_noon → IsBounded sz of_noon → IsBounded (grid_sum (if twice then grid_sum cz cz else cz) (grid_magnitude sz)) of_shadow
unfolding sum_bound
shadow_bounded true cz sz h k = more_bounded _ _ _ of_shadow (grid_sum_bounded (grid_sum cz cz) (grid_magnitude sz) _ _ (grid_sum_bounded cz cz _ _ h h) (grid_magnitude_bounded sz _ k)) (lit≤ tt) (lit≤ tt)
shadow_bounded false cz sz h k = more_bounded _ _ _ of_shadow (grid_sum_bounded cz (grid_magnitude sz) _ _ h (grid_magnitude_bounded sz _ k)) (lit≤ tt) (lit≤ tt)

-- ---- the value

value_bounded : (S cz v : Ends) → IsBounded S of_altitude_sine → IsBounded cz of_noon → IsBounded v of_shadow → IsBounded (grid_difference (grid_product (grid_difference grid_one (grid_product S S)) (grid_product cz cz)) (grid_product (grid_signed_square S) (grid_product v v))) of_value
unfolding sum_bound product_bound ratio_bound square_bound
value_bounded S cz v h k l =
    let level = grid_difference_bounded grid_one (grid_product S S) _ _ one_bounded (grid_product_bounded S S _ _ h h) in
    let left = grid_product_bounded (grid_difference grid_one (grid_product S S)) (grid_product cz cz) _ _ level (grid_product_bounded cz cz _ _ k k) in
    let right = grid_product_bounded (grid_signed_square S) (grid_product v v) _ _ (grid_signed_square_bounded S _ h) (grid_product_bounded v v _ _ l l) in
    more_bounded _ _ _ of_value
    (grid_difference_bounded (grid_product (grid_difference grid_one (grid_product S S)) (grid_product cz cz)) (grid_product (grid_signed_square S) (grid_product v v)) _ _ left right)
    (lit≤ tt) (lit≤ tt)

module _ (t : SunTerms) (r : Range) (c : Box) (sun : IsNarrowSun t) (small : IsSmallest r c) where
  sine_declination_close : IsBounded (grid_sine_declination t) of_sine_declination
  unfolding grid_sine_declination
  sine_declination_close = sine_declination_bounded t.sin_e t.sin_l sun.sin_e sun.sin_l

  cosine_declination_close : IsBounded (grid_cosine_declination t) of_cosine_declination
  unfolding grid_cosine_declination
  cosine_declination_close = cosine_declination_bounded (grid_sine_declination t) sine_declination_close

  noon_cosine_close : IsBounded (grid_noon_cosine t c) of_noon
  unfolding grid_noon_cosine
  noon_cosine_close =
      let place = latitude_narrow r c small in
      noon_cosine_bounded _ _ (grid_sine_declination t) (grid_cosine_declination t) (narrow_sine (grid_latitude c) place) (narrow_cosine (grid_latitude c) place) sine_declination_close cosine_declination_close

  noon_sine_close : IsBounded (grid_noon_sine t c) of_noon
  unfolding grid_noon_sine
  noon_sine_close =
      let place = latitude_narrow r c small in
      noon_sine_bounded _ _ (grid_sine_declination t) (grid_cosine_declination t) (narrow_sine (grid_latitude c) place) (narrow_cosine (grid_latitude c) place) sine_declination_close cosine_declination_close

  shadow_close : (factor : ℕ) → IsBounded (grid_asr_shadow t c factor) of_shadow
  unfolding grid_asr_shadow grid_times_factor
  shadow_close factor = shadow_bounded (factor == 2) (grid_noon_cosine t c) (grid_noon_sine t c) noon_cosine_close noon_sine_close

  value_close : (factor : ℕ) → IsBounded (grid_asr_value t r c factor) of_value
  unfolding grid_asr_value
  value_close factor =
      value_bounded (grid_altitude_sine t r c) (grid_noon_cosine t c) (grid_asr_shadow t c factor) (altitude_sine_close t r c sun small) noon_cosine_close (shadow_close factor)

pub asr_is_close : AsrIsClose
asr_is_close t r c factor sun small = value_close t r c sun small factor

-- ---- near zero

-- 2^42 steps of the grid are 2^-14
near_zero : (e : Ends) → e.hi ≤ℤ (e.lo +ℤ pos (2 ^ 42)) → e.lo ≤ℤ pos 0 → pos 0 ≤ℤ e.hi → LiesIn (enclosure_of e) (around_zero 14)
unfolding enclosure_of around_zero over
near_zero e h low high = record { low = record { crossed = omega (arith, ints) }; high = record { crossed = omega (arith, ints) } }

shown_near : (e : Ends) (value : ℕ → Enclosure) → LiesIn (value DEPTH) (enclosure_of e) → IsBounded e of_value → ShowsNear 14 e value
shown_near e value h close = record { near = λ low high. record { depth = DEPTH; from_one = omega arith; found = LiesIn_trans _ _ _ h (near_zero e close.width low high) } }

pub open_asr_is_near : OpenAsrIsNear
unfolding asr_at
open_asr_is_near sun grid source holds k p r c among narrow small factor =
    shown_near _ _ (grid_asr_holds _ _ _ _ _ c factor (among_part sun grid source holds k p r c among)) (asr_is_close (grid r) r c factor narrow small)

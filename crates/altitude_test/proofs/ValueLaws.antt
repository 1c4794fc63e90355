-- The values over less of the sky, at a greater depth, and on the grid: each law follows from those of the operations.
use Rattle.std.proofs.Common.{ℕ, ◌≤◌}
use Rattle.fixed_interval.specs.Enclosure.{Enclosure, IsOrdered, LiesIn, sum, difference, product}
use Rattle.fixed_interval.specs.Grid.{Ends, Range, enclosure_of, enclosure_of_range, DEPTH, grid_sum, grid_difference, grid_product}
use Rattle.fixed_interval.proofs.EnclosureLaws.{sum_mono, difference_mono, product_mono, scale_units_mono, sum_ordered, difference_ordered, product_ordered, scale_units_ordered}
use Rattle.fixed_interval.proofs.Inclusion.{sum_holds, difference_holds, product_holds}
use Rattle.trig_series.specs.Sine.{sine, cosine}
use Rattle.trig_series.proofs.SineLaws.{sine_ordered, cosine_ordered, sine_holds, cosine_holds}
use Rattle.solar_terms.specs.Sun.{ExactSun, SunTerms}
use Rattle.solar_terms.specs.SunLaws.{exact_terms}
use Rattle.solar_terms.proofs.Narrowing.{sine_narrows, cosine_narrows}
use Rattle.solar_terms.proofs.RangeLaws.{added_holds, scaled_holds}
use Rattle.altitude_test.specs.Values.{ExactBox, Box, latitude, sidereal_time, exact_altitude_sine, exact_altitude_value, exact_meridian_value, grid_latitude, grid_sidereal_time, grid_altitude_sine, grid_altitude_value, grid_meridian_value}
use Rattle.altitude_test.specs.ValueLaws.{exact_box, IsPartOf, AltitudeNarrows, MeridianNarrows, GridAltitudeHolds, GridMeridianHolds}

ruleset orders = (sum_ordered, difference_ordered, product_ordered)

ruleset monotone = (orders, sum_mono, difference_mono, product_mono)

ruleset holding = (orders, sum_holds, difference_holds, product_holds)

-- ---- the formulas, over any sines and cosines

altitude_formula_mono :
    (sp cp st ct se ce sl cl sp' cp' st' ct' se' ce' sl' cl' : Enclosure) →
    IsOrdered sp → IsOrdered cp → IsOrdered st → IsOrdered ct → IsOrdered se → IsOrdered ce → IsOrdered sl → IsOrdered cl →
    LiesIn sp sp' → LiesIn cp cp' → LiesIn st st' → LiesIn ct ct' → LiesIn se se' → LiesIn ce ce' → LiesIn sl sl' → LiesIn cl cl' →
    LiesIn
    (sum (product (product sp se) sl) (product cp (sum (product ct cl) (product (product st ce) sl))))
    (sum (product (product sp' se') sl') (product cp' (sum (product ct' cl') (product (product st' ce') sl'))))
altitude_formula_mono sp cp st ct se ce sl cl sp' cp' st' ct' se' ce' sl' cl' o1 o2 o3 o4 o5 o6 o7 o8 h1 h2 h3 h4 h5 h6 h7 h8 = search monotone depth 12

meridian_formula_mono :
    (st ct ce sl cl st' ct' ce' sl' cl' : Enclosure) →
    IsOrdered st → IsOrdered ct → IsOrdered ce → IsOrdered sl → IsOrdered cl →
    LiesIn st st' → LiesIn ct ct' → LiesIn ce ce' → LiesIn sl sl' → LiesIn cl cl' →
    LiesIn
    (difference (product st cl) (product (product ct ce) sl))
    (difference (product st' cl') (product (product ct' ce') sl'))
meridian_formula_mono st ct ce sl cl st' ct' ce' sl' cl' o1 o2 o3 o4 o5 h1 h2 h3 h4 h5 = search monotone depth 12

altitude_formula_holds :
    (sp cp st ct se ce sl cl : Enclosure) (sp' cp' st' ct' se' ce' sl' cl' : Ends) →
    IsOrdered sp → IsOrdered cp → IsOrdered st → IsOrdered ct → IsOrdered se → IsOrdered ce → IsOrdered sl → IsOrdered cl →
    LiesIn sp (enclosure_of sp') → LiesIn cp (enclosure_of cp') → LiesIn st (enclosure_of st') → LiesIn ct (enclosure_of ct') →
    LiesIn se (enclosure_of se') → LiesIn ce (enclosure_of ce') → LiesIn sl (enclosure_of sl') → LiesIn cl (enclosure_of cl') →
    LiesIn
    (sum (product (product sp se) sl) (product cp (sum (product ct cl) (product (product st ce) sl))))
    (enclosure_of (grid_sum
    (grid_product (grid_product sp' se') sl')
    (grid_product cp' (grid_sum (grid_product ct' cl') (grid_product (grid_product st' ce') sl')))))
altitude_formula_holds sp cp st ct se ce sl cl sp' cp' st' ct' se' ce' sl' cl' o1 o2 o3 o4 o5 o6 o7 o8 h1 h2 h3 h4 h5 h6 h7 h8 = search holding depth 12

meridian_formula_holds :
    (st ct ce sl cl : Enclosure) (st' ct' ce' sl' cl' : Ends) →
    IsOrdered st → IsOrdered ct → IsOrdered ce → IsOrdered sl → IsOrdered cl →
    LiesIn st (enclosure_of st') → LiesIn ct (enclosure_of ct') → LiesIn ce (enclosure_of ce') → LiesIn sl (enclosure_of sl') → LiesIn cl (enclosure_of cl') →
    LiesIn
    (difference (product st cl) (product (product ct ce) sl))
    (enclosure_of (grid_difference (grid_product st' cl') (grid_product (grid_product ct' ce') sl')))
meridian_formula_holds st ct ce sl cl st' ct' ce' sl' cl' o1 o2 o3 o4 o5 h1 h2 h3 h4 h5 = search holding depth 12

-- ---- a part of the sky, and a greater depth

pub altitude_sine_ordered : (n : ℕ) (s : ExactSun) (m : Enclosure) (b : ExactBox) → IsOrdered (exact_altitude_sine n s m b)
unfolding exact_altitude_sine
altitude_sine_ordered n s m b = sum_ordered _ _ (product_ordered _ _) (product_ordered _ _)

module _ (s s' : ExactSun) (m m' : Enclosure) (b b' : ExactBox) (part : IsPartOf s s' m m' b b') where
  pub latitude_ordered : IsOrdered (latitude b)
  unfolding latitude
  latitude_ordered = scale_units_ordered _ _ part.y_ordered

  latitude_mono : LiesIn (latitude b) (latitude b')
  unfolding latitude
  latitude_mono = scale_units_mono _ _ _ part.y

  sidereal_time_ordered : IsOrdered (sidereal_time s m b)
  unfolding sidereal_time
  sidereal_time_ordered = sum_ordered _ _ (sum_ordered _ _ (scale_units_ordered _ _ part.minutes_ordered) (scale_units_ordered _ _ part.x_ordered)) part.sun_ordered.q

  sidereal_time_mono : LiesIn (sidereal_time s m b) (sidereal_time s' m' b')
  unfolding sidereal_time
  sidereal_time_mono = sum_mono _ _ _ _ (sum_mono _ _ _ _ (scale_units_mono _ _ _ part.minutes) (scale_units_mono _ _ _ part.x)) part.sun.q

module _ (n n' : ℕ) (s s' : ExactSun) (m m' : Enclosure) (b b' : ExactBox) (deeper : n' ≤ n) (part : IsPartOf s s' m m' b b') where
  place_in_order : IsOrdered (latitude b)
  place_in_order = latitude_ordered s s' m m' b b' part

  time_in_order : IsOrdered (sidereal_time s m b)
  time_in_order = sidereal_time_ordered s s' m m' b b' part

  place_within : LiesIn (latitude b) (latitude b')
  place_within = latitude_mono s s' m m' b b' part

  time_within : LiesIn (sidereal_time s m b) (sidereal_time s' m' b')
  time_within = sidereal_time_mono s s' m m' b b' part

  pub latitude_sine_narrows : LiesIn (sine n (latitude b)) (sine n' (latitude b'))
  latitude_sine_narrows = sine_narrows n n' _ _ deeper place_in_order place_within

  pub latitude_cosine_narrows : LiesIn (cosine n (latitude b)) (cosine n' (latitude b'))
  latitude_cosine_narrows = cosine_narrows n n' _ _ deeper place_in_order place_within

  time_sine_narrows : LiesIn (sine n (sidereal_time s m b)) (sine n' (sidereal_time s' m' b'))
  time_sine_narrows = sine_narrows n n' _ _ deeper time_in_order time_within

  time_cosine_narrows : LiesIn (cosine n (sidereal_time s m b)) (cosine n' (sidereal_time s' m' b'))
  time_cosine_narrows = cosine_narrows n n' _ _ deeper time_in_order time_within

  pub altitude_sine_narrows : LiesIn (exact_altitude_sine n s m b) (exact_altitude_sine n' s' m' b')
  unfolding exact_altitude_sine
  altitude_sine_narrows =
      altitude_formula_mono _ _ _ _ _ _ _ _ _ _ _ _ _ _ _ _
      (sine_ordered n _ place_in_order) (cosine_ordered n _ place_in_order) (sine_ordered n _ time_in_order) (cosine_ordered n _ time_in_order)
      part.sun_ordered.sin_e part.sun_ordered.cos_e part.sun_ordered.sin_l part.sun_ordered.cos_l
      latitude_sine_narrows latitude_cosine_narrows time_sine_narrows time_cosine_narrows
      part.sun.sin_e part.sun.cos_e part.sun.sin_l part.sun.cos_l

  meridian_narrows_part : LiesIn (exact_meridian_value n s m b) (exact_meridian_value n' s' m' b')
  unfolding exact_meridian_value
  meridian_narrows_part =
      meridian_formula_mono _ _ _ _ _ _ _ _ _ _
      (sine_ordered n _ time_in_order) (cosine_ordered n _ time_in_order) part.sun_ordered.cos_e part.sun_ordered.sin_l part.sun_ordered.cos_l
      time_sine_narrows time_cosine_narrows part.sun.cos_e part.sun.sin_l part.sun.cos_l

pub altitude_narrows : AltitudeNarrows
unfolding exact_altitude_value
altitude_narrows n n' s s' m m' b b' a a' deeper part o h =
    sum_mono _ _ _ _ (altitude_sine_narrows n n' s s' m m' b b' deeper part) (sine_narrows n n' a a' deeper o h)

pub meridian_narrows : MeridianNarrows
meridian_narrows = meridian_narrows_part

-- ---- on the grid

module _ (s : ExactSun) (t : SunTerms) (m : Enclosure) (r : Range) (b : ExactBox) (c : Box) (part : IsPartOf s (exact_terms t) m (enclosure_of_range r) b (exact_box c)) where
  pub latitude_holds : LiesIn (latitude b) (enclosure_of_range (grid_latitude c))
  unfolding latitude grid_latitude exact_box
  latitude_holds = scaled_holds _ _ _ part.y

  sidereal_time_holds : LiesIn (sidereal_time s m b) (enclosure_of_range (grid_sidereal_time t r c))
  unfolding sidereal_time grid_sidereal_time exact_box exact_terms
  sidereal_time_holds = added_holds _ _ _ _ (added_holds _ _ _ _ (scaled_holds _ _ _ part.minutes) (scaled_holds _ _ _ part.x)) part.sun.q

  time_ordered : IsOrdered (sidereal_time s m b)
  time_ordered = sidereal_time_ordered s _ m _ b _ part

  place_ordered : IsOrdered (latitude b)
  place_ordered = latitude_ordered s _ m _ b _ part

  pub altitude_sine_holds : LiesIn (exact_altitude_sine DEPTH s m b) (enclosure_of (grid_altitude_sine t r c))
  unfolding exact_altitude_sine grid_altitude_sine exact_terms
  altitude_sine_holds =
      altitude_formula_holds _ _ _ _ _ _ _ _ _ _ _ _ _ _ _ _
      (sine_ordered _ _ place_ordered) (cosine_ordered _ _ place_ordered) (sine_ordered _ _ time_ordered) (cosine_ordered _ _ time_ordered)
      part.sun_ordered.sin_e part.sun_ordered.cos_e part.sun_ordered.sin_l part.sun_ordered.cos_l
      (sine_holds _ _ place_ordered latitude_holds) (cosine_holds _ _ place_ordered latitude_holds)
      (sine_holds _ _ time_ordered sidereal_time_holds) (cosine_holds _ _ time_ordered sidereal_time_holds)
      part.sun.sin_e part.sun.cos_e part.sun.sin_l part.sun.cos_l

  meridian_holds_part : LiesIn (exact_meridian_value DEPTH s m b) (enclosure_of (grid_meridian_value t r c))
  unfolding exact_meridian_value grid_meridian_value exact_terms
  meridian_holds_part =
      meridian_formula_holds _ _ _ _ _ _ _ _ _ _
      (sine_ordered _ _ time_ordered) (cosine_ordered _ _ time_ordered) part.sun_ordered.cos_e part.sun_ordered.sin_l part.sun_ordered.cos_l
      (sine_holds _ _ time_ordered sidereal_time_holds) (cosine_holds _ _ time_ordered sidereal_time_holds)
      part.sun.cos_e part.sun.sin_l part.sun.cos_l

pub grid_altitude_holds : GridAltitudeHolds
unfolding exact_altitude_value grid_altitude_value
grid_altitude_holds s t m r b c a angle part o h =
    sum_holds _ _ _ _ (altitude_sine_holds s t m r b c part) (sine_holds _ _ o h)

pub grid_meridian_holds : GridMeridianHolds
grid_meridian_holds = meridian_holds_part

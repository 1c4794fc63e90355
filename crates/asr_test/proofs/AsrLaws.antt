-- The Asr value over less of the sky, at a greater depth, and on the grid: each law follows from those of the operations.
use Rattle.std.proofs.Common.{ℕ, suc, ◌≤◌, Bool, true, false, ◌==◌, if◌then◌else◌, ℤ, arith}
use Rattle.std.proofs.lemmas.Int.{ints}
use Rattle.fixed_interval.specs.Fraction.{over}
use Rattle.fixed_interval.specs.Enclosure.{Enclosure, IsOrdered, LiesIn, sum, difference, product, signed_square, root}
use Rattle.fixed_interval.specs.Grid.{Ends, Range, DEPTH, enclosure_of, enclosure_of_range, grid_sum}
use Rattle.fixed_interval.proofs.EnclosureLaws.{LiesIn_refl, LiesIn_trans, sum_mono, sum_ordered, difference_mono, difference_ordered, product_mono, product_ordered, magnitude_mono, magnitude_ordered, signed_square_mono, signed_square_ordered, root_mono, root_ordered, root_nested}
use Rattle.fixed_interval.proofs.Inclusion.{sum_holds, difference_holds, product_holds, magnitude_holds, signed_square_holds, root_holds}
use Rattle.trig_series.specs.Sine.{sine, cosine, grid_sine, grid_cosine}
use Rattle.trig_series.proofs.SineLaws.{sine_ordered, cosine_ordered, sine_holds, cosine_holds}
use Rattle.trig_series.specs.Ranges.{whole, exactly}
use Rattle.solar_terms.specs.Sun.{ExactSun, SunTerms}
use Rattle.solar_terms.specs.SunLaws.{SunSource, IsSunSource, exact_terms}
use Rattle.solar_terms.proofs.Narrowing.{Narrows, lies_deeper}
use Rattle.solar_terms.proofs.RangeLaws.{exactly_ordered}
use Rattle.altitude_test.specs.Values.{ExactBox, Box, latitude, grid_latitude}
use Rattle.altitude_test.specs.ValueLaws.{IsPartOf, exact_box}
use Rattle.altitude_test.specs.Conditions.{Spot}
use Rattle.altitude_test.proofs.ValueLaws.{latitude_ordered, latitude_holds, latitude_sine_narrows, latitude_cosine_narrows, altitude_sine_ordered, altitude_sine_narrows, altitude_sine_holds}
use Rattle.altitude_test.proofs.Verdicts.{one_sided_value, shown_side, deeper_part, among_part}
use Rattle.asr_test.specs.Asr.{sine_declination, cosine_declination, noon_cosine, noon_sine, times_factor, asr_shadow, exact_asr_value, grid_one, grid_sine_declination, grid_cosine_declination, grid_noon_cosine, grid_noon_sine, grid_times_factor, grid_asr_shadow, grid_asr_value}
use Rattle.asr_test.specs.AsrLaws.{asr_at, AsrNarrows, GridAsrHolds, AsrIsOneSided, GridShowsAsr}

-- ---- the steps of the formula

root_narrows : (n n' : ℕ) (a b : Enclosure) → n' ≤ n → LiesIn a b → LiesIn (root n a) (root n' b)
root_narrows n n' a b deeper h =
    LiesIn_trans _ _ _ (lies_deeper (λ k. root k a) (λ k. root_nested k a) n n' deeper) (root_mono n' a b h)

one_holds : LiesIn (exactly 1) (enclosure_of grid_one)
unfolding exactly whole enclosure_of_range grid_one enclosure_of over
one_holds = record { low = record { crossed = omega (arith, ints) }; high = record { crossed = omega (arith, ints) } }

once_or_twice_mono : (twice : Bool) (a b : Enclosure) → LiesIn a b → LiesIn (if twice then sum a a else a) (if twice then sum b b else b)
once_or_twice_mono true a b h = sum_mono _ _ _ _ h h
once_or_twice_mono false a b h = h

once_or_twice_ordered : (twice : Bool) (a : Enclosure) → IsOrdered a → IsOrdered (if twice then sum a a else a)
once_or_twice_ordered true a h = sum_ordered _ _ h h
once_or_twice_ordered false a h = h

once_or_twice_holds : (twice : Bool) (x : Enclosure) (a : Ends) → LiesIn x (enclosure_of a) → LiesIn (if twice then sum x x else x) (enclosure_of (if twice then grid_sum a a else a))
once_or_twice_holds true x a h = sum_holds _ _ _ _ h h
once_or_twice_holds false x a h = h

one_less_square_ordered : (a : Enclosure) → IsOrdered (difference (exactly 1) (product a a))
one_less_square_ordered a = difference_ordered _ _ (exactly_ordered 1) (product_ordered _ _)

one_less_square_mono : (a b : Enclosure) → IsOrdered a → LiesIn a b → LiesIn (difference (exactly 1) (product a a)) (difference (exactly 1) (product b b))
one_less_square_mono a b o h = difference_mono _ _ _ _ (LiesIn_refl _) (product_mono _ _ _ _ o o h h)

value_mono : (S cz v S' cz' v' : Enclosure) → IsOrdered S → IsOrdered cz → IsOrdered v → LiesIn S S' → LiesIn cz cz' → LiesIn v v' →
    LiesIn
    (difference (product (difference (exactly 1) (product S S)) (product cz cz)) (product (signed_square S) (product v v)))
    (difference (product (difference (exactly 1) (product S' S')) (product cz' cz')) (product (signed_square S') (product v' v')))
value_mono S cz v S' cz' v' o1 o2 o3 h1 h2 h3 =
    difference_mono _ _ _ _
    (product_mono _ _ _ _ (one_less_square_ordered S) (product_ordered _ _) (one_less_square_mono S S' o1 h1) (product_mono _ _ _ _ o2 o2 h2 h2))
    (product_mono _ _ _ _ (signed_square_ordered S o1) (product_ordered _ _) (signed_square_mono _ _ h1) (product_mono _ _ _ _ o3 o3 h3 h3))

-- ---- order

sine_declination_ordered : (s : ExactSun) → IsOrdered (sine_declination s)
unfolding sine_declination
sine_declination_ordered s = product_ordered _ _

cosine_declination_ordered : (n : ℕ) (s : ExactSun) → IsOrdered (cosine_declination n s)
unfolding cosine_declination
cosine_declination_ordered n s = root_ordered n _ (one_less_square_ordered _)

noon_cosine_ordered : (n : ℕ) (s : ExactSun) (b : ExactBox) → IsOrdered (noon_cosine n s b)
unfolding noon_cosine
noon_cosine_ordered n s b = sum_ordered _ _ (product_ordered _ _) (product_ordered _ _)

noon_sine_ordered : (n : ℕ) (s : ExactSun) (b : ExactBox) → IsOrdered (noon_sine n s b)
unfolding noon_sine
noon_sine_ordered n s b = difference_ordered _ _ (product_ordered _ _) (product_ordered _ _)

asr_shadow_ordered : (n : ℕ) (s : ExactSun) (b : ExactBox) (factor : ℕ) → IsOrdered (asr_shadow n s b factor)
unfolding asr_shadow times_factor
asr_shadow_ordered n s b factor =
    sum_ordered _ _ (once_or_twice_ordered (factor == 2) _ (noon_cosine_ordered n s b)) (magnitude_ordered _ (noon_sine_ordered n s b))

-- ---- a part of the sky, and a greater depth

module _ (n n' : ℕ) (s s' : ExactSun) (m m' : Enclosure) (b b' : ExactBox) (deeper : n' ≤ n) (part : IsPartOf s s' m m' b b') where
  sine_declination_narrows : LiesIn (sine_declination s) (sine_declination s')
  unfolding sine_declination
  sine_declination_narrows = product_mono _ _ _ _ part.sun_ordered.sin_e part.sun_ordered.sin_l part.sun.sin_e part.sun.sin_l

  cosine_declination_narrows : LiesIn (cosine_declination n s) (cosine_declination n' s')
  unfolding cosine_declination
  cosine_declination_narrows =
      root_narrows n n' _ _ deeper (one_less_square_mono _ _ (sine_declination_ordered s) sine_declination_narrows)

  place_in_order : IsOrdered (latitude b)
  place_in_order = latitude_ordered s s' m m' b b' part

  place_sine : LiesIn (sine n (latitude b)) (sine n' (latitude b'))
  place_sine = latitude_sine_narrows n n' s s' m m' b b' deeper part

  place_cosine : LiesIn (cosine n (latitude b)) (cosine n' (latitude b'))
  place_cosine = latitude_cosine_narrows n n' s s' m m' b b' deeper part

  noon_cosine_narrows : LiesIn (noon_cosine n s b) (noon_cosine n' s' b')
  unfolding noon_cosine
  noon_cosine_narrows =
      sum_mono _ _ _ _
      (product_mono _ _ _ _ (cosine_ordered n _ place_in_order) (cosine_declination_ordered n s) place_cosine cosine_declination_narrows)
      (product_mono _ _ _ _ (sine_ordered n _ place_in_order) (sine_declination_ordered s) place_sine sine_declination_narrows)

  noon_sine_narrows : LiesIn (noon_sine n s b) (noon_sine n' s' b')
  unfolding noon_sine
  noon_sine_narrows =
      difference_mono _ _ _ _
      (product_mono _ _ _ _ (sine_ordered n _ place_in_order) (cosine_declination_ordered n s) place_sine cosine_declination_narrows)
      (product_mono _ _ _ _ (cosine_ordered n _ place_in_order) (sine_declination_ordered s) place_cosine sine_declination_narrows)

  asr_shadow_narrows : (factor : ℕ) → LiesIn (asr_shadow n s b factor) (asr_shadow n' s' b' factor)
  unfolding asr_shadow times_factor
  asr_shadow_narrows factor =
      sum_mono _ _ _ _ (once_or_twice_mono (factor == 2) _ _ noon_cosine_narrows) (magnitude_mono _ _ noon_sine_narrows)

  asr_narrows_part : (factor : ℕ) → LiesIn (exact_asr_value n s m b factor) (exact_asr_value n' s' m' b' factor)
  unfolding exact_asr_value
  asr_narrows_part factor =
      value_mono _ _ _ _ _ _
      (altitude_sine_ordered n s m b) (noon_cosine_ordered n s b) (asr_shadow_ordered n s b factor)
      (altitude_sine_narrows n n' s s' m m' b b' deeper part) noon_cosine_narrows (asr_shadow_narrows factor)

pub asr_narrows : AsrNarrows
asr_narrows n n' s s' m m' b b' factor deeper part = asr_narrows_part n n' s s' m m' b b' deeper part factor

-- ---- on the grid

module _ (s : ExactSun) (t : SunTerms) (m : Enclosure) (r : Range) (b : ExactBox) (c : Box) (part : IsPartOf s (exact_terms t) m (enclosure_of_range r) b (exact_box c)) where
  sine_declination_holds : LiesIn (sine_declination s) (enclosure_of (grid_sine_declination t))
  unfolding sine_declination grid_sine_declination exact_terms
  sine_declination_holds = product_holds _ _ _ _ part.sun_ordered.sin_e part.sun_ordered.sin_l part.sun.sin_e part.sun.sin_l

  cosine_declination_holds : LiesIn (cosine_declination DEPTH s) (enclosure_of (grid_cosine_declination t))
  unfolding cosine_declination grid_cosine_declination
  cosine_declination_holds =
      root_holds _ _ (difference_holds _ _ _ _ one_holds
      (product_holds _ _ _ _ (sine_declination_ordered s) (sine_declination_ordered s) sine_declination_holds sine_declination_holds))

  latitude_in_order : IsOrdered (latitude b)
  latitude_in_order = latitude_ordered s _ m _ b _ part

  place_sine_holds : LiesIn (sine DEPTH (latitude b)) (enclosure_of (grid_sine (grid_latitude c)))
  place_sine_holds = sine_holds _ _ latitude_in_order (latitude_holds s t m r b c part)

  place_cosine_holds : LiesIn (cosine DEPTH (latitude b)) (enclosure_of (grid_cosine (grid_latitude c)))
  place_cosine_holds = cosine_holds _ _ latitude_in_order (latitude_holds s t m r b c part)

  noon_cosine_holds : LiesIn (noon_cosine DEPTH s b) (enclosure_of (grid_noon_cosine t c))
  unfolding noon_cosine grid_noon_cosine
  noon_cosine_holds =
      sum_holds _ _ _ _
      (product_holds _ _ _ _ (cosine_ordered _ _ latitude_in_order) (cosine_declination_ordered _ s) place_cosine_holds cosine_declination_holds)
      (product_holds _ _ _ _ (sine_ordered _ _ latitude_in_order) (sine_declination_ordered s) place_sine_holds sine_declination_holds)

  noon_sine_holds : LiesIn (noon_sine DEPTH s b) (enclosure_of (grid_noon_sine t c))
  unfolding noon_sine grid_noon_sine
  noon_sine_holds =
      difference_holds _ _ _ _
      (product_holds _ _ _ _ (sine_ordered _ _ latitude_in_order) (cosine_declination_ordered _ s) place_sine_holds cosine_declination_holds)
      (product_holds _ _ _ _ (cosine_ordered _ _ latitude_in_order) (sine_declination_ordered s) place_cosine_holds sine_declination_holds)

  asr_shadow_holds : (factor : ℕ) → LiesIn (asr_shadow DEPTH s b factor) (enclosure_of (grid_asr_shadow t c factor))
  unfolding asr_shadow grid_asr_shadow times_factor grid_times_factor
  asr_shadow_holds factor =
      sum_holds _ _ _ _ (once_or_twice_holds (factor == 2) _ _ noon_cosine_holds) (magnitude_holds _ _ noon_sine_holds)

  asr_holds_part : (factor : ℕ) → LiesIn (exact_asr_value DEPTH s m b factor) (enclosure_of (grid_asr_value t r c factor))
  unfolding exact_asr_value grid_asr_value
  asr_holds_part factor =
      let S = altitude_sine_holds s t m r b c part in
      let So = altitude_sine_ordered DEPTH s m b in
      let cz = noon_cosine_ordered DEPTH s b in
      let v = asr_shadow_ordered DEPTH s b factor in
      difference_holds _ _ _ _
      (product_holds _ _ _ _ (one_less_square_ordered _) (product_ordered _ _)
      (difference_holds _ _ _ _ one_holds (product_holds _ _ _ _ So So S S))
      (product_holds _ _ _ _ cz cz noon_cosine_holds noon_cosine_holds))
      (product_holds _ _ _ _ (signed_square_ordered _ So) (product_ordered _ _)
      (signed_square_holds _ _ S)
      (product_holds _ _ _ _ v v (asr_shadow_holds factor) (asr_shadow_holds factor)))

pub grid_asr_holds : GridAsrHolds
grid_asr_holds s t m r b c factor part = asr_holds_part s t m r b c part factor

-- ---- at one place and one minute

asr_ordered : (sun : SunSource) (k : ℤ) (p : Spot) (factor : ℕ) (n : ℕ) → IsOrdered (asr_at sun k p factor n)
unfolding asr_at exact_asr_value
asr_ordered sun k p factor n = difference_ordered _ _ (product_ordered _ _) (product_ordered _ _)

asr_at_narrows : (sun : SunSource) → IsSunSource sun → (k : ℤ) (p : Spot) (factor : ℕ) → Narrows (asr_at sun k p factor)
unfolding asr_at
asr_at_narrows sun source k p factor n =
    asr_narrows (suc n) n _ _ _ _ _ _ factor (omega arith) (deeper_part sun source k p n)

pub asr_is_one_sided : AsrIsOneSided
asr_is_one_sided sun source k p factor =
    one_sided_value (asr_at sun k p factor) (asr_ordered sun k p factor) (asr_at_narrows sun source k p factor)

pub grid_shows_asr : GridShowsAsr
unfolding asr_at
grid_shows_asr sun grid source holds k p r c among factor =
    shown_side _ _ (grid_asr_holds _ _ _ _ _ c factor (among_part sun grid source holds k p r c among))

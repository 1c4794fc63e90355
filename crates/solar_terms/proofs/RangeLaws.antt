-- Sums of exact enclosures within ranges of whole units lie within the sums of the ranges.
use Rattle.std.proofs.Common.{ℕ, ℤ, pos, ◌+ℤ◌, ◌-ℤ◌, ◌*ℤ◌, arith}
use Rattle.std.proofs.lemmas.Int.{ints}
use Rattle.fixed_interval.specs.Fraction.{◌≤ᶠ◌, over, plus, times, negate}
use Rattle.fixed_interval.specs.Enclosure.{Enclosure, IsOrdered, LiesIn, negated, sum, difference, scale_units}
use Rattle.fixed_interval.specs.Grid.{Range, enclosure_of_range}
use Rattle.fixed_interval.proofs.FractionLaws.{≤ᶠ_refl}
use Rattle.fixed_interval.proofs.EnclosureLaws.{LiesIn_refl, LiesIn_trans, sum_mono, difference_mono, scale_units_mono}
use Rattle.trig_series.specs.Ranges.{whole, added, subtracted, scaled, exactly}

-- ---- at whole numbers nothing is rounded

plus_below : (y z : ℤ) → over (y +ℤ z) 1 ≤ᶠ plus (over y 1) (over z 1)
unfolding plus over
plus_below y z = record { crossed = omega (arith, ints) }

plus_above : (y z : ℤ) → plus (over y 1) (over z 1) ≤ᶠ over (y +ℤ z) 1
unfolding plus over
plus_above y z = record { crossed = omega (arith, ints) }

minus_below : (y z : ℤ) → over (y -ℤ z) 1 ≤ᶠ plus (over y 1) (negate (over z 1))
unfolding plus over negate
minus_below y z = record { crossed = omega (arith, ints) }

minus_above : (y z : ℤ) → plus (over y 1) (negate (over z 1)) ≤ᶠ over (y -ℤ z) 1
unfolding plus over negate
minus_above y z = record { crossed = omega (arith, ints) }

times_below : (y : ℤ) (n : ℕ) → over (y *ℤ pos n) 1 ≤ᶠ times (over y 1) (over (pos n) 1)
unfolding times over
times_below y n = record { crossed = omega (arith, ints) }

times_above : (y : ℤ) (n : ℕ) → times (over y 1) (over (pos n) 1) ≤ᶠ over (y *ℤ pos n) 1
unfolding times over
times_above y n = record { crossed = omega (arith, ints) }

whole_sum : (a b : Range) → LiesIn (sum (enclosure_of_range a) (enclosure_of_range b)) (enclosure_of_range (added a b))
unfolding sum enclosure_of_range added
whole_sum a b = record { low = plus_below a.lo b.lo; high = plus_above a.hi b.hi }

whole_difference : (a b : Range) → LiesIn (difference (enclosure_of_range a) (enclosure_of_range b)) (enclosure_of_range (subtracted a b))
unfolding difference sum negated enclosure_of_range subtracted
whole_difference a b = record { low = minus_below a.lo b.hi; high = minus_above a.hi b.lo }

whole_scale : (a : Range) (n : ℕ) → LiesIn (scale_units (enclosure_of_range a) n) (enclosure_of_range (scaled a n))
unfolding scale_units enclosure_of_range scaled
whole_scale a n = record { low = times_below a.lo n; high = times_above a.hi n }

pub exactly_ordered : (n : ℕ) → IsOrdered (exactly n)
unfolding exactly whole enclosure_of_range
exactly_ordered n = record { ordered = ≤ᶠ_refl _ }

-- ---- so the ranges hold the sums

pub exactly_holds : (n : ℕ) → LiesIn (exactly n) (enclosure_of_range (whole n))
unfolding exactly
exactly_holds n = LiesIn_refl _

pub added_holds : (x y : Enclosure) (a b : Range) → LiesIn x (enclosure_of_range a) → LiesIn y (enclosure_of_range b) → LiesIn (sum x y) (enclosure_of_range (added a b))
added_holds x y a b h k = LiesIn_trans _ _ _ (sum_mono _ _ _ _ h k) (whole_sum a b)

pub subtracted_holds : (x y : Enclosure) (a b : Range) → LiesIn x (enclosure_of_range a) → LiesIn y (enclosure_of_range b) → LiesIn (difference x y) (enclosure_of_range (subtracted a b))
subtracted_holds x y a b h k = LiesIn_trans _ _ _ (difference_mono _ _ _ _ h k) (whole_difference a b)

pub scaled_holds : (x : Enclosure) (a : Range) (n : ℕ) → LiesIn x (enclosure_of_range a) → LiesIn (scale_units x n) (enclosure_of_range (scaled a n))
scaled_holds x a n h = LiesIn_trans _ _ _ (scale_units_mono n _ _ h) (whole_scale a n)

-- A coefficient that is not below 0, times a number, lies within the products of their ranges on the grid.
use Rattle.std.proofs.Common.{◌≡◌, ℕ, ℤ, pos, ◌≤ℤ◌, unsigned_abs, arith, subst, sym}
use Rattle.std.specs.Int.{int_min, int_max}
use Rattle.std.proofs.lemmas.Int.{ints, clamps}
use Rattle.fixed_interval.specs.Fraction.{◌≤ᶠ◌, over, times}
use Rattle.fixed_interval.specs.Enclosure.{Enclosure, IsOrdered, LiesIn, product, scale_units}
use Rattle.fixed_interval.specs.Grid.{Ends, Range, UNIT, enclosure_of, enclosure_of_range, grid_scale_units}
use Rattle.fixed_interval.proofs.FractionLaws.{≤ᶠ_trans, least_above, greatest_below, over_mono, times_mono}
use Rattle.fixed_interval.proofs.EnclosureLaws.{LiesIn_refl, LiesIn_trans, product_mono}
use Rattle.fixed_interval.proofs.Inclusion.{scale_units_holds}
use Rattle.meeus_terms.specs.Scaled.{hull_of, grid_scale_between}

-- ends in order, and coefficients in order from 0
pub record AreFactors (a : Ends) (r : Range) : Type 0 where
  pub ends : a.lo ≤ℤ a.hi
  pub coefficients : r.lo ≤ℤ r.hi
  pub least : pos 0 ≤ℤ r.lo

-- the ends times one coefficient
record IsBetween (a : Ends) (z : ℤ) (low high : ℤ) : Type 0 where
  low_low : over low 1 ≤ᶠ times (over a.lo UNIT) (over z 1)
  low_high : over low 1 ≤ᶠ times (over a.hi UNIT) (over z 1)
  high_low : times (over a.lo UNIT) (over z 1) ≤ᶠ over high 1
  high_high : times (over a.hi UNIT) (over z 1) ≤ᶠ over high 1

not_negative : (z : ℤ) → pos 0 ≤ℤ z → z ≡ pos (unsigned_abs z)
not_negative z h = omega (arith, ints)

top_not_negative : (n : ℕ) → pos 0 ≤ℤ (over (pos n) 1).top
unfolding over
top_not_negative n = omega (arith, ints)

rises : (a : Ends) (n : ℕ) → a.lo ≤ℤ a.hi → times (over a.lo UNIT) (over (pos n) 1) ≤ᶠ times (over a.hi UNIT) (over (pos n) 1)
rises a n h = times_mono _ _ _ (over_mono UNIT _ _ h) (top_not_negative n)

between_whole : (a : Ends) (n : ℕ) (low high : ℤ) → a.lo ≤ℤ a.hi → low ≤ℤ (grid_scale_units a n).lo → (grid_scale_units a n).hi ≤ℤ high → IsBetween a (pos n) low high
unfolding scale_units enclosure_of enclosure_of_range
between_whole a n low high o h k =
    let s : LiesIn (scale_units (enclosure_of a) n) (enclosure_of_range (grid_scale_units a n)) = scale_units_holds n (enclosure_of a) a (LiesIn_refl _) in
    let l = ≤ᶠ_trans _ _ _ (over_mono 1 _ _ h) s.low in
    let g = ≤ᶠ_trans _ _ _ s.high (over_mono 1 _ _ k) in
    record { low_low = l; low_high = ≤ᶠ_trans _ _ _ l (rises a n o); high_low = ≤ᶠ_trans _ _ _ (rises a n o) g; high_high = g }

between : (a : Ends) (z low high : ℤ) → a.lo ≤ℤ a.hi → pos 0 ≤ℤ z → low ≤ℤ (grid_scale_units a (unsigned_abs z)).lo → (grid_scale_units a (unsigned_abs z)).hi ≤ℤ high → IsBetween a z low high
between a z low high o p h k = subst (λ (y : ℤ). IsBetween a y low high) (sym (not_negative z p)) (between_whole a (unsigned_abs z) low high o h k)

-- both coefficients' products lie between the least and the greatest end
corners : (a : Ends) (r : Range) (low high : ℤ) → IsBetween a r.lo low high → IsBetween a r.hi low high → LiesIn (product (enclosure_of a) (enclosure_of_range r)) (enclosure_of_range (record { lo = low; hi = high }))
unfolding product enclosure_of enclosure_of_range
corners a r low high b c = record {
  low = least_above _ _ _ (least_above _ _ _ b.low_low c.low_low) (least_above _ _ _ b.low_high c.low_high);
  high = greatest_below _ _ _ (greatest_below _ _ _ b.high_low c.high_low) (greatest_below _ _ _ b.high_high c.high_high);
}

least_first : (x y : ℤ) → int_min x y ≤ℤ x
least_first x y = omega (arith, ints, clamps)

least_second : (x y : ℤ) → int_min x y ≤ℤ y
least_second x y = omega (arith, ints, clamps)

greatest_first : (x y : ℤ) → x ≤ℤ int_max x y
greatest_first x y = omega (arith, ints, clamps)

greatest_second : (x y : ℤ) → y ≤ℤ int_max x y
greatest_second x y = omega (arith, ints, clamps)

pub scale_between_holds : (x y : Enclosure) (a : Ends) (r : Range) → AreFactors a r → IsOrdered x → IsOrdered y → LiesIn x (enclosure_of a) → LiesIn y (enclosure_of_range r) → LiesIn (product x y) (enclosure_of_range (grid_scale_between a r))
unfolding grid_scale_between hull_of
scale_between_holds x y a r f o p h k =
    let later : pos 0 ≤ℤ r.hi = omega (arith, ints, f.least, f.coefficients) in
    LiesIn_trans _ _ _ (product_mono _ _ _ _ o p h k)
    (corners a r _ _
    (between a r.lo _ _ f.ends f.least (least_first _ _) (greatest_first _ _))
    (between a r.hi _ _ f.ends later (least_second _ _) (greatest_second _ _)))

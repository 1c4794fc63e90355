-- Pi on the grid, and that each depth of pi lies in the one before.
use Rattle.std.proofs.Common.{◌≡◌, ℕ, zero, suc, ◌+◌, ◌*◌, ◌^◌, ◌≤◌, ◌≤ℤ◌, refl, pos, arith, subst, sym, mul-le-mul, lit≤}
use Rattle.std.proofs.Math.Nat.{pow-le-pow_right}
use Rattle.std.proofs.lemmas.Int.{ints}
use Rattle.fixed_interval.specs.Fraction.{Fraction, ◌≤ᶠ◌, over, plus, negate, times, floor_at, ceil_at}
use Rattle.fixed_interval.specs.Enclosure.{IsOrdered, LiesIn}
use Rattle.fixed_interval.specs.Grid.{Ends, DEPTH, enclosure_of, rounded_out}
use Rattle.fixed_interval.proofs.FractionLaws.{plus_mono, negate_le, times_mono}
use Rattle.fixed_interval.proofs.EnclosureLaws.{LiesIn_refl, LiesIn_trans}
use Rattle.fixed_interval.proofs.Inclusion.{ends_ordered, rounded_out_holds}
use Rattle.trig_series.specs.Pi.{grid_pi, pi, machin, arctan_term, arctan_below, arctan_above}
use Rattle.trig_series.proofs.FractionSums.{plus_more, pair_rises, pair_falls}

-- a computation
pub grid_pi-is : grid_pi ≡ record { lo = pos 226375608064910088; hi = pos 226375608064910089 }
unfolding grid_pi pi machin arctan_term arctan_below arctan_above over plus negate times rounded_out floor_at ceil_at
grid_pi-is = refl

-- ---- nesting
over_falls : (m n : ℕ) → m ≤ n → over (pos 1) n ≤ᶠ over (pos 1) m
unfolding over
over_falls m n h = record { crossed = omega (arith, ints) }

pub arctan_term_falls : (m j : ℕ) → 1 ≤ m → arctan_term m (j + 1) ≤ᶠ arctan_term m j
unfolding arctan_term
arctan_term_falls m j h = over_falls ((2 * j + 1) * m ^ (2 * j + 1)) ((2 * (j + 1) + 1) * m ^ (2 * (j + 1) + 1)) (mul-le-mul first second)
  where
    first : 2 * j + 1 ≤ 2 * (j + 1) + 1
    first = omega arith

    second : m ^ (2 * j + 1) ≤ m ^ (2 * (j + 1) + 1)
    second = pow-le-pow_right h (omega arith)

pub arctan_below_rises : (m n : ℕ) → 1 ≤ m → arctan_below m n ≤ᶠ arctan_below m (suc n)
unfolding arctan_below
arctan_below_rises m n h = (pair_rises (arctan_below m n) (arctan_term m (2 * n)) (arctan_term m (2 * n + 1)) (arctan_term_falls m (2 * n) h))

pub arctan_above_falls : (m n : ℕ) → 1 ≤ m → arctan_above m (suc n) ≤ᶠ arctan_above m n
unfolding arctan_above arctan_below
arctan_above_falls m n h =
    let next : 2 * n + 1 + 1 ≡ 2 * suc n = omega arith in
    (pair_falls (arctan_below m n) (arctan_term m (2 * n)) (arctan_term m (2 * n + 1)) (arctan_term m (2 * suc n)) (subst (λ (k : ℕ). arctan_term m k ≤ᶠ arctan_term m (2 * n + 1)) next (arctan_term_falls m (2 * n + 1) h)))

whole_positive : (n : ℕ) → pos 0 ≤ℤ (over (pos n) 1).top
unfolding over
whole_positive n = omega (arith, ints)

pub machin_mono : (x x' y y' : Fraction) → x ≤ᶠ x' → y' ≤ᶠ y → machin x y ≤ᶠ machin x' y'
unfolding machin
machin_mono x x' y y' h k = plus_mono _ _ _ _ (times_mono x x' (over (pos 16) 1) h (whole_positive 16)) (negate_le (times y' (over (pos 4) 1)) (times y (over (pos 4) 1)) (times_mono y' y (over (pos 4) 1) k (whole_positive 4)))

pub pi_nests : (n : ℕ) → LiesIn (pi (suc n)) (pi n)
unfolding pi
pi_nests n = record {
  low = machin_mono (arctan_below 5 n) (arctan_below 5 (suc n)) (arctan_above 239 n) (arctan_above 239 (suc n)) (arctan_below_rises 5 n (lit≤ tt)) (arctan_above_falls 239 n (lit≤ tt));
  high = machin_mono (arctan_above 5 (suc n)) (arctan_above 5 n) (arctan_below 239 (suc n)) (arctan_below 239 n) (arctan_above_falls 5 n (lit≤ tt)) (arctan_below_rises 239 n (lit≤ tt));
}

pub pi_within_first : (n : ℕ) → LiesIn (pi n) (pi 0)
pi_within_first zero = LiesIn_refl (pi 0)
pi_within_first (suc n) = LiesIn_trans _ _ _ (pi_nests n) (pi_within_first n)

pub arctan_in_order : (m n : ℕ) → arctan_below m n ≤ᶠ arctan_above m n
unfolding arctan_above arctan_term over
arctan_in_order m n = plus_more (arctan_below m n) (arctan_term m (2 * n)) (omega (arith, ints))

pub pi_ordered : (n : ℕ) → IsOrdered (pi n)
unfolding pi
pi_ordered n = record { ordered = machin_mono (arctan_below 5 n) (arctan_above 5 n) (arctan_above 239 n) (arctan_below 239 n) (arctan_in_order 5 n) (arctan_in_order 239 n) }

-- the grid's pi holds the exact one
pub pi_holds : LiesIn (pi DEPTH) (enclosure_of grid_pi)
unfolding grid_pi
pi_holds = rounded_out_holds _ _ (LiesIn_refl (pi DEPTH))

pub grid_pi_ordered : IsOrdered (enclosure_of grid_pi)
grid_pi_ordered = subst (λ (e : Ends). IsOrdered (enclosure_of e)) (sym grid_pi-is) (ends_ordered (record { lo = pos 226375608064910088; hi = pos 226375608064910089 }) (omega (arith, ints)))

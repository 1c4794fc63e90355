-- Minus and the margin on the grid, as plain formulas over whole numbers.
use Rattle.std.proofs.Common.{◌≡◌, ℕ, ◌*◌, ◌≤◌, max, ℤ, pos, neg_ℤ, ◌*ℤ◌, ◌≤ℤ◌, unsigned_abs, arith, ap, sym, subst, ◌∙◌, lit≤, inl, inr}
use Rattle.std.specs.Int.{int_max}
use Rattle.std.proofs.lemmas.Int.{ints, clamps}
use Rattle.fixed_interval.specs.Fraction.{Fraction, over, negate, times, greatest, floor_at, ceil_at}
use Rattle.fixed_interval.specs.Enclosure.{magnitude}
use Rattle.fixed_interval.specs.Grid.{Ends, UNIT, reach, enclosure_of, rounded_out, grid_negated}
use Rattle.fixed_interval.proofs.Whole.{div-parts}
use Rattle.fixed_interval.proofs.FractionLaws.{greatest_cases}
use Rattle.fixed_interval.proofs.GridLaws.{grid_negated-is}
use Rattle.trig_series.specs.Series.{margin, grid_margin}

pub reach-grid_negated : (a : Ends) → reach (grid_negated a) ≡ reach a
reach-grid_negated a = ap reach (grid_negated-is a) ∙ turned a.lo a.hi
  where
    turned : (x y : ℤ) → max (unsigned_abs (neg_ℤ y)) (unsigned_abs (neg_ℤ x)) ≡ max (unsigned_abs x) (unsigned_abs y)
    turned x y = omega (arith, ints)

-- ---- the margin
twice-ceil : (z : ℤ) → ceil_at UNIT (times (over z UNIT) (over (pos 2) 1)) ≡ z *ℤ pos 2
unfolding ceil_at floor_at negate times over
twice-ceil z = omega (arith, ints, div-parts (neg_ℤ (z *ℤ pos 2) *ℤ pos UNIT) UNIT (lit≤ tt))

twice-floor : (z : ℤ) → floor_at UNIT (negate (times (over z UNIT) (over (pos 2) 1))) ≡ neg_ℤ (z *ℤ pos 2)
unfolding floor_at negate times over
twice-floor z = omega (arith, ints, div-parts (neg_ℤ (z *ℤ pos 2) *ℤ pos UNIT) UNIT (lit≤ tt))

-- the greatest magnitude
abbrev pub size : Ends → ℤ
size a = int_max a.hi (neg_ℤ a.lo)

-- of ends in order it is no less than 0
pub size_within : (a : Ends) (n : ℕ) → a.lo ≤ℤ a.hi → reach a ≤ n → (pos 0 ≤ℤ size a) × (unsigned_abs (size a) ≤ n)
size_within a n h k = core a.lo a.hi h k
  where
    core : (x y : ℤ) → x ≤ℤ y → max (unsigned_abs x) (unsigned_abs y) ≤ n → (pos 0 ≤ℤ int_max y (neg_ℤ x)) × (unsigned_abs (int_max y (neg_ℤ x)) ≤ n)
    core x y h k = (omega (arith, ints, clamps), omega (arith, ints, clamps))

greatest-over : (x y : ℤ) → greatest (negate (over x UNIT)) (over y UNIT) ≡ over (int_max y (neg_ℤ x)) UNIT
unfolding negate over
greatest-over x y = elim (greatest_cases (negate (over x UNIT)) (over y UNIT)) [ inl c ↦ c.0 ∙ ap (λ (z : ℤ). over z UNIT) (upper (c.1).crossed) | inr c ↦ c.0 ∙ ap (λ (z : ℤ). over z UNIT) (lower (c.1).crossed) ]
  where
    upper : (neg_ℤ x *ℤ pos UNIT) ≤ℤ (y *ℤ pos UNIT) → y ≡ int_max y (neg_ℤ x)
    upper h = omega (arith, ints, clamps)

    lower : (y *ℤ pos UNIT) ≤ℤ (neg_ℤ x *ℤ pos UNIT) → neg_ℤ x ≡ int_max y (neg_ℤ x)
    lower h = omega (arith, ints, clamps)

pub grid_margin-is : (a : Ends) → grid_margin a ≡ record { lo = neg_ℤ (size a *ℤ pos 2); hi = size a *ℤ pos 2 }
unfolding grid_margin margin rounded_out magnitude enclosure_of
grid_margin-is a i = record {
  lo = (ap (λ (x : Fraction). floor_at UNIT (negate (times x (over (pos 2) 1)))) (greatest-over a.lo a.hi) ∙ twice-floor (size a)) i;
  hi = (ap (λ (x : Fraction). ceil_at UNIT (times x (over (pos 2) 1))) (greatest-over a.lo a.hi) ∙ twice-ceil (size a)) i;
}

pub margin_from : (a r : Ends) (m : ℤ) → r ≡ record { lo = neg_ℤ (m *ℤ pos 2); hi = m *ℤ pos 2 } → m ≡ size a → r ≡ grid_margin a
margin_from a r m h e = h ∙ ap (λ (z : ℤ). record { lo = neg_ℤ (z *ℤ pos 2); hi = z *ℤ pos 2 }) e ∙ sym (grid_margin-is a)

pub reach-grid_margin : (a : Ends) → reach (grid_margin a) ≤ 2 * reach a
reach-grid_margin a = subst (λ (e : Ends). reach e ≤ 2 * reach a) (sym (grid_margin-is a)) (twice a.lo a.hi)
  where
    twice : (x y : ℤ) → max (unsigned_abs (neg_ℤ (int_max y (neg_ℤ x) *ℤ pos 2))) (unsigned_abs (int_max y (neg_ℤ x) *ℤ pos 2)) ≤ 2 * max (unsigned_abs x) (unsigned_abs y)
    twice x y = omega (arith, ints, clamps)

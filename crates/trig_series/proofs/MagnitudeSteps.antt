-- Products and quotients of numbers that aren't negative, as plain formulas.
use Rattle.std.proofs.Common.{◌≡◌, ℕ, ◌+◌, ◌*◌, ◌/◌, ◌-◌, ◌<◌, ◌≤◌, ℤ, pos, neg_ℤ, ◌*ℤ◌, arith, ap, sym, ◌∙◌, refl, lit≤, mul-le-mul, le_refl, zero, suc}
use Rattle.std.specs.Int.{div_ceil}
use Rattle.std.proofs.Math.Nat.{zero-div, zero-mul}
use Rattle.std.proofs.lemmas.Int.{ints, clamps}
use Rattle.std.proofs.lemmas.Grind.{div_ceil_times}
use Rattle.std.proofs.lemmas.Nat.{div-mul-add}
use Rattle.fixed_interval.specs.Grid.{Ends, UNIT, grid_product, grid_divide_by}
use Rattle.fixed_interval.specs.Whole.{floor_over, ceil_over, least_of_four, greatest_of_four}
use Rattle.fixed_interval.proofs.Whole.{div_unique}
use Rattle.fixed_interval.proofs.GridLaws.{grid_product-is, grid_divide_by-is}
use Rattle.trig_series.proofs.Mirrored.{neg-times}

pub floor-natural : (m n : ℕ) → floor_over (pos m) n ≡ pos (m / n)
floor-natural m n = refl

pub ceil-natural : (m n : ℕ) → 0 < n → ceil_over (pos m) n ≡ pos (div_ceil m n)
ceil-natural m n h = let near = div_ceil_times m n h in core m n (div_ceil m n) h near.0 near.1
  where
    core : (m n d : ℕ) → 0 < n → m ≤ d * n → d * n < m + n → ceil_over (pos m) n ≡ pos d
    core m n d h p q = ap neg_ℤ (div_unique (neg_ℤ (pos m)) (neg_ℤ (pos d)) n h (rw (neg-times (pos d) (pos n)) (omega (arith, ints))) (rw (neg-times (pos d) (pos n)) (omega (arith, ints)))) ∙ omega (arith, ints)

-- a quotient rounded up, with no test of what is left
pub div_ceil-is : (m n : ℕ) → 1 ≤ n → (m + (n - 1)) / n ≡ div_ceil m n
div_ceil-is m n h = core (div_ceil m n) (div_ceil_times m n h)
  where
    core : (d : ℕ) → (m ≤ d * n) × (d * n < m + n) → (m + (n - 1)) / n ≡ d
    core d near =
        let left : m + (n - 1) ≡ d * n + (m + (n - 1) - d * n) = omega (arith, near.0, near.1) in
        ap (λ (x : ℕ). x / n) left ∙ div-mul-add d n (m + (n - 1) - d * n) (omega (arith, near.0, near.1, h))

pub divided : (l h n : ℕ) → 0 < n → record { lo = pos (l / n); hi = pos (div_ceil h n) } ≡ grid_divide_by (record { lo = pos l; hi = pos h }) n
divided l h n p = (λ i. record { lo = pos (l / n); hi = sym (ceil-natural h n p) i }) ∙ sym (grid_divide_by-is (record { lo = pos l; hi = pos h }) n p)

-- of the four products the first is the least and the last the greatest
corners : (l h m k : ℕ) → l ≤ h → m ≤ k → (least_of_four (pos l *ℤ pos m) (pos l *ℤ pos k) (pos h *ℤ pos m) (pos h *ℤ pos k) ≡ pos (l * m)) × (greatest_of_four (pos l *ℤ pos m) (pos l *ℤ pos k) (pos h *ℤ pos m) (pos h *ℤ pos k) ≡ pos (h * k))
unfolding least_of_four greatest_of_four
corners l h m k p q =
    let a : l * m ≤ l * k = mul-le-mul (le_refl l) q in
    let b : l * m ≤ h * m = mul-le-mul p (le_refl m) in
    let c : l * k ≤ h * k = mul-le-mul p (le_refl k) in
    let d : h * m ≤ h * k = mul-le-mul (le_refl h) q in
    (omega (arith, ints, clamps, a, b, c, d), omega (arith, ints, clamps, a, b, c, d))

pub multiplied : (l h m k : ℕ) → l ≤ h → m ≤ k → record { lo = pos (l * m / UNIT); hi = pos (div_ceil (h * k) UNIT) } ≡ grid_product (record { lo = pos l; hi = pos h }) (record { lo = pos m; hi = pos k })
multiplied l h m k p q =
    let ends = corners l h m k p q in
    (λ i. record { lo = floor_over (sym ends.0 i) UNIT; hi = (sym (ceil-natural (h * k) UNIT (lit≤ tt)) ∙ ap (λ (z : ℤ). ceil_over z UNIT) (sym ends.1)) i }) ∙ sym (grid_product-is (record { lo = pos l; hi = pos h }) (record { lo = pos m; hi = pos k }))

-- 0, or 0 and 1 units, stay so times what reaches 1 unit where they do, over any number
once : (d n : ℕ) → 1 ≤ d * n → d * n < 1 + n → 1 ≤ n → d ≡ 1
once zero n p q h = absurd (omega (arith, p))
once (suc zero) n p q h = refl
once (suc (suc k)) n p q h = absurd (omega (arith, q, h))

never : (d n : ℕ) → d * n < 0 + n → 1 ≤ n → d ≡ 0
never zero n q h = refl
never (suc k) n q h = absurd (omega (arith, q, h))

over_any : (g n : ℕ) → g ≤ 1 → 1 ≤ n → div_ceil g n ≡ g
over_any zero n h k = let near = div_ceil_times 0 n k in never (div_ceil 0 n) n near.1 k
over_any (suc zero) n h k = let near = div_ceil_times 1 n k in once (div_ceil 1 n) n near.0 near.1 k
over_any (suc (suc j)) n h k = absurd (omega (arith, h))

one_unit : (g k : ℕ) → g ≤ 1 → g ≤ k → k ≤ UNIT → div_ceil (g * k) UNIT ≡ g
one_unit g k h p q = by g h p (div_ceil_times (g * k) UNIT (lit≤ tt))
  where
    by : (g : ℕ) → g ≤ 1 → g ≤ k → (g * k ≤ div_ceil (g * k) UNIT * UNIT) × (div_ceil (g * k) UNIT * UNIT < g * k + UNIT) → div_ceil (g * k) UNIT ≡ g
    by zero h p near = omega (arith, near.0, near.1)
    by (suc zero) h p near = omega (arith, near.0, near.1, p, q)
    by (suc (suc j)) h p near = absurd (omega (arith, h))

pub level : (l g m k n : ℕ) → l ≡ 0 → g ≤ 1 → g ≤ k → m ≤ k → k ≤ UNIT → 1 ≤ n → grid_divide_by (grid_product (record { lo = pos l; hi = pos g }) (record { lo = pos m; hi = pos k })) n ≡ record { lo = pos l; hi = pos g }
level l g m k n e h p q r s = ap (λ (x : Ends). grid_divide_by x n) (sym (multiplied l g m k (omega arith) q)) ∙ sym (divided (l * m / UNIT) (div_ceil (g * k) UNIT) n s) ∙ (λ i. record { lo = pos (least i); hi = pos (greatest i) })
  where
    nothing : l * m / UNIT ≡ 0
    nothing = ap (λ (x : ℕ). x * m / UNIT) e ∙ ap (λ (x : ℕ). x / UNIT) (zero-mul m)

    least : l * m / UNIT / n ≡ l
    least = ap (λ (x : ℕ). x / n) nothing ∙ zero-div n ∙ sym e

    greatest : div_ceil (div_ceil (g * k) UNIT) n ≡ g
    greatest = ap (λ (x : ℕ). div_ceil x n) (one_unit g k h p r) ∙ over_any g n h s

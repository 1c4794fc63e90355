-- Widths that grow in step with an argument's: w steps of the grid, where w UNIT is at most slope v + rest.
use Rattle.std.proofs.Common.{◌≡◌, ℕ, zero, suc, ◌+◌, ◌*◌, ◌/◌, ◌%◌, ◌<◌, ◌≤◌, min, ℤ, pos, neg_ℤ, ◌*ℤ◌, ◌≤ℤ◌, unsigned_abs, arith, sym, subst, lit≤, refl, mul-le-mul_right, le_refl, le_of_mul-le-mul_right}
use Rattle.std.specs.Int.{div_ceil}
use Rattle.std.proofs.lemmas.Int.{ints}
use Rattle.fixed_interval.specs.Bound.{AreBounded, IsBounded, sum_bound, ratio_bound, product_bound, divide_bound}
use Rattle.fixed_interval.specs.Grid.{Ends, UNIT, grid_negated, grid_sum, grid_product, grid_divide_by}
use Rattle.fixed_interval.proofs.Sizes.{div_ceil_covers}
use Rattle.fixed_interval.proofs.Widths.{grid_product_bounded, grid_sum_bounded, grid_negated_bounded, grid_divide_by_bounded, more_bounded}
use Rattle.trig_series.specs.Series.{divisor, next_grid_term, grid_term, grid_partial_sum, grid_margin, grid_series}
use Rattle.trig_series.proofs.Margins.{size, size_within, grid_margin-is}

pub record Linear : Type 0 where
  pub reach : ℕ
  pub slope : ℕ
  pub rest : ℕ

-- e lies within the reach, and is no wider than this at an argument v wide
pub record IsNarrow (v : ℕ) (b : Linear) (e : Ends) : Type 0 where
  pub width : ℕ
  pub bounded : IsBounded e (record { reach = b.reach; width = width })
  pub linear : width * UNIT ≤ b.slope * v + b.rest

-- ---- quotients rounded up
div_ceil_times : (m n : ℕ) → 0 < n → div_ceil m n * n ≤ m + n
div_ceil_times m n h = by (m % n) refl
  where
    by : (r : ℕ) → m % n ≡ r → (m / n + min 1 r) * n ≤ m + n
    by zero e = omega arith
    by (suc r) e = let one : min 1 (suc r) ≡ 1 = omega arith in rw one (omega arith)

-- what is linear times n is linear
part_linear : (w slope rest v n : ℕ) → 0 < n → w * n ≤ slope * v + rest → w ≤ div_ceil slope n * v + div_ceil rest n
part_linear w slope rest v n p h =
    let s = mul-le-mul_right v (div_ceil_covers slope n p) in
    let t = div_ceil_covers rest n p in
    let all : w * n ≤ (div_ceil slope n * v + div_ceil rest n) * n = omega (arith, h, s, t) in
    le_of_mul-le-mul_right all p

-- ---- each operation
unfoldable pub sum_linear : Linear → Linear → Linear
sum_linear a b = record { reach = a.reach + b.reach; slope = a.slope + b.slope; rest = a.rest + b.rest }

unfoldable pub product_linear : Linear → Linear → Linear
product_linear a b = record { reach = div_ceil (a.reach * b.reach) UNIT; slope = div_ceil (a.reach * b.slope + b.reach * a.slope) UNIT; rest = div_ceil (a.reach * b.rest + b.reach * a.rest) UNIT + 2 * UNIT }

unfoldable pub part_of_linear : Linear → ℕ → Linear
part_of_linear a n = record { reach = div_ceil a.reach n; slope = div_ceil a.slope n; rest = div_ceil a.rest n + 2 * UNIT }

pub sum_narrow : (v : ℕ) (p q : Linear) (a b : Ends) → IsNarrow v p a → IsNarrow v q b → IsNarrow v (sum_linear p q) (grid_sum a b)
unfolding sum_linear sum_bound
sum_narrow v p q a b h k = record { width = h.width + k.width; bounded = grid_sum_bounded a b _ _ h.bounded k.bounded; linear = omega (arith, h.linear, k.linear) }

pub product_narrow : (v : ℕ) (p q : Linear) (a b : Ends) → IsNarrow v p a → IsNarrow v q b → IsNarrow v (product_linear p q) (grid_product a b)
unfolding product_linear product_bound ratio_bound
product_narrow v p q a b h k = record { width = div_ceil (p.reach * k.width + q.reach * h.width) UNIT + 1; bounded = grid_product_bounded a b _ _ h.bounded k.bounded; linear = core p.reach q.reach h.width k.width p.slope q.slope p.rest q.rest h.linear k.linear }
  where
    core : (s t x y σ τ ρ π : ℕ) → x * UNIT ≤ σ * v + ρ → y * UNIT ≤ τ * v + π → (div_ceil (s * y + t * x) UNIT + 1) * UNIT ≤ div_ceil (s * τ + t * σ) UNIT * v + (div_ceil (s * π + t * ρ) UNIT + 2 * UNIT)
    core s t x y σ τ ρ π f g =
        let first = mul-le-mul_right t f in
        let second = mul-le-mul_right s g in
        let spread : (s * y + t * x) * UNIT ≤ (s * τ + t * σ) * v + (s * π + t * ρ) = omega (arith, first, second) in
        omega (arith, div_ceil_times (s * y + t * x) UNIT (lit≤ tt), part_linear (s * y + t * x) (s * τ + t * σ) (s * π + t * ρ) v UNIT (lit≤ tt) spread)

-- a quotient of something linear, rounded outward
pub rounded_linear : (w slope rest v n : ℕ) → 0 < n → w * UNIT ≤ slope * v + rest → (div_ceil w n + 1) * UNIT ≤ div_ceil slope n * v + (div_ceil rest n + 2 * UNIT)
rounded_linear w slope rest v n g f =
    let parts = mul-le-mul_right UNIT (div_ceil_times w n g) in
    let s = mul-le-mul_right v (div_ceil_covers slope n g) in
    let t = div_ceil_covers rest n g in
    let all : ((div_ceil w n + 1) * UNIT) * n ≤ (div_ceil slope n * v + (div_ceil rest n + 2 * UNIT)) * n = omega (arith, f, parts, s, t) in
    le_of_mul-le-mul_right all g

pub part_narrow : (v : ℕ) (p : Linear) (n : ℕ) (a : Ends) → 0 < n → IsNarrow v p a → IsNarrow v (part_of_linear p n) (grid_divide_by a n)
unfolding part_of_linear divide_bound
part_narrow v p n a g h = record { width = div_ceil h.width n + 1; bounded = grid_divide_by_bounded a _ n g h.bounded; linear = rounded_linear h.width p.slope p.rest v n g h.linear }

pub more_narrow : (v : ℕ) (p q : Linear) (e : Ends) → p.reach ≤ q.reach → p.slope ≤ q.slope → p.rest ≤ q.rest → IsNarrow v p e → IsNarrow v q e
more_narrow v p q e f g k h = record { width = h.width; bounded = more_bounded e.lo e.hi _ _ h.bounded f (le_refl h.width); linear = omega (arith, h.linear, mul-le-mul_right v g, k) }

pub negated_narrow : (v : ℕ) (p : Linear) (a : Ends) → IsNarrow v p a → IsNarrow v p (grid_negated a)
negated_narrow v p a h = record { width = h.width; bounded = grid_negated_bounded a _ h.bounded; linear = h.linear }

unfoldable pub margin_linear : Linear → Linear
margin_linear a = record { reach = 2 * a.reach; slope = 0; rest = 4 * a.reach * UNIT }

pub margin_narrow : (v : ℕ) (p : Linear) (a : Ends) → IsNarrow v p a → IsNarrow v (margin_linear p) (grid_margin a)
unfolding margin_linear
margin_narrow v p a h = record { width = 4 * p.reach; bounded = subst (λ (e : Ends). IsBounded e (record { reach = 2 * p.reach; width = 4 * p.reach })) (sym (grid_margin-is a)) (core (size a) (size_within a p.reach h.bounded.ordered h.bounded.reach)); linear = omega arith }
  where
    core : (z : ℤ) → (pos 0 ≤ℤ z) × (unsigned_abs z ≤ p.reach) → AreBounded (neg_ℤ (z *ℤ pos 2)) (z *ℤ pos 2) (record { reach = 2 * p.reach; width = 4 * p.reach })
    core z w = record { ordered = omega (arith, ints, w.0); reach = omega (arith, ints, w.1); width = omega (arith, ints, w.0, w.1) }

-- ---- series
divisor_positive : (power j : ℕ) → 0 < divisor power j
divisor_positive power j = omega arith

unfoldable pub term_linear : ℕ → Linear → Linear → ℕ → Linear
term_linear power first square zero = first
term_linear power first square (suc j) = part_of_linear (product_linear (term_linear power first square j) square) (divisor power j)

unfoldable pub sum_of_linear : (ℕ → Linear) → ℕ → Linear
sum_of_linear terms zero = record { reach = 0; slope = 0; rest = 0 }
sum_of_linear terms (suc n) = sum_linear (sum_of_linear terms n) (terms n)

unfoldable pub series_linear : (ℕ → Linear) → ℕ → Linear
series_linear terms n = sum_linear (sum_of_linear terms n) (margin_linear (terms n))

pub term_narrow : (v power : ℕ) (p q : Linear) (first square : Ends) → IsNarrow v p first → IsNarrow v q square → (j : ℕ) → IsNarrow v (term_linear power p q j) (grid_term power first square j)
unfolding term_linear grid_term next_grid_term
term_narrow v power p q first square h k zero = h
term_narrow v power p q first square h k (suc j) = negated_narrow v _ _ (part_narrow v _ (divisor power j) _ (divisor_positive power j) (product_narrow v _ _ _ _ (term_narrow v power p q first square h k j) k))

pub sum_of_narrow : (v : ℕ) (ps : ℕ → Linear) (terms : ℕ → Ends) → ((j : ℕ) → IsNarrow v (ps j) (terms j)) → (n : ℕ) → IsNarrow v (sum_of_linear ps n) (grid_partial_sum terms n)
unfolding sum_of_linear grid_partial_sum
sum_of_narrow v ps terms h zero = record { width = 0; bounded = record { ordered = omega (arith, ints); reach = lit≤ tt; width = omega (arith, ints) }; linear = omega arith }
sum_of_narrow v ps terms h (suc n) = sum_narrow v _ _ _ _ (sum_of_narrow v ps terms h n) (h n)

pub series_narrow : (v : ℕ) (ps : ℕ → Linear) (terms : ℕ → Ends) → ((j : ℕ) → IsNarrow v (ps j) (terms j)) → (n : ℕ) → IsNarrow v (series_linear ps n) (grid_series terms n)
unfolding series_linear grid_series
series_narrow v ps terms h n = sum_narrow v _ _ _ _ (sum_of_narrow v ps terms h n) (margin_narrow v _ _ (h n))

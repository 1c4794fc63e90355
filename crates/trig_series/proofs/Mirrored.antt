-- Minus on the grid: it passes through products, quotients, sums, and a whole series.
use Rattle.std.proofs.Common.{◌≡◌, ℕ, zero, suc, ◌<◌, ℤ, pos, neg_ℤ, ◌*ℤ◌, arith, ap, ap₂, sym, ◌∙◌, refl}
use Rattle.std.specs.Int.{int_max}
use Rattle.std.proofs.lemmas.Int.{ints, clamps}
use Rattle.std.proofs.Math.IntN.{neg_ℤ-neg_ℤ, neg_ℤ-+ℤ}
use borrow.Author.Differences.{same_in}
use Rattle.fixed_interval.specs.Grid.{Ends, UNIT, DEPTH, grid_negated, grid_sum, grid_difference, grid_product, grid_divide_by}
use Rattle.fixed_interval.specs.Whole.{floor_over, ceil_over, least_of_four, greatest_of_four}
use Rattle.fixed_interval.proofs.Whole.{parts}
use Rattle.fixed_interval.proofs.GridLaws.{least_product, greatest_product, grid_negated-is, grid_sum-is, grid_difference-is, grid_product-is, grid_divide_by-is}
use Rattle.trig_series.specs.Series.{divisor, next_grid_term, grid_term, grid_partial_sum, grid_margin, grid_series, grid_one, grid_sine_series, grid_cosine_series}
use Rattle.trig_series.proofs.Margins.{size, grid_margin-is}

pub neg-times : (x y : ℤ) → neg_ℤ x *ℤ y ≡ neg_ℤ (x *ℤ y)
neg-times x y = same_in _ _ (simp parts (omega arith))

-- the ends turned round zero
abbrev turned : Ends → Ends
turned a = record { lo = neg_ℤ a.hi; hi = neg_ℤ a.lo }

pub negated_twice : (a : Ends) → grid_negated (grid_negated a) ≡ a
negated_twice a = grid_negated-is (grid_negated a) ∙ ap turned (grid_negated-is a) ∙ (λ i. record { lo = neg_ℤ-neg_ℤ a.lo i; hi = neg_ℤ-neg_ℤ a.hi i })

pub difference_is : (a b : Ends) → grid_difference a b ≡ grid_sum a (grid_negated b)
difference_is a b = grid_difference-is a b ∙ sym (grid_sum-is a (turned b)) ∙ sym (ap (grid_sum a) (grid_negated-is b))

-- ---- products and quotients
turned_quotients : (y z : ℤ) (n : ℕ) → record { lo = floor_over (neg_ℤ y) n; hi = ceil_over (neg_ℤ z) n } ≡ turned (record { lo = floor_over z n; hi = ceil_over y n })
turned_quotients y z n i = record {
  lo = sym (neg_ℤ-neg_ℤ (floor_over (neg_ℤ y) n)) i;
  hi = neg_ℤ (floor_over (neg_ℤ-neg_ℤ z i) n);
}

pub quotient_negated : (a : Ends) (n : ℕ) → 0 < n → grid_divide_by (grid_negated a) n ≡ grid_negated (grid_divide_by a n)
quotient_negated a n h = ap (λ (x : Ends). grid_divide_by x n) (grid_negated-is a) ∙ grid_divide_by-is (turned a) n h ∙ turned_quotients a.hi a.lo n ∙ sym (grid_negated-is (grid_divide_by a n) ∙ ap turned (grid_divide_by-is a n h))

-- the corners of a product, where the first factor is turned
least_turned : (a b : Ends) → least_product (turned a) b ≡ neg_ℤ (greatest_product a b)
unfolding least_of_four greatest_of_four
least_turned a b = rw (neg-times a.hi b.lo, neg-times a.hi b.hi, neg-times a.lo b.lo, neg-times a.lo b.hi) (four (a.lo *ℤ b.lo) (a.lo *ℤ b.hi) (a.hi *ℤ b.lo) (a.hi *ℤ b.hi))
  where
    four : (p q r s : ℤ) → least_of_four (neg_ℤ r) (neg_ℤ s) (neg_ℤ p) (neg_ℤ q) ≡ neg_ℤ (greatest_of_four p q r s)
    four p q r s = omega (arith, ints, clamps)

greatest_turned : (a b : Ends) → greatest_product (turned a) b ≡ neg_ℤ (least_product a b)
unfolding least_of_four greatest_of_four
greatest_turned a b = rw (neg-times a.hi b.lo, neg-times a.hi b.hi, neg-times a.lo b.lo, neg-times a.lo b.hi) (four (a.lo *ℤ b.lo) (a.lo *ℤ b.hi) (a.hi *ℤ b.lo) (a.hi *ℤ b.hi))
  where
    four : (p q r s : ℤ) → greatest_of_four (neg_ℤ r) (neg_ℤ s) (neg_ℤ p) (neg_ℤ q) ≡ neg_ℤ (least_of_four p q r s)
    four p q r s = omega (arith, ints, clamps)

abbrev rounded : ℤ → ℤ → Ends
rounded y z = record { lo = floor_over y UNIT; hi = ceil_over z UNIT }

pub product_negated : (a b : Ends) → grid_product (grid_negated a) b ≡ grid_negated (grid_product a b)
product_negated a b = ap (λ (x : Ends). grid_product x b) (grid_negated-is a) ∙ grid_product-is (turned a) b ∙ ap₂ rounded (least_turned a b) (greatest_turned a b) ∙ turned_quotients (greatest_product a b) (least_product a b) UNIT ∙ sym (grid_negated-is (grid_product a b) ∙ ap turned (grid_product-is a b))

pub square_negated : (a : Ends) → grid_product (grid_negated a) (grid_negated a) ≡ grid_product a a
unfolding least_of_four greatest_of_four
square_negated a = ap (λ (x : Ends). grid_product x x) (grid_negated-is a) ∙ grid_product-is (turned a) (turned a) ∙ ap₂ rounded (least a.lo a.hi) (greatest a.lo a.hi) ∙ sym (grid_product-is a a)
  where
    both : (x y : ℤ) → neg_ℤ x *ℤ neg_ℤ y ≡ x *ℤ y
    both x y = same_in _ _ (simp parts (omega arith))

    least : (x y : ℤ) → least_of_four (neg_ℤ y *ℤ neg_ℤ y) (neg_ℤ y *ℤ neg_ℤ x) (neg_ℤ x *ℤ neg_ℤ y) (neg_ℤ x *ℤ neg_ℤ x) ≡ least_of_four (x *ℤ x) (x *ℤ y) (y *ℤ x) (y *ℤ y)
    least x y = rw (both y y, both y x, both x y, both x x) (back (x *ℤ x) (x *ℤ y) (y *ℤ x) (y *ℤ y))
      where
        back : (p q r s : ℤ) → least_of_four s r q p ≡ least_of_four p q r s
        back p q r s = omega (arith, ints, clamps)

    greatest : (x y : ℤ) → greatest_of_four (neg_ℤ y *ℤ neg_ℤ y) (neg_ℤ y *ℤ neg_ℤ x) (neg_ℤ x *ℤ neg_ℤ y) (neg_ℤ x *ℤ neg_ℤ x) ≡ greatest_of_four (x *ℤ x) (x *ℤ y) (y *ℤ x) (y *ℤ y)
    greatest x y = rw (both y y, both y x, both x y, both x x) (back (x *ℤ x) (x *ℤ y) (y *ℤ x) (y *ℤ y))
      where
        back : (p q r s : ℤ) → greatest_of_four s r q p ≡ greatest_of_four p q r s
        back p q r s = omega (arith, ints, clamps)

-- ---- a series
pub sum_negated : (a b : Ends) → grid_sum (grid_negated a) (grid_negated b) ≡ grid_negated (grid_sum a b)
sum_negated a b = ap₂ grid_sum (grid_negated-is a) (grid_negated-is b) ∙ grid_sum-is (turned a) (turned b) ∙ (λ i. record { lo = sym (neg_ℤ-+ℤ a.hi b.hi) i; hi = sym (neg_ℤ-+ℤ a.lo b.lo) i }) ∙ sym (grid_negated-is (grid_sum a b) ∙ ap turned (grid_sum-is a b))

pub margin_negated : (a : Ends) → grid_margin (grid_negated a) ≡ grid_negated (grid_margin a)
margin_negated a = ap grid_margin (grid_negated-is a) ∙ grid_margin-is (turned a) ∙ (λ i. record { lo = neg_ℤ (same_size a.lo a.hi i *ℤ pos 2); hi = (ap (λ (z : ℤ). z *ℤ pos 2) (same_size a.lo a.hi) ∙ sym (neg_ℤ-neg_ℤ (size a *ℤ pos 2))) i }) ∙ sym (grid_negated-is (grid_margin a) ∙ ap turned (grid_margin-is a))
  where
    same_size : (x y : ℤ) → int_max (neg_ℤ x) (neg_ℤ (neg_ℤ y)) ≡ int_max y (neg_ℤ x)
    same_size x y = omega (arith, ints, clamps)

-- the term after one that is turned
pub next_negated : (t square : Ends) (n : ℕ) → 0 < n → next_grid_term (grid_negated t) square n ≡ grid_divide_by (grid_product t square) n
unfolding next_grid_term
next_negated t square n h = ap (λ (x : Ends). grid_negated (grid_divide_by x n)) (product_negated t square) ∙ ap grid_negated (quotient_negated (grid_product t square) n h) ∙ negated_twice (grid_divide_by (grid_product t square) n)

pub term_negated : (power : ℕ) (first square : Ends) (j : ℕ) → grid_term power (grid_negated first) square j ≡ grid_negated (grid_term power first square j)
unfolding grid_term next_grid_term
term_negated power first square zero = refl
term_negated power first square (suc j) =
    let before = grid_term power first square j in
    ap (λ (t : Ends). next_grid_term t square (divisor power j)) (term_negated power first square j) ∙ next_negated before square (divisor power j) (omega arith) ∙ sym (negated_twice (grid_divide_by (grid_product before square) (divisor power j)))

partial_sum_negated : (s t : ℕ → Ends) → ((j : ℕ) → s j ≡ grid_negated (t j)) → (n : ℕ) → grid_partial_sum s n ≡ grid_negated (grid_partial_sum t n)
unfolding grid_partial_sum
partial_sum_negated s t e zero = sym (grid_negated-is (record { lo = pos 0; hi = pos 0 }))
partial_sum_negated s t e (suc n) = ap₂ grid_sum (partial_sum_negated s t e n) (e n) ∙ sum_negated (grid_partial_sum t n) (t n)

pub series_negated : (s t : ℕ → Ends) → ((j : ℕ) → s j ≡ grid_negated (t j)) → (n : ℕ) → grid_series s n ≡ grid_negated (grid_series t n)
unfolding grid_series
series_negated s t e n = ap₂ grid_sum (partial_sum_negated s t e n) (ap grid_margin (e n) ∙ margin_negated (t n)) ∙ sum_negated (grid_partial_sum t n) (grid_margin (t n))

-- ---- sine and cosine
pub sine_negated : (x : Ends) → grid_sine_series (grid_negated x) ≡ grid_negated (grid_sine_series x)
unfolding grid_sine_series
sine_negated x = ap (λ (y : Ends). grid_series (grid_term 1 (grid_negated x) y) DEPTH) (square_negated x) ∙ series_negated (grid_term 1 (grid_negated x) (grid_product x x)) (grid_term 1 x (grid_product x x)) (term_negated 1 x (grid_product x x)) DEPTH

pub cosine_negated : (x : Ends) → grid_cosine_series (grid_negated x) ≡ grid_cosine_series x
unfolding grid_cosine_series
cosine_negated x = ap (λ (y : Ends). grid_series (grid_term 0 grid_one y) DEPTH) (square_negated x)

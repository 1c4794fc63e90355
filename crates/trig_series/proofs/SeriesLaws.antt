-- The series keep order: arguments that lie in others give results that lie in theirs, exact, on the grid, and from one to the other.
use Rattle.std.proofs.Common.{◌≡◌, ℕ, zero, suc, ◌*◌, ℤ, pos, neg_ℤ, ◌*ℤ◌, ◌≤ℤ◌, arith}
use Rattle.std.proofs.lemmas.Int.{ints}
use borrow.Author.Differences.{same_in}
use Rattle.fixed_interval.specs.Fraction.{Fraction, ◌≤ᶠ◌, over, negate, times, greatest}
use Rattle.fixed_interval.specs.Enclosure.{Enclosure, IsOrdered, LiesIn, point, product, magnitude}
use Rattle.fixed_interval.specs.Grid.{Ends, DEPTH, enclosure_of, grid_product}
use Rattle.fixed_interval.proofs.Whole.{parts}
use Rattle.fixed_interval.proofs.FractionLaws.{≤ᶠ_trans, negate_le, times_mono, greatest_right}
use Rattle.fixed_interval.proofs.EnclosureLaws.{LiesIn_refl, point_ordered, negated_mono, negated_ordered, sum_mono, sum_ordered, product_mono, product_ordered, divide_by_mono, divide_by_ordered, magnitude_mono, magnitude_ordered}
use Rattle.fixed_interval.proofs.Inclusion.{ends_ordered, rounded_out_holds, rounded_out_mono, rounded_out_ordered, negated_holds, grid_negated_mono, grid_negated_ordered, sum_holds, grid_sum_mono, grid_sum_ordered, product_holds, grid_product_mono, grid_product_ordered, divide_by_holds, grid_divide_by_mono, grid_divide_by_ordered}
use Rattle.trig_series.proofs.FractionSums.{times_not_negative}
use Rattle.trig_series.specs.Series.{divisor, next_term, term, partial_sum, margin, series, sine_series, cosine_series, next_grid_term, grid_term, grid_partial_sum, grid_margin, grid_series, grid_one, grid_sine_series, grid_cosine_series}

-- ---- terms
pub term_ordered : (power : ℕ) (first square : Enclosure) → IsOrdered first → (j : ℕ) → IsOrdered (term power first square j)
unfolding term next_term
term_ordered power first square o zero = o
term_ordered power first square o (suc j) = negated_ordered _ (divide_by_ordered (divisor power j) _ (product_ordered (term power first square j) square))

pub term_mono : (power : ℕ) (a b x y : Enclosure) → IsOrdered a → IsOrdered x → LiesIn a b → LiesIn x y → (j : ℕ) → LiesIn (term power a x j) (term power b y j)
unfolding term next_term
term_mono power a b x y o p h k zero = h
term_mono power a b x y o p h k (suc j) = negated_mono _ _ (divide_by_mono (divisor power j) _ _ (product_mono (term power a x j) x (term power b y j) y (term_ordered power a x o j) p (term_mono power a b x y o p h k j) k))

pub grid_term_ordered : (power : ℕ) (first square : Ends) → IsOrdered (enclosure_of first) → (j : ℕ) → IsOrdered (enclosure_of (grid_term power first square j))
unfolding grid_term next_grid_term
grid_term_ordered power first square o zero = o
grid_term_ordered power first square o (suc j) = grid_negated_ordered _ (grid_divide_by_ordered (divisor power j) _ (grid_product_ordered (grid_term power first square j) square))

pub grid_term_mono : (power : ℕ) (a b x y : Ends) → IsOrdered (enclosure_of a) → IsOrdered (enclosure_of x) → LiesIn (enclosure_of a) (enclosure_of b) → LiesIn (enclosure_of x) (enclosure_of y) → (j : ℕ) → LiesIn (enclosure_of (grid_term power a x j)) (enclosure_of (grid_term power b y j))
unfolding grid_term next_grid_term
grid_term_mono power a b x y o p h k zero = h
grid_term_mono power a b x y o p h k (suc j) = grid_negated_mono _ _ (grid_divide_by_mono (divisor power j) _ _ (grid_product_mono (grid_term power a x j) x (grid_term power b y j) y (grid_term_ordered power a x o j) p (grid_term_mono power a b x y o p h k j) k))

pub term_holds : (power : ℕ) (a x : Enclosure) (b y : Ends) → IsOrdered a → IsOrdered x → LiesIn a (enclosure_of b) → LiesIn x (enclosure_of y) → (j : ℕ) → LiesIn (term power a x j) (enclosure_of (grid_term power b y j))
unfolding term next_term grid_term next_grid_term
term_holds power a x b y o p h k zero = h
term_holds power a x b y o p h k (suc j) = negated_holds _ _ (divide_by_holds (divisor power j) _ _ (product_holds (term power a x j) x (grid_term power b y j) y (term_ordered power a x o j) p (term_holds power a x b y o p h k j) k))

-- ---- sums
pub partial_sum_ordered : (terms : ℕ → Enclosure) → ((j : ℕ) → IsOrdered (terms j)) → (n : ℕ) → IsOrdered (partial_sum terms n)
unfolding partial_sum
partial_sum_ordered terms o zero = point_ordered (over (pos 0) 1)
partial_sum_ordered terms o (suc n) = sum_ordered _ _ (partial_sum_ordered terms o n) (o n)

pub partial_sum_mono : (s t : ℕ → Enclosure) → ((j : ℕ) → LiesIn (s j) (t j)) → (n : ℕ) → LiesIn (partial_sum s n) (partial_sum t n)
unfolding partial_sum
partial_sum_mono s t h zero = LiesIn_refl (point (over (pos 0) 1))
partial_sum_mono s t h (suc n) = sum_mono _ _ _ _ (partial_sum_mono s t h n) (h n)

pub grid_partial_sum_ordered : (terms : ℕ → Ends) → ((j : ℕ) → IsOrdered (enclosure_of (terms j))) → (n : ℕ) → IsOrdered (enclosure_of (grid_partial_sum terms n))
unfolding grid_partial_sum
grid_partial_sum_ordered terms o zero = ends_ordered (record { lo = pos 0; hi = pos 0 }) (omega (arith, ints))
grid_partial_sum_ordered terms o (suc n) = grid_sum_ordered _ _ (grid_partial_sum_ordered terms o n) (o n)

pub grid_partial_sum_mono : (s t : ℕ → Ends) → ((j : ℕ) → LiesIn (enclosure_of (s j)) (enclosure_of (t j))) → (n : ℕ) → LiesIn (enclosure_of (grid_partial_sum s n)) (enclosure_of (grid_partial_sum t n))
unfolding grid_partial_sum
grid_partial_sum_mono s t h zero = LiesIn_refl (enclosure_of (record { lo = pos 0; hi = pos 0 }))
grid_partial_sum_mono s t h (suc n) = grid_sum_mono _ _ _ _ (grid_partial_sum_mono s t h n) (h n)

zero_holds : LiesIn (point (over (pos 0) 1)) (enclosure_of (record { lo = pos 0; hi = pos 0 }))
unfolding point over enclosure_of
zero_holds = record { low = record { crossed = omega (arith, ints) }; high = record { crossed = omega (arith, ints) } }

one_holds : LiesIn (point (over (pos 1) 1)) (enclosure_of grid_one)
unfolding point over enclosure_of
one_holds = record { low = record { crossed = omega (arith, ints) }; high = record { crossed = omega (arith, ints) } }

pub partial_sum_holds : (s : ℕ → Enclosure) (t : ℕ → Ends) → ((j : ℕ) → LiesIn (s j) (enclosure_of (t j))) → (n : ℕ) → LiesIn (partial_sum s n) (enclosure_of (grid_partial_sum t n))
unfolding partial_sum grid_partial_sum
partial_sum_holds s t h zero = zero_holds
partial_sum_holds s t h (suc n) = sum_holds _ _ _ _ (partial_sum_holds s t h n) (h n)

-- ---- margins
two_positive : pos 0 ≤ℤ (over (pos 2) 1).top
unfolding over
two_positive = omega (arith, ints)

pub margin_mono : (a b : Enclosure) → LiesIn a b → LiesIn (margin a) (margin b)
unfolding margin
margin_mono a b h =
    let more = times_mono (magnitude a).hi (magnitude b).hi (over (pos 2) 1) (magnitude_mono a b h).high two_positive in
    record { low = negate_le _ _ more; high = more }

either_way : (m : Fraction) → over (pos 0) 1 ≤ᶠ m → negate (times m (over (pos 2) 1)) ≤ᶠ times m (over (pos 2) 1)
unfolding over negate times
either_way m h = record { crossed = core m.top (m.bottom * 1) (omega (arith, ints, h.crossed)) }
  where
    core : (z : ℤ) (k : ℕ) → pos 0 ≤ℤ z → (neg_ℤ (z *ℤ pos 2) *ℤ pos k) ≤ℤ ((z *ℤ pos 2) *ℤ pos k)
    core z k h =
        let turned : neg_ℤ (z *ℤ pos 2) *ℤ pos k ≡ neg_ℤ ((z *ℤ pos 2) *ℤ pos k) = same_in _ _ (simp parts (omega arith)) in
        let twice = times_not_negative (z *ℤ pos 2) k (times_not_negative z 2 h) in
        rw turned (omega (arith, ints, twice))

pub magnitude_not_negative : (a : Enclosure) → IsOrdered a → over (pos 0) 1 ≤ᶠ (magnitude a).hi
unfolding magnitude
magnitude_not_negative a o = ≤ᶠ_trans (over (pos 0) 1) (greatest (greatest a.lo (negate a.hi)) (over (pos 0) 1)) (greatest (negate a.lo) a.hi) (greatest_right (greatest a.lo (negate a.hi)) (over (pos 0) 1)) (magnitude_ordered a o).ordered

pub margin_ordered : (a : Enclosure) → IsOrdered a → IsOrdered (margin a)
unfolding margin
margin_ordered a o = record { ordered = either_way (magnitude a).hi (magnitude_not_negative a o) }

pub grid_margin_mono : (a b : Ends) → LiesIn (enclosure_of a) (enclosure_of b) → LiesIn (enclosure_of (grid_margin a)) (enclosure_of (grid_margin b))
unfolding grid_margin
grid_margin_mono a b h = rounded_out_mono _ _ (margin_mono (enclosure_of a) (enclosure_of b) h)

pub grid_margin_ordered : (a : Ends) → IsOrdered (enclosure_of a) → IsOrdered (enclosure_of (grid_margin a))
unfolding grid_margin
grid_margin_ordered a o = rounded_out_ordered _ (margin_ordered (enclosure_of a) o)

pub margin_holds : (x : Enclosure) (a : Ends) → LiesIn x (enclosure_of a) → LiesIn (margin x) (enclosure_of (grid_margin a))
unfolding grid_margin
margin_holds x a h = rounded_out_holds _ _ (margin_mono x (enclosure_of a) h)

-- ---- series
pub series_ordered : (terms : ℕ → Enclosure) → ((j : ℕ) → IsOrdered (terms j)) → (n : ℕ) → IsOrdered (series terms n)
unfolding series
series_ordered terms o n = sum_ordered _ _ (partial_sum_ordered terms o n) (margin_ordered (terms n) (o n))

pub series_mono : (s t : ℕ → Enclosure) → ((j : ℕ) → LiesIn (s j) (t j)) → (n : ℕ) → LiesIn (series s n) (series t n)
unfolding series
series_mono s t h n = sum_mono _ _ _ _ (partial_sum_mono s t h n) (margin_mono (s n) (t n) (h n))

pub grid_series_ordered : (terms : ℕ → Ends) → ((j : ℕ) → IsOrdered (enclosure_of (terms j))) → (n : ℕ) → IsOrdered (enclosure_of (grid_series terms n))
unfolding grid_series
grid_series_ordered terms o n = grid_sum_ordered _ _ (grid_partial_sum_ordered terms o n) (grid_margin_ordered (terms n) (o n))

pub grid_series_mono : (s t : ℕ → Ends) → ((j : ℕ) → LiesIn (enclosure_of (s j)) (enclosure_of (t j))) → (n : ℕ) → LiesIn (enclosure_of (grid_series s n)) (enclosure_of (grid_series t n))
unfolding grid_series
grid_series_mono s t h n = grid_sum_mono _ _ _ _ (grid_partial_sum_mono s t h n) (grid_margin_mono (s n) (t n) (h n))

pub series_holds : (s : ℕ → Enclosure) (t : ℕ → Ends) → ((j : ℕ) → LiesIn (s j) (enclosure_of (t j))) → (n : ℕ) → LiesIn (series s n) (enclosure_of (grid_series t n))
unfolding series grid_series
series_holds s t h n = sum_holds _ _ _ _ (partial_sum_holds s t h n) (margin_holds (s n) (t n) (h n))

-- ---- sine and cosine
pub sine_series_ordered : (n : ℕ) (x : Enclosure) → IsOrdered x → IsOrdered (sine_series n x)
unfolding sine_series
sine_series_ordered n x o = series_ordered _ (term_ordered 1 x (product x x) o) n

pub cosine_series_ordered : (n : ℕ) (x : Enclosure) → IsOrdered (cosine_series n x)
unfolding cosine_series
cosine_series_ordered n x = series_ordered _ (term_ordered 0 (point (over (pos 1) 1)) (product x x) (point_ordered (over (pos 1) 1))) n

pub sine_series_mono : (n : ℕ) (a b : Enclosure) → IsOrdered a → LiesIn a b → LiesIn (sine_series n a) (sine_series n b)
unfolding sine_series
sine_series_mono n a b o h = series_mono _ _ (term_mono 1 a b (product a a) (product b b) o (product_ordered a a) h (product_mono a a b b o o h h)) n

pub cosine_series_mono : (n : ℕ) (a b : Enclosure) → IsOrdered a → LiesIn a b → LiesIn (cosine_series n a) (cosine_series n b)
unfolding cosine_series
cosine_series_mono n a b o h = series_mono _ _ (term_mono 0 (point (over (pos 1) 1)) (point (over (pos 1) 1)) (product a a) (product b b) (point_ordered (over (pos 1) 1)) (product_ordered a a) (LiesIn_refl (point (over (pos 1) 1))) (product_mono a a b b o o h h)) n

grid_one_ordered : IsOrdered (enclosure_of grid_one)
grid_one_ordered = ends_ordered grid_one (omega (arith, ints))

pub grid_sine_series_ordered : (x : Ends) → IsOrdered (enclosure_of x) → IsOrdered (enclosure_of (grid_sine_series x))
unfolding grid_sine_series
grid_sine_series_ordered x o = grid_series_ordered _ (grid_term_ordered 1 x (grid_product x x) o) DEPTH

pub grid_cosine_series_ordered : (x : Ends) → IsOrdered (enclosure_of (grid_cosine_series x))
unfolding grid_cosine_series
grid_cosine_series_ordered x = grid_series_ordered _ (grid_term_ordered 0 grid_one (grid_product x x) grid_one_ordered) DEPTH

pub grid_sine_series_mono : (a b : Ends) → IsOrdered (enclosure_of a) → LiesIn (enclosure_of a) (enclosure_of b) → LiesIn (enclosure_of (grid_sine_series a)) (enclosure_of (grid_sine_series b))
unfolding grid_sine_series
grid_sine_series_mono a b o h = grid_series_mono _ _ (grid_term_mono 1 a b (grid_product a a) (grid_product b b) o (grid_product_ordered a a) h (grid_product_mono a a b b o o h h)) DEPTH

pub grid_cosine_series_mono : (a b : Ends) → IsOrdered (enclosure_of a) → LiesIn (enclosure_of a) (enclosure_of b) → LiesIn (enclosure_of (grid_cosine_series a)) (enclosure_of (grid_cosine_series b))
unfolding grid_cosine_series
grid_cosine_series_mono a b o h = grid_series_mono _ _ (grid_term_mono 0 grid_one grid_one (grid_product a a) (grid_product b b) grid_one_ordered (grid_product_ordered a a) (LiesIn_refl (enclosure_of grid_one)) (grid_product_mono a a b b o o h h)) DEPTH

pub sine_series_holds : (x : Enclosure) (a : Ends) → IsOrdered x → LiesIn x (enclosure_of a) → LiesIn (sine_series DEPTH x) (enclosure_of (grid_sine_series a))
unfolding sine_series grid_sine_series
sine_series_holds x a o h = series_holds _ _ (term_holds 1 x (product x x) a (grid_product a a) o (product_ordered x x) h (product_holds x x a a o o h h)) DEPTH

pub cosine_series_holds : (x : Enclosure) (a : Ends) → IsOrdered x → LiesIn x (enclosure_of a) → LiesIn (cosine_series DEPTH x) (enclosure_of (grid_cosine_series a))
unfolding cosine_series grid_cosine_series
cosine_series_holds x a o h = series_holds _ _ (term_holds 0 (point (over (pos 1) 1)) (product x x) grid_one (grid_product a a) (point_ordered (over (pos 1) 1)) (product_ordered x x) one_holds (product_holds x x a a o o h h)) DEPTH

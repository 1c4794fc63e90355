-- A series at a greater depth lies in the one at a lesser, where each term is at most half the one before.
use Rattle.std.proofs.Common.{◌≡◌, ℕ, suc, ◌+◌, ◌*◌, ◌≤◌, max, pos, ◌≤ℤ◌, arith, mul-le-mul, mul-le-mul_right}
use Rattle.std.proofs.lemmas.Int.{ints}
use borrow.Author.Differences.{up, down}
use Rattle.fixed_interval.specs.Fraction.{Fraction, ◌≤ᶠ◌, over, negate, plus, times}
use Rattle.fixed_interval.specs.Enclosure.{Enclosure, IsOrdered, LiesIn, point, negated, sum, product, divide_by, magnitude}
use Rattle.fixed_interval.proofs.Whole.{parts, one_part}
use Rattle.fixed_interval.proofs.FractionLaws.{le_from, ≤ᶠ_refl, ≤ᶠ_trans, negate_le, plus_mono, times_mono, least_above, greatest_below, greatest_left, greatest_right}
use Rattle.fixed_interval.proofs.EnclosureLaws.{LiesIn_trans, point_ordered, negated_mono, product_mono, product_ordered, divide_by_mono}
use Rattle.trig_series.specs.Series.{divisor, next_term, term, partial_sum, margin, series, sine_series, cosine_series}
use Rattle.trig_series.proofs.FractionSums.{plus_assoc_left, plus_assoc_right, plus_self, minus_self}
use Rattle.trig_series.proofs.SeriesLaws.{magnitude_not_negative, term_ordered}

-- ---- numbers within s of zero
unfoldable pub ball : Fraction → Enclosure
ball s = record { lo = negate s; hi = s }

pub negate_twice_below : (x : Fraction) → negate (negate x) ≤ᶠ x
unfolding negate
negate_twice_below x = le_from _ x (simp parts (omega arith))

pub in_ball_of_magnitude : (a : Enclosure) → LiesIn a (ball (magnitude a).hi)
unfolding ball magnitude
in_ball_of_magnitude a = record {
  low = ≤ᶠ_trans _ _ _ (negate_le _ _ (greatest_left (negate a.lo) a.hi)) (negate_twice_below a.lo);
  high = greatest_right _ _;
}

pub magnitude_in_ball : (a : Enclosure) (s : Fraction) → LiesIn a (ball s) → (magnitude a).hi ≤ᶠ s
unfolding ball magnitude
magnitude_in_ball a s h = greatest_below _ _ _ (≤ᶠ_trans _ _ _ (negate_le _ _ h.low) (negate_twice_below s)) h.high

not_negative : (s : Fraction) → over (pos 0) 1 ≤ᶠ s → down s.top ≡ 0
unfolding over
not_negative s h = omega (arith, ints, h.crossed, one_part s.top)

-- the corners of a product of two balls
module _ (s q : Fraction) (h : over (pos 0) 1 ≤ᶠ s) (k : over (pos 0) 1 ≤ᶠ q) where
  both_above : negate (times s q) ≤ᶠ times (negate s) (negate q)
  unfolding negate times
  both_above = let z : down s.top ≡ 0 = not_negative s h in let w : down q.top ≡ 0 = not_negative q k in le_from _ _ (simp (parts, z, w) (omega arith))

  first_above : negate (times s q) ≤ᶠ times (negate s) q
  unfolding negate times
  first_above = le_from _ _ (simp parts (omega arith))

  second_above : negate (times s q) ≤ᶠ times s (negate q)
  unfolding negate times
  second_above = le_from _ _ (simp parts (omega arith))

  none_above : negate (times s q) ≤ᶠ times s q
  unfolding negate times
  none_above = let z : down s.top ≡ 0 = not_negative s h in let w : down q.top ≡ 0 = not_negative q k in le_from _ _ (simp (parts, z, w) (omega arith))

  both_below : times (negate s) (negate q) ≤ᶠ times s q
  unfolding negate times
  both_below = le_from _ _ (simp parts (omega arith))

  first_below : times (negate s) q ≤ᶠ times s q
  unfolding negate times
  first_below = let z : down s.top ≡ 0 = not_negative s h in let w : down q.top ≡ 0 = not_negative q k in le_from _ _ (simp (parts, z, w) (omega arith))

  second_below : times s (negate q) ≤ᶠ times s q
  unfolding negate times
  second_below = let z : down s.top ≡ 0 = not_negative s h in let w : down q.top ≡ 0 = not_negative q k in le_from _ _ (simp (parts, z, w) (omega arith))

  pub product-ball : LiesIn (product (ball s) (ball q)) (ball (times s q))
  unfolding product ball
  product-ball = record {
    low = least_above _ _ _ (least_above _ _ _ both_above first_above) (least_above _ _ _ second_above none_above);
    high = greatest_below _ _ _ (greatest_below _ _ _ both_below first_below) (greatest_below _ _ _ second_below (≤ᶠ_refl (times s q)));
  }

divide_by-ball : (s : Fraction) (n : ℕ) → LiesIn (divide_by (ball s) n) (ball (times s (over (pos 1) n)))
unfolding divide_by ball negate times
divide_by-ball s n = record { low = le_from _ _ (simp parts (omega arith)); high = ≤ᶠ_refl _ }

negated-ball : (s : Fraction) → LiesIn (negated (ball s)) (ball s)
unfolding negated ball
negated-ball s = record { low = ≤ᶠ_refl (negate s); high = negate_twice_below s }

-- ---- a term is at most half the one before, where the square of x is at most 16/25
abbrev pub square_limit : Fraction
square_limit = over (pos 16) 25

limit_not_negative : over (pos 0) 1 ≤ᶠ square_limit
unfolding over
limit_not_negative = record { crossed = omega (arith, ints) }

part_is_half : (s : Fraction) (d : ℕ) → 2 ≤ d → over (pos 0) 1 ≤ᶠ s → times (times (times s square_limit) (over (pos 1) d)) (over (pos 2) 1) ≤ᶠ s
unfolding times over
part_is_half s d g h =
    let z : down s.top ≡ 0 = not_negative s h in
    let m : max d 1 ≡ d = omega arith in
    let enough : 32 ≤ 25 * d = omega arith in
    let k = mul-le-mul_right (up s.top * s.bottom) enough in
    le_from _ s (simp (parts, z, m) (omega arith))

divisor_from_2 : (power j : ℕ) → 2 ≤ divisor power j
divisor_from_2 power j = let first : 1 ≤ 2 * j + power + 1 = omega arith in let second : 2 ≤ 2 * j + power + 2 = omega arith in mul-le-mul first second

next_in_ball : (t square : Enclosure) (d : ℕ) → IsOrdered t → IsOrdered square → LiesIn square (ball square_limit) → LiesIn (next_term t square d) (ball (times (times (magnitude t).hi square_limit) (over (pos 1) d)))
unfolding next_term
next_in_ball t square d o p h =
    let s = (magnitude t).hi in
    let positive = magnitude_not_negative t o in
    let products = LiesIn_trans _ _ _ (product_mono t square (ball s) (ball square_limit) o p (in_ball_of_magnitude t) h) (product-ball s square_limit positive limit_not_negative) in
    let quotients = LiesIn_trans _ _ _ (divide_by_mono d _ _ products) (divide_by-ball (times s square_limit) d) in
    LiesIn_trans _ _ _ (negated_mono _ _ quotients) (negated-ball (times (times s square_limit) (over (pos 1) d)))

two_not_negative : pos 0 ≤ℤ (over (pos 2) 1).top
unfolding over
two_not_negative = omega (arith, ints)

pub term_halves : (power : ℕ) (first square : Enclosure) → IsOrdered first → IsOrdered square → LiesIn square (ball square_limit) → (j : ℕ) → times (magnitude (term power first square (suc j))).hi (over (pos 2) 1) ≤ᶠ (magnitude (term power first square j)).hi
unfolding term
term_halves power first square o p h j =
    let t = term power first square j in
    let d = divisor power j in
    let ordered = term_ordered power first square o j in
    let small = magnitude_in_ball (next_term t square d) _ (next_in_ball t square d ordered p h) in
    ≤ᶠ_trans _ _ _ (times_mono _ _ (over (pos 2) 1) small two_not_negative) (part_is_half (magnitude t).hi d (divisor_from_2 power j) (magnitude_not_negative t ordered))

-- ---- series
ends_in_ball : (t : Enclosure) → (negate (magnitude t).hi ≤ᶠ t.lo) × (t.hi ≤ᶠ (magnitude t).hi)
unfolding ball
ends_in_ball t = let h = in_ball_of_magnitude t in (h.low, h.high)

pub series_nests : (terms : ℕ → Enclosure) (n : ℕ) → times (magnitude (terms (suc n))).hi (over (pos 2) 1) ≤ᶠ (magnitude (terms n)).hi → LiesIn (series terms (suc n)) (series terms n)
unfolding series partial_sum sum margin
series_nests terms n h =
    let p = partial_sum terms n in
    let t = terms n in
    let s = (magnitude t).hi in
    let more = times (magnitude (terms (suc n))).hi (over (pos 2) 1) in
    let within = ends_in_ball t in
    record {
      low = ≤ᶠ_trans _ _ _
          (plus_mono p.lo p.lo (negate (times s (over (pos 2) 1))) (plus t.lo (negate more)) (≤ᶠ_refl p.lo) (≤ᶠ_trans _ _ _ (minus_self s) (plus_mono (negate s) t.lo (negate s) (negate more) within.0 (negate_le more s h))))
          (plus_assoc_left p.lo t.lo (negate more));
      high = ≤ᶠ_trans _ _ _
          (plus_assoc_right p.hi t.hi more)
          (plus_mono p.hi p.hi (plus t.hi more) (times s (over (pos 2) 1)) (≤ᶠ_refl p.hi) (≤ᶠ_trans _ _ _ (plus_mono t.hi s more s within.1 h) (plus_self s)));
    }

pub sine_series_nests : (n : ℕ) (x : Enclosure) → IsOrdered x → LiesIn (product x x) (ball square_limit) → LiesIn (sine_series (suc n) x) (sine_series n x)
unfolding sine_series
sine_series_nests n x o h = series_nests _ n (term_halves 1 x (product x x) o (product_ordered x x) h n)

pub cosine_series_nests : (n : ℕ) (x : Enclosure) → LiesIn (product x x) (ball square_limit) → LiesIn (cosine_series (suc n) x) (cosine_series n x)
unfolding cosine_series
cosine_series_nests n x h = series_nests _ n (term_halves 0 (point (over (pos 1) 1)) (product x x) (point_ordered (over (pos 1) 1)) (product_ordered x x) h n)

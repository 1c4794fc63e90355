-- How wide sine and cosine are on the grid: over u angle units, less than a quarter turn, at most 11,569 u + 62 steps.
use Rattle.std.proofs.Common.{◌≡◌, ℕ, zero, suc, ◌+◌, ◌-◌, ◌*◌, ◌%◌, ◌^◌, ◌<◌, ◌≤◌, max, ℤ, pos, negsuc, neg_ℤ, ◌+ℤ◌, ◌-ℤ◌, ◌*ℤ◌, ◌≤ℤ◌, unsigned_abs, arith, ap, ap₂, sym, subst, ◌∙◌, lit≤, refl, le_of_mul-le-mul_right, ◌⊎◌, inl, inr}
use Rattle.std.specs.Int.{int_gap, int_min, int_max}
use Rattle.std.proofs.lemmas.Int.{ints, clamps}
use Rattle.fixed_interval.specs.Fraction.{over, negate, plus, times, least, greatest, floor_at, ceil_at}
use Rattle.fixed_interval.specs.Enclosure.{IsOrdered, LiesIn, point, negated, sum, product, divide_by, times_ratio, magnitude}
use Rattle.fixed_interval.specs.Bound.{IsBounded, hull_bound}
use Rattle.fixed_interval.specs.Grid.{Ends, Range, UNIT, reach, enclosure_of, enclosure_of_range, rounded_out, grid_negated, grid_sum, grid_product, grid_divide_by, grid_times_ratio, grid_hull}
use Rattle.fixed_interval.proofs.Inclusion.{ends_lie, lower_end, upper_end, range_ordered, ranges_lie}
use Rattle.fixed_interval.proofs.Widths.{grid_hull_bounded, more_bounded}
use Rattle.trig_series.specs.Laws.{sine_limit, sine_bound}
use Rattle.trig_series.specs.Pi.{pi, grid_pi, machin, arctan_term, arctan_below, arctan_above}
use Rattle.trig_series.specs.Quarters.{eighth_turn, quarter_turn, half_turn, first_quarter, last_quarter, grid_piece, grid_hull_from, grid_over_quarters}
use Rattle.trig_series.specs.Series.{margin, next_grid_term, grid_term, grid_partial_sum, grid_margin, grid_series, grid_sine_series, grid_cosine_series}
use Rattle.trig_series.specs.Sine.{modulo_4, grid_quarters_on, grid_sine_beyond, grid_sine, grid_cosine}
use Rattle.trig_series.proofs.GridQuarters.{grid_over_quarters_below}
use Rattle.trig_series.proofs.QuarterLaws.{begins_in_time, ends_in_time, first_before_last, int_gap-is}
use Rattle.trig_series.proofs.PieceWidths.{IsSmall, sine_beyond_narrow, reach-grid_sine_beyond}
use Rattle.trig_series.proofs.SineLaws.{grid_sine_beyond_mono, grid_sine_ordered, grid_cosine_ordered}

-- ---- the seam: both sides give the same enclosure of the point that they share
abbrev seam_above : Range
seam_above = record { lo = pos eighth_turn; hi = pos eighth_turn }

abbrev seam_below : Range
seam_below = record { lo = neg_ℤ (pos eighth_turn); hi = neg_ℤ (pos eighth_turn) }

abbrev at_seam : Ends
at_seam = record { lo = pos 50952413380206172; hi = pos 50952413380206189 }

abbrev minus_at_seam : Ends
minus_at_seam = record { lo = negsuc 50952413380206188; hi = negsuc 50952413380206171 }

sine_above : grid_sine_series (grid_times_ratio grid_pi seam_above half_turn) ≡ at_seam
unfolding grid_pi pi machin arctan_term arctan_below arctan_above over plus negate times rounded_out floor_at ceil_at least greatest point negated sum product divide_by magnitude times_ratio enclosure_of enclosure_of_range grid_negated grid_sum grid_product grid_divide_by grid_times_ratio next_grid_term grid_term grid_partial_sum margin grid_margin grid_series grid_sine_series
sine_above = refl

cosine_above : grid_cosine_series (grid_times_ratio grid_pi seam_above half_turn) ≡ at_seam
unfolding grid_pi pi machin arctan_term arctan_below arctan_above over plus negate times rounded_out floor_at ceil_at least greatest point negated sum product divide_by magnitude times_ratio enclosure_of enclosure_of_range grid_negated grid_sum grid_product grid_divide_by grid_times_ratio next_grid_term grid_term grid_partial_sum margin grid_margin grid_series grid_cosine_series
cosine_above = refl

sine_below : grid_sine_series (grid_times_ratio grid_pi seam_below half_turn) ≡ minus_at_seam
unfolding grid_pi pi machin arctan_term arctan_below arctan_above over plus negate times rounded_out floor_at ceil_at least greatest point negated sum product divide_by magnitude times_ratio enclosure_of enclosure_of_range grid_negated grid_sum grid_product grid_divide_by grid_times_ratio next_grid_term grid_term grid_partial_sum margin grid_margin grid_series grid_sine_series
sine_below = refl

cosine_below : grid_cosine_series (grid_times_ratio grid_pi seam_below half_turn) ≡ at_seam
unfolding grid_pi pi machin arctan_term arctan_below arctan_above over plus negate times rounded_out floor_at ceil_at least greatest point negated sum product divide_by magnitude times_ratio enclosure_of enclosure_of_range grid_negated grid_sum grid_product grid_divide_by grid_times_ratio next_grid_term grid_term grid_partial_sum margin grid_margin grid_series grid_cosine_series
cosine_below = refl

next_modulo_4 : (c : ℤ) → modulo_4 (c +ℤ pos 1) ≡ (modulo_4 c + 1) % 4
next_modulo_4 (pos a) = omega arith
next_modulo_4 (negsuc zero) = refl
next_modulo_4 (negsuc (suc a)) = ap modulo_4 before ∙ core
  where
    before : negsuc (suc a) +ℤ pos 1 ≡ negsuc a
    before = omega (arith, ints)

    core : 4 - 1 - a % 4 ≡ ((4 - 1 - suc a % 4) + 1) % 4
    core = omega arith

modulo_4_below : (c : ℤ) → modulo_4 c < 4
modulo_4_below (pos a) = omega arith
modulo_4_below (negsuc a) = omega arith

turned_at_seam : (m n : ℕ) → m < 4 → n ≡ (m + 1) % 4 → grid_quarters_on m at_seam at_seam ≡ grid_quarters_on n minus_at_seam at_seam
unfolding grid_quarters_on grid_negated negated enclosure_of rounded_out over negate floor_at ceil_at
turned_at_seam zero n h e = let is : n ≡ 1 = omega arith in subst (λ (k : ℕ). grid_quarters_on 0 at_seam at_seam ≡ grid_quarters_on k minus_at_seam at_seam) (sym is) refl
turned_at_seam (suc zero) n h e = let is : n ≡ 2 = omega arith in subst (λ (k : ℕ). grid_quarters_on 1 at_seam at_seam ≡ grid_quarters_on k minus_at_seam at_seam) (sym is) refl
turned_at_seam (suc (suc zero)) n h e = let is : n ≡ 3 = omega arith in subst (λ (k : ℕ). grid_quarters_on 2 at_seam at_seam ≡ grid_quarters_on k minus_at_seam at_seam) (sym is) refl
turned_at_seam (suc (suc (suc zero))) n h e = let is : n ≡ 0 = omega arith in subst (λ (k : ℕ). grid_quarters_on 3 at_seam at_seam ≡ grid_quarters_on k minus_at_seam at_seam) (sym is) refl
turned_at_seam (suc (suc (suc (suc m)))) n h e = absurd (omega arith)

pub same_at_seam : (c : ℤ) → grid_sine_beyond c seam_above ≡ grid_sine_beyond (c +ℤ pos 1) seam_below
unfolding grid_sine_beyond
same_at_seam c = ap₂ (grid_quarters_on (modulo_4 c)) sine_above cosine_above ∙ turned_at_seam (modulo_4 c) (modulo_4 (c +ℤ pos 1)) (modulo_4_below c) (next_modulo_4 c) ∙ sym (ap₂ (grid_quarters_on (modulo_4 (c +ℤ pos 1))) sine_below cosine_below)

-- ---- a range
-- the range lies in one quarter, or passes from one to the next
one_or_two_quarters : (r : Range) (u : ℕ) → u < quarter_turn → r.lo ≤ℤ r.hi → r.hi ≤ℤ (r.lo +ℤ pos u) → (int_gap (first_quarter (over r.lo 1)) (last_quarter (over r.hi 1)) ≡ 0) ⊎ (int_gap (first_quarter (over r.lo 1)) (last_quarter (over r.hi 1)) ≡ 1)
one_or_two_quarters r u s o h = core (int_gap (first_quarter (over r.lo 1)) (last_quarter (over r.hi 1))) (int_gap-is (first_quarter (over r.lo 1)) (last_quarter (over r.hi 1)) order)
  where
    first : ℤ
    first = first_quarter (over r.lo 1)

    last : ℤ
    last = last_quarter (over r.hi 1)

    order : first_quarter (over r.lo 1) ≤ℤ last_quarter (over r.hi 1)
    order = first_before_last r.lo r.hi o

    begins : (pos quarter_turn *ℤ last_quarter (over r.hi 1)) ≤ℤ (r.hi +ℤ pos eighth_turn)
    begins = begins_in_time r.hi (last_quarter (over r.hi 1)) (omega (arith, ints))

    ends : (r.lo -ℤ pos eighth_turn) ≤ℤ (pos quarter_turn *ℤ first_quarter (over r.lo 1))
    ends = ends_in_time r.lo (first_quarter (over r.lo 1)) (omega (arith, ints))

    core : (n : ℕ) → first_quarter (over r.lo 1) +ℤ pos n ≡ last_quarter (over r.hi 1) → (n ≡ 0) ⊎ (n ≡ 1)
    core zero e = inl refl
    core (suc zero) e = inr refl
    core (suc (suc n)) e = absurd (omega (arith, ints, begins, ends, h, s, e))

-- the piece in a quarter that the range meets is small
piece_small : (r : Range) (c : ℤ) (u : ℕ) → r.lo ≤ℤ r.hi → r.hi ≤ℤ (r.lo +ℤ pos u) → first_quarter (over r.lo 1) ≤ℤ c → c ≤ℤ last_quarter (over r.hi 1) → IsSmall u (grid_piece r c)
unfolding grid_piece
piece_small r c u o h k l = core (r.lo -ℤ (pos quarter_turn *ℤ c)) (r.hi -ℤ (pos quarter_turn *ℤ c)) (omega (arith, ints, ends_in_time r.lo c k)) (omega (arith, ints, begins_in_time r.hi c l)) (omega (arith, ints, o)) (omega (arith, ints, h))
  where
    core : (x y : ℤ) → x ≤ℤ pos eighth_turn → neg_ℤ (pos eighth_turn) ≤ℤ y → x ≤ℤ y → y ≤ℤ (x +ℤ pos u) → IsSmall u (record { lo = int_max x (neg_ℤ (pos eighth_turn)); hi = int_min y (pos eighth_turn) })
    core x y p q o w = record { from = omega (arith, ints, clamps); ordered = omega (arith, ints, clamps); to = omega (arith, ints, clamps); width = omega (arith, ints, clamps) }

-- two pieces that meet at a seam are together no wider than the range
record AreSides (r : Range) (c : ℤ) (u : ℕ) : Type 0 where
  left : ℕ
  right : ℕ
  together : left + right ≤ u
  left_small : IsSmall left (grid_piece r c)
  right_small : IsSmall right (grid_piece r (c +ℤ pos 1))
  left_end : (grid_piece r c).hi ≡ pos eighth_turn
  right_start : (grid_piece r (c +ℤ pos 1)).lo ≡ neg_ℤ (pos eighth_turn)

-- from x on the left of a seam to w on its right
module _ (u : ℕ) (x y z w : ℤ) (s : u < quarter_turn) (e : z +ℤ pos quarter_turn ≡ x) (f : w +ℤ pos quarter_turn ≡ y) (p : x ≤ℤ pos eighth_turn) (q : neg_ℤ (pos eighth_turn) ≤ℤ w) (v : y ≤ℤ (x +ℤ pos u)) where
  left_width : ℕ
  left_width = int_gap x (pos eighth_turn)

  right_width : ℕ
  right_width = int_gap (neg_ℤ (pos eighth_turn)) w

  left_is : x +ℤ pos left_width ≡ pos eighth_turn
  unfolding left_width
  left_is = int_gap-is x (pos eighth_turn) p

  right_is : neg_ℤ (pos eighth_turn) +ℤ pos right_width ≡ w
  unfolding right_width
  right_is = int_gap-is (neg_ℤ (pos eighth_turn)) w q

  widths_together : left_width + right_width ≤ u
  widths_together = omega (arith, ints, left_is, right_is)

  left_hi : int_min y (pos eighth_turn) ≡ pos eighth_turn
  left_hi = omega (arith, ints, clamps)

  right_lo : int_max z (neg_ℤ (pos eighth_turn)) ≡ neg_ℤ (pos eighth_turn)
  right_lo = omega (arith, ints, clamps)

  left_range : IsSmall left_width (record { lo = int_max x (neg_ℤ (pos eighth_turn)); hi = int_min y (pos eighth_turn) })
  left_range = record { from = omega (arith, ints, clamps); ordered = omega (arith, ints, clamps); to = omega (arith, ints, clamps); width = omega (arith, ints, clamps, left_is) }

  right_range : IsSmall right_width (record { lo = int_max z (neg_ℤ (pos eighth_turn)); hi = int_min w (pos eighth_turn) })
  right_range = record { from = omega (arith, ints, clamps); ordered = omega (arith, ints, clamps); to = omega (arith, ints, clamps); width = omega (arith, ints, clamps, right_is, right_lo) }

sides : (r : Range) (c : ℤ) (u : ℕ) → u < quarter_turn → r.hi ≤ℤ (r.lo +ℤ pos u) → (r.lo -ℤ pos eighth_turn) ≤ℤ (pos quarter_turn *ℤ c) → (pos quarter_turn *ℤ (c +ℤ pos 1)) ≤ℤ (r.hi +ℤ pos eighth_turn) → AreSides r c u
unfolding grid_piece left_width right_width
sides r c u s h k l =
    let x = r.lo -ℤ (pos quarter_turn *ℤ c) in
    let y = r.hi -ℤ (pos quarter_turn *ℤ c) in
    let z = r.lo -ℤ (pos quarter_turn *ℤ (c +ℤ pos 1)) in
    let w = r.hi -ℤ (pos quarter_turn *ℤ (c +ℤ pos 1)) in
    let e : (r.lo -ℤ (pos quarter_turn *ℤ (c +ℤ pos 1))) +ℤ pos quarter_turn ≡ r.lo -ℤ (pos quarter_turn *ℤ c) = omega (arith, ints) in
    let f : (r.hi -ℤ (pos quarter_turn *ℤ (c +ℤ pos 1))) +ℤ pos quarter_turn ≡ r.hi -ℤ (pos quarter_turn *ℤ c) = omega (arith, ints) in
    let p : (r.lo -ℤ (pos quarter_turn *ℤ c)) ≤ℤ pos eighth_turn = omega (arith, ints, k) in
    let q : neg_ℤ (pos eighth_turn) ≤ℤ (r.hi -ℤ (pos quarter_turn *ℤ (c +ℤ pos 1))) = omega (arith, ints, l) in
    let v : (r.hi -ℤ (pos quarter_turn *ℤ c)) ≤ℤ ((r.lo -ℤ (pos quarter_turn *ℤ c)) +ℤ pos u) = omega (arith, ints, h) in
    record {
      left = left_width u x y z w s e f p q v;
      right = right_width u x y z w s e f p q v;
      together = widths_together u x y z w s e f p q v;
      left_small = left_range u x y z w s e f p q v;
      right_small = right_range u x y z w s e f p q v;
      left_end = left_hi u x y z w s e f p q v;
      right_start = right_lo u x y z w s e f p q v;
    }

one_width : (u w : ℕ) → w * UNIT ≤ (11_569 * UNIT) * u + 31 * UNIT → w ≤ 11_569 * u + 62
one_width u w h = le_of_mul-le-mul_right {k = UNIT} (omega arith) (lit≤ tt)

two_widths : (u v t w x : ℕ) → u + v ≤ t → w * UNIT ≤ (11_569 * UNIT) * u + 31 * UNIT → x * UNIT ≤ (11_569 * UNIT) * v + 31 * UNIT → w + x + 0 ≤ 11_569 * t + 62
two_widths u v t w x s h k = le_of_mul-le-mul_right {k = UNIT} (omega arith) (lit≤ tt)

abbrev pub IsSineBounded : ℕ → Ends → Type 0
IsSineBounded u e = IsBounded e (sine_bound u)

same_order : (z : ℤ) → z ≤ℤ z
same_order z = omega (arith, ints)

passes : (w x y z : ℤ) → w ≤ℤ x → x ≤ℤ y → y ≤ℤ z → w ≤ℤ (z +ℤ pos 0)
passes w x y z h k l = omega (arith, ints)

next_meets : (r : Range) → r.lo ≤ℤ r.hi → int_gap (first_quarter (over r.lo 1)) (last_quarter (over r.hi 1)) ≡ 1 → (first_quarter (over r.lo 1) +ℤ pos 1) ≤ℤ last_quarter (over r.hi 1)
next_meets r o e = core (first_quarter (over r.lo 1)) (last_quarter (over r.hi 1)) (int_gap (first_quarter (over r.lo 1)) (last_quarter (over r.hi 1))) (int_gap-is (first_quarter (over r.lo 1)) (last_quarter (over r.hi 1)) (first_before_last r.lo r.hi o)) e
  where
    core : (x y : ℤ) (n : ℕ) → x +ℤ pos n ≡ y → n ≡ 1 → (x +ℤ pos 1) ≤ℤ y
    core x y n h e = omega (arith, ints)

left_holds : (c : ℤ) (p : Range) → p.lo ≤ℤ p.hi → p.hi ≡ pos eighth_turn → LiesIn (enclosure_of (grid_sine_beyond c seam_above)) (enclosure_of (grid_sine_beyond c p))
left_holds c p o e = grid_sine_beyond_mono c seam_above p (range_ordered seam_above (omega (arith, ints))) (ranges_lie seam_above p (omega (arith, ints)) (omega (arith, ints)))

right_holds : (c : ℤ) (p : Range) → p.lo ≤ℤ p.hi → p.lo ≡ neg_ℤ (pos eighth_turn) → LiesIn (enclosure_of (grid_sine_beyond c seam_below)) (enclosure_of (grid_sine_beyond c p))
right_holds c p o e = grid_sine_beyond_mono c seam_below p (range_ordered seam_below (omega (arith, ints))) (ranges_lie seam_below p (omega (arith, ints)) (omega (arith, ints)))

seam_ordered : (c : ℤ) → (grid_sine_beyond c seam_above).lo ≤ℤ (grid_sine_beyond c seam_above).hi
seam_ordered c = let small : IsSmall 0 seam_above = record { from = omega (arith, ints); ordered = omega (arith, ints); to = omega (arith, ints); width = omega (arith, ints) } in (sine_beyond_narrow 0 c seam_above small).bounded.ordered

-- q counts the quarters of what is turned: c for the sine, c + 1 for the cosine
module _ (q : ℤ → ℤ) (next : (c : ℤ) → q (c +ℤ pos 1) ≡ q c +ℤ pos 1) (r : Range) (u : ℕ) (s : u < quarter_turn) (o : r.lo ≤ℤ r.hi) (h : r.hi ≤ℤ (r.lo +ℤ pos u)) where
  part : ℤ → Ends
  part c = grid_sine_beyond (q c) (grid_piece r c)

  hull_narrow : (c : ℤ) → AreSides r c u → IsSineBounded u (grid_hull (part c) (part (c +ℤ pos 1)))
  unfolding part hull_bound
  hull_narrow c d =
      let left = sine_beyond_narrow d.left (q c) (grid_piece r c) d.left_small in
      let right = sine_beyond_narrow d.right (q (c +ℤ pos 1)) (grid_piece r (c +ℤ pos 1)) d.right_small in
      let seam = grid_sine_beyond (q c) seam_above in
      let from = left_holds (q c) (grid_piece r c) d.left_small.ordered d.left_end in
      let to = right_holds (q (c +ℤ pos 1)) (grid_piece r (c +ℤ pos 1)) d.right_small.ordered d.right_start in
      let same : grid_sine_beyond (q (c +ℤ pos 1)) seam_below ≡ grid_sine_beyond (q c) seam_above = sym (same_at_seam (q c) ∙ ap (λ (z : ℤ). grid_sine_beyond z seam_below) (sym (next c))) in
      let beyond = subst (λ (e : Ends). LiesIn (enclosure_of e) (enclosure_of (part (c +ℤ pos 1)))) same to in
      let order = seam_ordered (q c) in
      let hull = grid_hull_bounded (part c) (part (c +ℤ pos 1)) _ _ left.bounded right.bounded 0
      (passes (part c).lo seam.lo seam.hi (part (c +ℤ pos 1)).hi (lower_end seam (part c) from) order (upper_end seam (part (c +ℤ pos 1)) beyond))
      (passes (part (c +ℤ pos 1)).lo seam.lo seam.hi (part c).hi (lower_end seam (part (c +ℤ pos 1)) beyond) order (upper_end seam (part c) from)) in
      more_bounded (grid_hull (part c) (part (c +ℤ pos 1))).lo (grid_hull (part c) (part (c +ℤ pos 1))).hi _ (sine_bound u) hull (lit≤ tt) (two_widths d.left d.right u left.width right.width d.together left.linear right.linear)

  one_narrow_part : IsSineBounded u (part (first_quarter (over r.lo 1)))
  unfolding part
  one_narrow_part =
      let c = first_quarter (over r.lo 1) in
      let narrow = sine_beyond_narrow u (q c) (grid_piece r c) (piece_small r c u o h (same_order c) (first_before_last r.lo r.hi o)) in
      more_bounded (grid_sine_beyond (q c) (grid_piece r c)).lo (grid_sine_beyond (q c) (grid_piece r c)).hi _ (sine_bound u) narrow.bounded (lit≤ tt) (one_width u narrow.width narrow.linear)

  over_quarters_narrow : IsSineBounded u (grid_over_quarters part r)
  unfolding grid_over_quarters grid_hull_from
  over_quarters_narrow = elim (one_or_two_quarters r u s o h) [
    | inl e ↦ subst (λ (n : ℕ). IsSineBounded u (grid_hull_from part (first_quarter (over r.lo 1)) n)) (sym e) one_narrow_part
    | inr e ↦ subst (λ (n : ℕ). IsSineBounded u (grid_hull_from part (first_quarter (over r.lo 1)) n)) (sym e) (hull_narrow (first_quarter (over r.lo 1)) (sides r (first_quarter (over r.lo 1)) u s h (ends_in_time r.lo (first_quarter (over r.lo 1)) (same_order (first_quarter (over r.lo 1)))) (begins_in_time r.hi (first_quarter (over r.lo 1) +ℤ pos 1) (next_meets r o e))))
  ]

pub grid_sine_narrow : (r : Range) (u : ℕ) → u < quarter_turn → r.lo ≤ℤ r.hi → r.hi ≤ℤ (r.lo +ℤ pos u) → IsSineBounded u (grid_sine r)
unfolding grid_sine part
grid_sine_narrow r u s o h = over_quarters_narrow (λ c. c) (λ c. refl) r u s o h

pub grid_cosine_narrow : (r : Range) (u : ℕ) → u < quarter_turn → r.lo ≤ℤ r.hi → r.hi ≤ℤ (r.lo +ℤ pos u) → IsSineBounded u (grid_cosine r)
unfolding grid_cosine part
grid_cosine_narrow r u s o h = over_quarters_narrow (λ c. c +ℤ pos 1) (λ c. refl) r u s o h

pub grid_sine_smallest : (r : Range) → r.lo ≤ℤ r.hi → r.hi ≤ℤ (r.lo +ℤ pos 18_000) → IsBounded (grid_sine r) (record { reach = sine_limit; width = 2 ^ 28 })
grid_sine_smallest r o h = more_bounded (grid_sine r).lo (grid_sine r).hi (sine_bound 18_000) _ (grid_sine_narrow r 18_000 (lit≤ tt) o h) (lit≤ tt) (lit≤ tt)

pub grid_cosine_smallest : (r : Range) → r.lo ≤ℤ r.hi → r.hi ≤ℤ (r.lo +ℤ pos 18_000) → IsBounded (grid_cosine r) (record { reach = sine_limit; width = 2 ^ 28 })
grid_cosine_smallest r o h = more_bounded (grid_cosine r).lo (grid_cosine r).hi (sine_bound 18_000) _ (grid_cosine_narrow r 18_000 (lit≤ tt) o h) (lit≤ tt) (lit≤ tt)

-- ---- no sine reaches past the limit
ordered_ends : (e : Ends) → IsOrdered (enclosure_of e) → e.lo ≤ℤ e.hi
unfolding enclosure_of over
ordered_ends e h = omega (arith, ints, h.ordered.crossed)

abbrev limits : Ends
limits = record { lo = neg_ℤ (pos sine_limit); hi = pos sine_limit }

within_limits : (e : Ends) → reach e ≤ sine_limit → LiesIn (enclosure_of e) (enclosure_of limits)
within_limits e h = ends_lie e limits (low e.lo e.hi h) (high e.lo e.hi h)
  where
    low : (x y : ℤ) → max (unsigned_abs x) (unsigned_abs y) ≤ sine_limit → neg_ℤ (pos sine_limit) ≤ℤ x
    low x y h = omega (arith, ints)

    high : (x y : ℤ) → max (unsigned_abs x) (unsigned_abs y) ≤ sine_limit → y ≤ℤ pos sine_limit
    high x y h = omega (arith, ints)

reach_within : (e : Ends) → e.lo ≤ℤ e.hi → LiesIn (enclosure_of e) (enclosure_of limits) → reach e ≤ sine_limit
reach_within e o h = core e.lo e.hi o (lower_end e limits h) (upper_end e limits h)
  where
    core : (x y : ℤ) → x ≤ℤ y → neg_ℤ (pos sine_limit) ≤ℤ x → y ≤ℤ pos sine_limit → max (unsigned_abs x) (unsigned_abs y) ≤ sine_limit
    core x y o h k = omega (arith, ints)

part_within : (q c : ℤ) (r : Range) → r.lo ≤ℤ r.hi → first_quarter (over r.lo 1) ≤ℤ c → c ≤ℤ last_quarter (over r.hi 1) → LiesIn (enclosure_of (grid_sine_beyond q (grid_piece r c))) (enclosure_of limits)
part_within q c r o h k = let small = piece_small r c (int_gap r.lo r.hi) o (omega (arith, ints, int_gap-is r.lo r.hi o)) h k in within_limits (grid_sine_beyond q (grid_piece r c)) (reach-grid_sine_beyond q (grid_piece r c) small.from small.ordered small.to)

pub reach-grid_sine : (r : Range) → r.lo ≤ℤ r.hi → reach (grid_sine r) ≤ sine_limit
unfolding grid_sine
reach-grid_sine r o = reach_within (grid_over_quarters (λ c. grid_sine_beyond c (grid_piece r c)) r) (ordered_ends _ (grid_sine_ordered r)) (grid_over_quarters_below (λ c. grid_sine_beyond c (grid_piece r c)) r limits (first_before_last r.lo r.hi o) (λ d h k. part_within d d r o h k))

pub reach-grid_cosine : (r : Range) → r.lo ≤ℤ r.hi → reach (grid_cosine r) ≤ sine_limit
unfolding grid_cosine
reach-grid_cosine r o = reach_within (grid_over_quarters (λ c. grid_sine_beyond (c +ℤ pos 1) (grid_piece r c)) r) (ordered_ends _ (grid_cosine_ordered r)) (grid_over_quarters_below (λ c. grid_sine_beyond (c +ℤ pos 1) (grid_piece r c)) r limits (first_before_last r.lo r.hi o) (λ d h k. part_within (d +ℤ pos 1) d r o h k))

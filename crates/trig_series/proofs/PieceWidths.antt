-- How far the sine of a piece reaches and how wide it is on the grid: within 4/3, and at most 11,569 steps a unit and 31 more.
use Rattle.std.proofs.Common.{ℕ, zero, suc, ◌+◌, ◌*◌, ◌≤◌, ℤ, pos, neg_ℤ, ◌+ℤ◌, ◌≤ℤ◌, arith, sym, subst, lit≤, le_trans}
use Rattle.std.specs.Int.{div_ceil}
use Rattle.std.proofs.lemmas.Int.{ints}
use Rattle.fixed_interval.specs.Bound.{IsBounded, IsBoundedRange, ratio_bound}
use Rattle.fixed_interval.specs.Grid.{Ends, Range, UNIT, DEPTH, reach, grid_product, grid_times_ratio}
use Rattle.fixed_interval.proofs.Widths.{grid_times_ratio_bounded}
use Rattle.trig_series.specs.Laws.{sine_limit}
use Rattle.trig_series.specs.Pi.{grid_pi}
use Rattle.trig_series.specs.Quarters.{Meets, eighth_turn, quarter_turn, half_turn, grid_piece}
use Rattle.trig_series.specs.Series.{grid_term, grid_series, grid_one, grid_sine_series, grid_cosine_series}
use Rattle.trig_series.specs.Sine.{modulo_4, grid_quarters_on, grid_sine_beyond}
use Rattle.trig_series.proofs.Linear.{Linear, IsNarrow, product_linear, part_of_linear, sum_linear, margin_linear, term_linear, sum_of_linear, series_linear, product_narrow, negated_narrow, term_narrow, series_narrow, more_narrow, rounded_linear}
use Rattle.trig_series.proofs.PiLaws.{grid_pi-is}
use Rattle.trig_series.proofs.QuarterLaws.{piece_within}

-- ---- one piece
abbrev pub pi_top : ℕ
pi_top = 226375608064910089

-- radians are 8,734 steps a unit
abbrev pub radians_linear : Linear
radians_linear = record { reach = 56_593_902_016_227_523; slope = div_ceil (pi_top * UNIT) half_turn; rest = div_ceil (eighth_turn * UNIT) half_turn + 2 * UNIT }

pub pi_bounded : IsBounded grid_pi (record { reach = pi_top; width = 1 })
pi_bounded = subst (λ (e : Ends). IsBounded e (record { reach = pi_top; width = 1 })) (sym grid_pi-is) (record { ordered = omega (arith, ints); reach = lit≤ tt; width = omega (arith, ints) })

-- a range of u units within an eighth of a turn of zero
pub record IsSmall (u : ℕ) (r : Range) : Type 0 where
  pub from : neg_ℤ (pos eighth_turn) ≤ℤ r.lo
  pub ordered : r.lo ≤ℤ r.hi
  pub to : r.hi ≤ℤ pos eighth_turn
  pub width : r.hi ≤ℤ (r.lo +ℤ pos u)

pub radians_narrow : (u : ℕ) (r : Range) → IsSmall u r → IsNarrow u radians_linear (grid_times_ratio grid_pi r half_turn)
unfolding ratio_bound
radians_narrow u r h =
    let bounded : IsBoundedRange r (record { reach = eighth_turn; width = u }) = record { ordered = h.ordered; reach = omega (arith, ints, h.from, h.ordered, h.to); width = h.width } in
    record {
      width = div_ceil (pi_top * u + eighth_turn * 1) half_turn + 1;
      bounded = grid_times_ratio_bounded grid_pi r _ _ half_turn (lit≤ tt) pi_bounded bounded;
      linear = rounded_linear (pi_top * u + eighth_turn * 1) (pi_top * UNIT) (eighth_turn * UNIT) u half_turn (lit≤ tt) (omega arith);
    }

one_narrow : (u : ℕ) → IsNarrow u (record { reach = UNIT; slope = 0; rest = 0 }) grid_one
one_narrow u = record { width = 0; bounded = record { ordered = omega (arith, ints); reach = lit≤ tt; width = omega (arith, ints) }; linear = omega arith }

-- what both series meet: they reach no farther than 4/3
abbrev pub either_linear : Linear
either_linear = record { reach = sine_limit; slope = 11_569 * UNIT; rest = 31 * UNIT }

abbrev sine_linear : Linear
sine_linear = series_linear (term_linear 1 radians_linear (product_linear radians_linear radians_linear)) DEPTH

abbrev cosine_linear : Linear
cosine_linear = series_linear (term_linear 0 (record { reach = UNIT; slope = 0; rest = 0 }) (product_linear radians_linear radians_linear)) DEPTH

sine_within : (sine_linear.reach ≤ either_linear.reach) × (sine_linear.slope ≤ either_linear.slope) × (sine_linear.rest ≤ either_linear.rest)
unfolding series_linear sum_of_linear term_linear product_linear part_of_linear sum_linear margin_linear
sine_within = (lit≤ tt, lit≤ tt, lit≤ tt)

cosine_within : (cosine_linear.reach ≤ either_linear.reach) × (cosine_linear.slope ≤ either_linear.slope) × (cosine_linear.rest ≤ either_linear.rest)
unfolding series_linear sum_of_linear term_linear product_linear part_of_linear sum_linear margin_linear
cosine_within = (lit≤ tt, lit≤ tt, lit≤ tt)

sine_series_narrow : (u : ℕ) (x : Ends) → IsNarrow u radians_linear x → IsNarrow u either_linear (grid_sine_series x)
unfolding grid_sine_series
sine_series_narrow u x h = more_narrow u sine_linear either_linear (grid_series (grid_term 1 x (grid_product x x)) DEPTH) sine_within.0 sine_within.1 sine_within.2 (series_narrow u _ (grid_term 1 x (grid_product x x)) (term_narrow u 1 _ _ x (grid_product x x) h (product_narrow u _ _ x x h h)) DEPTH)

cosine_series_narrow : (u : ℕ) (x : Ends) → IsNarrow u radians_linear x → IsNarrow u either_linear (grid_cosine_series x)
unfolding grid_cosine_series
cosine_series_narrow u x h = more_narrow u cosine_linear either_linear (grid_series (grid_term 0 grid_one (grid_product x x)) DEPTH) cosine_within.0 cosine_within.1 cosine_within.2 (series_narrow u _ (grid_term 0 grid_one (grid_product x x)) (term_narrow u 0 _ _ grid_one (grid_product x x) (one_narrow u) (product_narrow u _ _ x x h h)) DEPTH)

quarters_on_narrow : (u m : ℕ) (p : Linear) (s k : Ends) → IsNarrow u p s → IsNarrow u p k → IsNarrow u p (grid_quarters_on m s k)
unfolding grid_quarters_on
quarters_on_narrow u zero p s k g h = g
quarters_on_narrow u (suc zero) p s k g h = h
quarters_on_narrow u (suc (suc zero)) p s k g h = negated_narrow u p s g
quarters_on_narrow u (suc (suc (suc m))) p s k g h = negated_narrow u p k h

pub sine_beyond_narrow : (u : ℕ) (c : ℤ) (r : Range) → IsSmall u r → IsNarrow u either_linear (grid_sine_beyond c r)
unfolding grid_sine_beyond
sine_beyond_narrow u c r h =
    let x = grid_times_ratio grid_pi r half_turn in
    let narrow = radians_narrow u r h in
    quarters_on_narrow u (modulo_4 c) either_linear (grid_sine_series x) (grid_cosine_series x) (sine_series_narrow u x narrow) (cosine_series_narrow u x narrow)

-- ---- how far they reach, over any range within an eighth of a turn of zero
small : (r : Range) → neg_ℤ (pos eighth_turn) ≤ℤ r.lo → r.lo ≤ℤ r.hi → r.hi ≤ℤ pos eighth_turn → IsSmall quarter_turn r
small r l o h = record { from = l; ordered = o; to = h; width = omega (arith, ints) }

pub reach-radians : (r : Range) → neg_ℤ (pos eighth_turn) ≤ℤ r.lo → r.lo ≤ℤ r.hi → r.hi ≤ℤ pos eighth_turn → reach (grid_times_ratio grid_pi r half_turn) ≤ UNIT
reach-radians r l o h = le_trans (radians_narrow quarter_turn r (small r l o h)).bounded.reach (lit≤ tt)

pub reach-grid_sine_beyond : (c : ℤ) (r : Range) → neg_ℤ (pos eighth_turn) ≤ℤ r.lo → r.lo ≤ℤ r.hi → r.hi ≤ℤ pos eighth_turn → reach (grid_sine_beyond c r) ≤ sine_limit
reach-grid_sine_beyond c r l o h = (sine_beyond_narrow quarter_turn c r (small r l o h)).bounded.reach

-- in a quarter that the range meets, with whole quarters added
pub reach-in_quarter : (r : Range) (c d : ℤ) → r.lo ≤ℤ r.hi → Meets r c → reach (grid_sine_beyond d (grid_piece r c)) ≤ sine_limit
reach-in_quarter r c d h m = let p = piece_within r c h m in reach-grid_sine_beyond d (grid_piece r c) p.0 p.1 p.2

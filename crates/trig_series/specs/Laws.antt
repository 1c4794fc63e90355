-- The laws of pi, of the series, and of sine and cosine, which the sun and the values rest on.
use Rattle.std.specs.Prelude.{ℕ, suc, ◌↔◌, ◌+◌, ◌*◌, ◌^◌, ◌<◌, ◌≤◌, ℤ, pos, ◌+ℤ◌, ◌≤ℤ◌}
use Rattle.fixed_interval.specs.Fraction.{over}
use Rattle.fixed_interval.specs.Enclosure.{Enclosure, IsOrdered, LiesIn}
use Rattle.fixed_interval.specs.Bound.{Bound, IsBounded}
use Rattle.fixed_interval.specs.Grid.{Ends, Range, DEPTH, reach}
use Rattle.fixed_interval.specs.Laws.{LiesOnGrid, LiesOnUnits, EndsLieIn, RangeLiesIn, AreOrdered}
use Rattle.trig_series.specs.Pi.{pi, grid_pi}
use Rattle.trig_series.specs.Quarters.{quarter_turn, first_quarter, last_quarter, Meets, IsMet}
use Rattle.trig_series.specs.Series.{sine_series, cosine_series, grid_sine_series, grid_cosine_series}
use Rattle.trig_series.specs.Sine.{sine, cosine, grid_sine, grid_cosine}

-- what lies in a range has its sine in the sine of the range
pub record SinesKeepLiesIn : Type 0 where
  pub of_sine_series : (n : ℕ) (a b : Enclosure) → IsOrdered a → LiesIn a b → LiesIn (sine_series n a) (sine_series n b)
  pub of_cosine_series : (n : ℕ) (a b : Enclosure) → IsOrdered a → LiesIn a b → LiesIn (cosine_series n a) (cosine_series n b)
  pub of_sine : (n : ℕ) (a b : Enclosure) → IsOrdered a → LiesIn a b → LiesIn (sine n a) (sine n b)
  pub of_cosine : (n : ℕ) (a b : Enclosure) → IsOrdered a → LiesIn a b → LiesIn (cosine n a) (cosine n b)

-- the same on the grid
pub record GridSinesKeepLiesIn : Type 0 where
  pub of_sine_series : (a b : Ends) → AreOrdered a → EndsLieIn a b → EndsLieIn (grid_sine_series a) (grid_sine_series b)
  pub of_cosine_series : (a b : Ends) → AreOrdered a → EndsLieIn a b → EndsLieIn (grid_cosine_series a) (grid_cosine_series b)
  pub of_sine : (r s : Range) → r.lo ≤ℤ r.hi → RangeLiesIn r s → EndsLieIn (grid_sine r) (grid_sine s)
  pub of_cosine : (r s : Range) → r.lo ≤ℤ r.hi → RangeLiesIn r s → EndsLieIn (grid_cosine r) (grid_cosine s)

-- the grid's form holds the exact one at its depth, for arguments that lie in its own
pub record GridSinesHoldExact : Type 0 where
  pub of_pi : LiesOnGrid (pi DEPTH) grid_pi
  pub of_sine_series : (x : Enclosure) (a : Ends) → IsOrdered x → LiesOnGrid x a → LiesOnGrid (sine_series DEPTH x) (grid_sine_series a)
  pub of_cosine_series : (x : Enclosure) (a : Ends) → IsOrdered x → LiesOnGrid x a → LiesOnGrid (cosine_series DEPTH x) (grid_cosine_series a)
  pub of_sine : (x : Enclosure) (r : Range) → IsOrdered x → LiesOnUnits x r → LiesOnGrid (sine DEPTH x) (grid_sine r)
  pub of_cosine : (x : Enclosure) (r : Range) → IsOrdered x → LiesOnUnits x r → LiesOnGrid (cosine DEPTH x) (grid_cosine r)

-- ends in order give results whose ends are in order
pub record SinesKeepOrder : Type 0 where
  pub of_pi : (n : ℕ) → IsOrdered (pi n)
  pub of_sine : (n : ℕ) (a : Enclosure) → IsOrdered a → IsOrdered (sine n a)
  pub of_cosine : (n : ℕ) (a : Enclosure) → IsOrdered a → IsOrdered (cosine n a)
  pub of_grid_pi : AreOrdered grid_pi
  pub of_grid_sine : (r : Range) → AreOrdered (grid_sine r)
  pub of_grid_cosine : (r : Range) → AreOrdered (grid_cosine r)

-- each depth lies in the one before
pub record SinesNest : Type 0 where
  pub of_pi : (n : ℕ) → LiesIn (pi (suc n)) (pi n)
  pub of_sine : (n : ℕ) (a : Enclosure) → IsOrdered a → LiesIn (sine (suc n) a) (sine n a)
  pub of_cosine : (n : ℕ) (a : Enclosure) → IsOrdered a → LiesIn (cosine (suc n) a) (cosine n a)

-- the quarters whose pieces are joined are those that have a point in common with the range
pub record JoinsTheQuartersMet : Type 0 where
  pub of_enclosure : (range : Enclosure) (c : ℤ) → ((first_quarter range.lo ≤ℤ c) × (c ≤ℤ last_quarter range.hi)) ↔ IsMet range c
  pub of_range : (range : Range) (c : ℤ) → ((first_quarter (over range.lo 1) ≤ℤ c) × (c ≤ℤ last_quarter (over range.hi 1))) ↔ Meets range c

-- 4/3 on the grid, rounded down
abbrev pub sine_limit : ℕ
sine_limit = 96_076_792_050_570_581

-- how far a sine or a cosine reaches, and how wide it may be over u angle units
abbrev pub sine_bound : ℕ → Bound
sine_bound u = record { reach = sine_limit; width = 11_569 * u + 62 }

-- no sine reaches past 4/3, and a narrow range has a narrow sine, across the seams too: over 18,000 units at most 2^-28
pub record SinesAreBounded : Type 0 where
  pub of_pi : IsBounded grid_pi (record { reach = 226_375_608_064_910_089; width = 1 })
  pub of_any_sine : (r : Range) → r.lo ≤ℤ r.hi → reach (grid_sine r) ≤ sine_limit
  pub of_any_cosine : (r : Range) → r.lo ≤ℤ r.hi → reach (grid_cosine r) ≤ sine_limit
  pub of_sine : (r : Range) (u : ℕ) → u < quarter_turn → r.lo ≤ℤ r.hi → r.hi ≤ℤ (r.lo +ℤ pos u) → IsBounded (grid_sine r) (sine_bound u)
  pub of_cosine : (r : Range) (u : ℕ) → u < quarter_turn → r.lo ≤ℤ r.hi → r.hi ≤ℤ (r.lo +ℤ pos u) → IsBounded (grid_cosine r) (sine_bound u)
  pub of_smallest_sine : (r : Range) → r.lo ≤ℤ r.hi → r.hi ≤ℤ (r.lo +ℤ pos 18_000) → IsBounded (grid_sine r) (record { reach = sine_limit; width = 2 ^ 28 })
  pub of_smallest_cosine : (r : Range) → r.lo ≤ℤ r.hi → r.hi ≤ℤ (r.lo +ℤ pos 18_000) → IsBounded (grid_cosine r) (record { reach = sine_limit; width = 2 ^ 28 })

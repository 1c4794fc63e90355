-- What a `PartialSum` of the code stands for: some terms of a series added up, and the next one.
use Rattle.std.specs.Prelude.{ℕ, ◌≡◌, ◌*◌, ◌≤◌}
use Rattle.fixed_interval.specs.Grid.{Ends, UNIT, reach}
use Rattle.trig_series.specs.Magnitudes.{ends_of}
use Rattle.trig_series.specs.Series.{grid_term, grid_partial_sum}
use Rattle.trig_series.specs.Short.{ends_of as short_ends}
use Rattle.trig_series.specs.declared.alternating.PartialSum.{PartialSum}

-- s has the first j terms of the series that begins with `first`
pub record HasTerms (power : ℕ) (first square : Ends) (j : ℕ) (s : PartialSum) : Type 0 where
  pub total : short_ends s.total ≡ grid_partial_sum (grid_term power first square) j
  pub total_small : reach (short_ends s.total) ≤ j * UNIT
  pub next : ends_of s.next ≡ grid_term power first square j

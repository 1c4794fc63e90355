-- How great and how wide the sun's terms are at one minute, on the grid.
use Rattle.std.specs.Prelude.{◌≡◌, ◌*◌, ◌/◌, ◌^◌, ◌≤◌, pos, ◌+ℤ◌, ◌≤ℤ◌, unsigned_abs}
use Rattle.fixed_interval.specs.Bound.{IsBounded}
use Rattle.fixed_interval.specs.Grid.{Range, UNIT}
use Rattle.trig_series.specs.Laws.{sine_limit}
use Rattle.solar_terms.specs.Sun.{SunTerms, grid_sun}

-- each term is at most 4/3, the sine of the obliquity at most 0.42, and each at most 2^-36 wide; the mean longitude is at
-- most 100 angle units wide
pub record IsNarrowSun (s : SunTerms) : Type 0 where
  pub sin_l : IsBounded s.sin_l (record { reach = sine_limit; width = 2 ^ 20 })
  pub cos_l : IsBounded s.cos_l (record { reach = sine_limit; width = 2 ^ 20 })
  pub sin_e : IsBounded s.sin_e (record { reach = 42 * UNIT / 100; width = 2 ^ 20 })
  pub cos_e : IsBounded s.cos_e (record { reach = sine_limit; width = 2 ^ 20 })
  pub q_ordered : s.q.lo ≤ℤ s.q.hi
  pub q_narrow : s.q.hi ≤ℤ (s.q.lo +ℤ pos 100)

-- the observatory's sun at one minute within the limits is so
abbrev pub ObservatoryIsNarrow : Type 0
ObservatoryIsNarrow = (r : Range) → r.hi ≡ r.lo → unsigned_abs r.lo ≤ 53_200_000 → IsNarrowSun (grid_sun r)

-- The sines of the angles of a day's problems.
use Rattle.std.specs.Prelude.{◌≡◌, ℕ, ◌*◌, ◌≤◌, ℤ, List, Some}
use Rattle.std.specs.List.{slice_get}
use Rattle.fixed_interval.specs.declared.Interval.{Interval}
use Rattle.fixed_interval.specs.Grid.{UNIT, reach}
use Rattle.fixed_interval.specs.Interval.{ends}
use Rattle.trig_series.specs.Sine.{grid_sine}
use Rattle.method_table.specs.declared.problem.Kind.{Kind}
use Rattle.method_table.specs.declared.problem.Kind.TheVariants.{Above, Below}
use Rattle.method_table.specs.declared.problem.Problem.{Problem}
use Rattle.cell_judge.specs.Conditions.{angles}
use Rattle.cell_judge.specs.Each.{Each}

-- the sine of a range of angles
pub record IsSine (low high : ℤ) (sine : Interval) : Type 0 where
  pub value : ends sine ≡ grid_sine (angles low high)
  pub small : 3 * reach (ends sine) ≤ 4 * UNIT

-- the sine of a condition's angles, if it has any
pub record IsSineOf (kind : Kind) (sine : Interval) : Type 0 where
  pub above : (low high : ℤ) → kind ≡ Above low high → IsSine low high sine
  pub below : (low high : ℤ) → kind ≡ Below low high → IsSine low high sine

-- the sine of the problem of this number
abbrev pub IsSineAt : List Problem → ℕ → Interval → Type 0
IsSineAt problems k sine = (p : Problem) → slice_get problems k ≡ Some p → IsSineOf p.kind sine

-- the sine of each problem
abbrev pub AreSinesOf : List Problem → List Interval → Type 0
AreSinesOf problems sines = Each (IsSineAt problems) sines

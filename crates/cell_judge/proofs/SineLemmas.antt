-- The sine of a condition's angles.
use Rattle.std.proofs.Common.{◌≡◌, ◌*◌, ◌^◌, ◌≤◌, subst, arith}
use Rattle.std.specs.Prelude.{ℤ, ◌+ℤ◌, unsigned_abs}
use Rattle.fixed_interval.specs.declared.Interval.{Interval}
use Rattle.fixed_interval.specs.Grid.{UNIT, reach}
use Rattle.fixed_interval.specs.Interval.{ends}
use Rattle.fixed_interval.proofs.Sizes.{abs_sum}
use Rattle.method_table.specs.declared.problem.Kind.{Kind}
use Rattle.method_table.specs.declared.problem.Kind.TheVariants.{Above, Below}
use Rattle.cell_judge.specs.Sines.{IsSine, IsSineOf}

-- a condition's only angles
pub above_sine : (kind : Kind) (low high : ℤ) (sine : Interval) → kind ≡ Above low high → IsSine low high sine → IsSineOf kind sine
above_sine kind low high sine is s = record {
  above = λ l h e.
      let x : low ≡ l = cc in
      let y : high ≡ h = cc in
      subst (λ (z : ℤ). IsSine l z sine) y (subst (λ (z : ℤ). IsSine z high sine) x s);
  below = λ l h e. absurd cc;
}

pub below_sine : (kind : Kind) (low high : ℤ) (sine : Interval) → kind ≡ Below low high → IsSine low high sine → IsSineOf kind sine
below_sine kind low high sine is s = record {
  above = λ l h e. absurd cc;
  below = λ l h e.
      let x : low ≡ l = cc in
      let y : high ≡ h = cc in
      subst (λ (z : ℤ). IsSine l z sine) y (subst (λ (z : ℤ). IsSine z high sine) x s);
}

-- the sine of an altitude and that of an angle may be added
pub record Fits (a b : Interval) : Type 0 where
  pub low : unsigned_abs (a.lo +ℤ b.lo) ≤ 2 ^ 71
  pub high : unsigned_abs (a.hi +ℤ b.hi) ≤ 2 ^ 71

pub sum_fits : (a b : Interval) → reach (ends a) ≤ 8 * UNIT → 3 * reach (ends b) ≤ 4 * UNIT → Fits a b
sum_fits a b h k =
    let low = abs_sum a.lo b.lo in
    let high = abs_sum a.hi b.hi in
    record { low = omega (arith, low, h, k); high = omega (arith, high, h, k) }

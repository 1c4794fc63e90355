-- The conditions of the prayers. Angles are ranges, below the horizon, in units of 1/144,000,000,000 degree.
use Rattle.std.specs.Prelude.{◌≡◌, ℕ, ◌*◌, ◌≤◌, ℤ, pos, ◌≤ℤ◌, ◌+ℤ◌}
use Rattle.method_table.specs.declared.problem.Kind.{Kind}
use Rattle.method_table.specs.declared.problem.Kind.TheVariants.{Above, Below, Shadow}

-- one degree
abbrev pub DEGREE : ℕ
DEGREE = 144000000000

-- a range of angles from 0 to 30 degrees, at most one unit wide
pub record IsAngleRange (low high : ℤ) : Type 0 where
  pub not_negative : pos 0 ≤ℤ low
  pub ordered : low ≤ℤ high
  pub narrow : high ≤ℤ (low +ℤ pos 1)
  pub small : high ≤ℤ pos (30 * DEGREE)

-- the rule of a condition
pub record IsKind (kind : Kind) : Type 0 where
  pub above : (low high : ℤ) → kind ≡ Above low high → IsAngleRange low high
  pub below : (low high : ℤ) → kind ≡ Below low high → IsAngleRange low high
  pub shadow : (factor : ℕ) → kind ≡ Shadow factor → (1 ≤ factor) × (factor ≤ 2)

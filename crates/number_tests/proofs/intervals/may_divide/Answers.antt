-- A quotient that is small when rounded up bounds what was divided.
use Rattle.std.proofs.Common.{◌≡◌, ℕ, ◌*◌, ◌^◌, ◌<◌, ◌≤◌, leb-true, arith, mul-le-mul_right}
use Rattle.std.specs.Int.{div_ceil}
use Rattle.fixed_interval.proofs.Sizes.{div_ceil_covers}
use Rattle.number_tests.proofs.intervals.may_divide.Goals as goal

within : (x n q : ℕ) → 0 < n → q ≡ div_ceil x n → q ≤ 2 ^ 71 → x ≤ 2 ^ 71 * n
within x n q h e l = omega (arith, div_ceil_covers x n h, mul-le-mul_right n k)
  where
    k : div_ceil x n ≤ 2 ^ 71
    k = rw (← e) l

pub returns : goal.returns
returns c h = within c.args.x c.args.n c.div_ceil.result c.requires c.div_ceil.ensures (leb-true _ _ h)

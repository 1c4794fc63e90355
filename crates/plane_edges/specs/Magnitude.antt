-- How large a number may be, either way.
use Rattle.std.specs.Prelude.{ℤ, ◌≤ℤ◌, neg_ℤ}

-- the number is from -most to most
pub record IsWithin (most number : ℤ) : Type 0 where
  pub low : neg_ℤ most ≤ℤ number
  pub high : number ≤ℤ most

-- How great a product is, from how great its factors may be.
use Rattle.std.proofs.Common.{ℕ, ◌+◌, ◌*◌, ◌/◌, ◌^◌, ◌≤◌, arith}
use Rattle.std.specs.Int.{div_ceil}
use Rattle.std.proofs.lemmas.Nat.{mul-le}
use Rattle.fixed_interval.specs.Grid.{UNIT}

-- a product is at most that of the bounds
pub product_fits : (x y p q : ℕ) → x ≤ p → y ≤ q → p * q ≤ 2 ^ 126 → x * y ≤ 2 ^ 126
product_fits x y p q left right fits = let h : x * y ≤ p * q = mul-le x y p q left right in omega (arith, h)

-- and rounded up it is at most that of the bounds, a grid unit more
pub product_at_most : (r x y p q : ℕ) → r ≤ div_ceil (x * y) UNIT → x ≤ p → y ≤ q → r ≤ p * q / UNIT + 1
product_at_most r x y p q h left right = let k : x * y ≤ p * q = mul-le x y p q left right in omega (arith, h, k)

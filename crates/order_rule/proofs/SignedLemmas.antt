-- Tests of signed numbers.
use Rattle.std.proofs.Common.{◌≡◌, ℤ, ◌≤ℤ◌, true, ◌&&◌, arith}
use Rattle.std.specs.Prelude.{int_le}
use Rattle.std.proofs.lemmas.Bool.{and_parts}
use Rattle.std.proofs.lemmas.Int.{ints}

pub le_from_test : (a b : ℤ) → int_le a b ≡ true → a ≤ℤ b
le_from_test a b e = grind (arith, ints)

-- a number from low to high
pub between : (low high x : ℤ) → int_le low x && int_le x high ≡ true → (low ≤ℤ x) × (x ≤ℤ high)
between low high x e =
    let both = and_parts (int_le low x) (int_le x high) e in
    (le_from_test low x both.0, le_from_test x high both.1)

-- Sums and differences in 64-bit words, which lose nothing within 2^62.
use Rattle.std.proofs.Common.{◌≡◌, ◌+◌, ◌^◌, ◌≤◌, ℤ, ◌+ℤ◌, ◌-ℤ◌, unsigned_abs, to_z, of_z, arith}
use Rattle.std.specs.Int.{w64}
use Rattle.std.proofs.lemmas.Int.{ints}

abbrev pub word_of : ℤ → ℤ
word_of z = to_z w64 (of_z w64 z)

pub word : (z : ℤ) → unsigned_abs z ≤ 2 ^ 62 → word_of z ≡ z
word z h = omega (arith, ints)

pub summed : (x y : ℤ) → unsigned_abs x + unsigned_abs y ≤ 2 ^ 62 → word_of (word_of x +ℤ word_of y) ≡ x +ℤ y
summed x y h =
    let u : word_of x ≡ x = word x (omega arith) in
    let v : word_of y ≡ y = word y (omega arith) in
    rw (u, v) (word (x +ℤ y) (omega (arith, ints)))

pub subtracted : (x y : ℤ) → unsigned_abs x + unsigned_abs y ≤ 2 ^ 62 → word_of (word_of x -ℤ word_of y) ≡ x -ℤ y
subtracted x y h =
    let u : word_of x ≡ x = word x (omega arith) in
    let v : word_of y ≡ y = word y (omega arith) in
    rw (u, v) (word (x -ℤ y) (omega (arith, ints)))

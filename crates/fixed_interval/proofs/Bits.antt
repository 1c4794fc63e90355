-- A whole number that fits 128 bits is itself again once written as bits and read. The code's values are shown so.
use Rattle.std.proofs.Common.{◌≡◌, ℕ, ◌*◌, ◌+◌, ◌%◌, ◌^◌, ◌<◌, ◌≤◌, ℤ, pos, negsuc, neg_ℤ, ◌+ℤ◌, ◌-ℤ◌, ◌≤ℤ◌, unsigned_abs, FitsSigned, to_z, of_z, to_z-of_z, arith, ap, ap₂, ◌∙◌}
use Rattle.std.specs.Int.{w64, w128, int_max}
use lib.Signed.{mag}
use Rattle.fixed_interval.specs.Enclosure.{natural}
use Rattle.std.proofs.lemmas.Int.{ints, clamps, to_z_pos}

abbrev pub bits_of : ℤ → ℤ
bits_of z = to_z w128 (of_z w128 z)

pub fitting : (z : ℤ) → FitsSigned w128 z → bits_of z ≡ z
fitting z h = to_z-of_z h

pub typed : (z : ℤ) → mag z < 2 ^ 127 → bits_of z ≡ z
typed z h = to_z-of_z {w = w128} (record { sfits = h })

pub back : (z : ℤ) → unsigned_abs z ≤ 2 ^ 126 → bits_of z ≡ z
back z h = omega (arith, ints)

-- a call's result, where its clause gives its value
pub settled : (r z : ℤ) → r ≡ z → unsigned_abs z ≤ 2 ^ 126 → bits_of r ≡ z
settled r z e h = ap bits_of e ∙ back z h

-- what a call of f gave, where its own clause names f
pub called : (f : ℤ → ℤ → ℤ) (r x y x' y' : ℤ) → r ≡ f (bits_of x) (bits_of y) → bits_of r ≡ r → bits_of x ≡ x' → bits_of y ≡ y' → bits_of r ≡ f x' y'
called f r x y x' y' e hr hx hy = hr ∙ e ∙ ap₂ f hx hy

pub called_with_four : (f : ℤ → ℤ → ℤ → ℤ → ℤ) (r a b c d a' b' c' d' : ℤ) → r ≡ f (bits_of a) (bits_of b) (bits_of c) (bits_of d) → bits_of r ≡ r → bits_of a ≡ a' → bits_of b ≡ b' → bits_of c ≡ c' → bits_of d ≡ d' → bits_of r ≡ f a' b' c' d'
called_with_four f r a b c d a' b' c' d' e hr ha hb hc hd = hr ∙ e ∙ (λ i. f (ha i) (hb i) (hc i) (hd i))

pub summed : (x y : ℤ) → unsigned_abs x ≤ 2 ^ 71 → unsigned_abs y ≤ 2 ^ 71 → bits_of (bits_of x +ℤ bits_of y) ≡ x +ℤ y
summed x y h k =
    let u : bits_of x ≡ x = back x (omega arith) in
    let v : bits_of y ≡ y = back y (omega arith) in
    rw (u, v) (back (x +ℤ y) (omega (arith, ints)))

pub subtracted : (x y : ℤ) → unsigned_abs x ≤ 2 ^ 71 → unsigned_abs y ≤ 2 ^ 71 → bits_of (bits_of x -ℤ bits_of y) ≡ x -ℤ y
subtracted x y h k =
    let u : bits_of x ≡ x = back x (omega arith) in
    let v : bits_of y ≡ y = back y (omega arith) in
    rw (u, v) (back (x -ℤ y) (omega (arith, ints)))

-- an end of an interval
pub within : (z : ℤ) → unsigned_abs z ≤ 2 ^ 71 → bits_of z ≡ z
within z h = back z (omega arith)

-- what a call of f on two ends gave
pub ends_called : (f : ℤ → ℤ → ℤ) (r x y : ℤ) → r ≡ f (bits_of x) (bits_of y) → mag r < 2 ^ 127 → unsigned_abs x ≤ 2 ^ 71 → unsigned_abs y ≤ 2 ^ 71 → bits_of r ≡ f x y
ends_called f r x y e h p q = called f r x y x y e (typed r h) (within x p) (within y q)

-- a number that came from 64 bits
pub narrow : (z : ℤ) → unsigned_abs z ≤ 2 ^ 45 → bits_of (to_z w64 (of_z w64 z)) ≡ z
narrow z h = omega (arith, ints)

-- a number that was cast to 64 bits
pub cast : (z : ℤ) → unsigned_abs z < 2 ^ 63 → to_z w64 (of_z w64 (bits_of z)) ≡ z
cast z h = let wide : bits_of z ≡ z = back z (omega arith) in rw wide (omega (arith, ints))

pub end_fits : (z : ℤ) → unsigned_abs z ≤ 2 ^ 71 → unsigned_abs z ≤ 2 ^ 126
end_fits z h = omega arith

pub end_fits_bits : (z : ℤ) → unsigned_abs z ≤ 2 ^ 71 → unsigned_abs (bits_of z) ≤ 2 ^ 126
end_fits_bits z h = rw (within z h) (end_fits z h)

-- ---- naturals of 128 bits
int_max-zero : (x : ℤ) → int_max x (pos 0) ≡ pos (natural x)
unfolding natural
int_max-zero (pos n) = omega (arith, ints, clamps)
int_max-zero (negsuc n) = omega (arith, ints, clamps)

pub natural_small : (x : ℤ) → x ≤ℤ pos (2 ^ 70) → natural x ≤ 2 ^ 70
unfolding natural
natural_small (pos n) h = omega (arith, ints)
natural_small (negsuc n) h = omega arith

-- 2^56 times the greater of x and 0, as the code shifts it
pub shifted : (r x : ℤ) → r ≡ int_max (bits_of x) (pos 0) → FitsSigned w128 x → x ≤ℤ pos (2 ^ 70) → unsigned_abs (bits_of r) * 2 ^ 56 % 2 ^ 128 ≡ natural x * 2 ^ 56
shifted r x e f h =
    let k = natural_small x h in
    let s : bits_of r ≡ pos (natural x) = settled r (pos (natural x)) (e ∙ ap (λ y. int_max y (pos 0)) (fitting x f) ∙ int_max-zero x) (omega arith) in
    rw s (omega arith)

pub read_natural : (n : ℕ) → n < 2 ^ 127 → to_z w128 n ≡ pos n
read_natural n h = to_z_pos w128 n h

pub one_more : (n : ℕ) → n < 2 ^ 64 → bits_of (to_z w128 n +ℤ pos 1) ≡ pos (n + 1)
one_more n h =
    let e : to_z w128 n ≡ pos n = read_natural n (omega arith) in
    rw e (back (pos (n + 1)) (omega arith))

-- ---- magnitudes
pub turned : (z : ℤ) → unsigned_abs z ≤ 2 ^ 71 → bits_of (pos 0 -ℤ bits_of z) ≡ neg_ℤ z
turned z h = subtracted (pos 0) z (omega arith) h ∙ omega (arith, ints)

pub magnitude_low : (r s x y : ℤ) → r ≡ int_max (bits_of x) (bits_of (pos 0 -ℤ bits_of y)) → mag r < 2 ^ 127 → s ≡ int_max (bits_of r) (pos 0) → mag s < 2 ^ 127 → unsigned_abs x ≤ 2 ^ 71 → unsigned_abs y ≤ 2 ^ 71 → bits_of s ≡ int_max (int_max x (neg_ℤ y)) (pos 0)
magnitude_low r s x y e p f q h k = typed s q ∙ f ∙ ap (λ z. int_max z (pos 0)) (typed r p ∙ e ∙ ap₂ int_max (within x h) (turned y k))

pub magnitude_high : (r x y : ℤ) → r ≡ int_max (bits_of (pos 0 -ℤ bits_of x)) (bits_of y) → mag r < 2 ^ 127 → unsigned_abs x ≤ 2 ^ 71 → unsigned_abs y ≤ 2 ^ 71 → bits_of r ≡ int_max (neg_ℤ x) y
magnitude_high r x y e p h k = typed r p ∙ e ∙ ap₂ int_max (turned x h) (within y k)

-- Square roots as the code computes them, of a number of the grid in 2^-112.
use Rattle.std.proofs.Common.{◌≡◌, ℕ, ◌*◌, ◌^◌, ◌≤◌, ℤ, pos, negsuc, ◌≤ℤ◌, max, unsigned_abs, arith, ap, ◌∙◌, mul-le-mul_right, le_trans, lit≤}
use Rattle.std.proofs.lemmas.Int.{ints}
use Rattle.fixed_interval.specs.Enclosure.{natural, whole_root, root_up}
use Rattle.fixed_interval.specs.Grid.{UNIT}
use Rattle.fixed_interval.proofs.Bits.{bits_of, within, settled, natural_small}
use Rattle.fixed_interval.proofs.RootLaws.{whole_root_within, root_up_least, roots_ordered}
use Rattle.fixed_interval.proofs.Sizes.{both_within}

pub natural_mono : (x y : ℤ) → x ≤ℤ y → natural x ≤ natural y
unfolding natural
natural_mono (pos m) (pos n) h = omega (arith, ints)
natural_mono (pos m) (negsuc n) h = absurd (omega (arith, ints))
natural_mono (negsuc m) (pos n) h = omega arith
natural_mono (negsuc m) (negsuc n) h = omega arith

natural_at_most : (x : ℤ) → natural x ≤ unsigned_abs x
unfolding natural
natural_at_most (pos n) = omega arith
natural_at_most (negsuc n) = omega arith

pub counts_ordered : (x y : ℤ) → x ≤ℤ y → natural x * UNIT ≤ natural y * UNIT
counts_ordered x y h = mul-le-mul_right UNIT (natural_mono x y h)

pub roots_of_ordered : (x y : ℤ) → x ≤ℤ y → pos (whole_root (natural x * UNIT)) ≤ℤ pos (root_up (natural y * UNIT))
roots_of_ordered x y h = omega (arith, ints, roots_ordered (natural x * UNIT) (natural y * UNIT) (counts_ordered x y h))

pub root_low_small : (x : ℤ) → x ≤ℤ pos (2 ^ 70) → whole_root (natural x * UNIT) ≤ 2 ^ 63
root_low_small x h = whole_root_within (natural x * UNIT) (2 ^ 63) (omega (arith, natural_small x h))

pub root_high_small : (x : ℤ) → x ≤ℤ pos (2 ^ 70) → root_up (natural x * UNIT) ≤ 2 ^ 63
root_high_small x h = root_up_least (natural x * UNIT) (2 ^ 63) (omega (arith, natural_small x h))

pub root_low : (r : ℤ) (m : ℕ) (x : ℤ) → m ≡ natural (bits_of x) * UNIT → r ≡ pos (whole_root m) → unsigned_abs x ≤ 2 ^ 71 → x ≤ℤ pos (2 ^ 70) → bits_of r ≡ pos (whole_root (natural x * UNIT))
root_low r m x e f h k = settled r (pos (whole_root (natural x * UNIT))) (f ∙ ap (λ n. pos (whole_root n)) (e ∙ ap (λ y. natural y * UNIT) (within x h))) (le_trans (root_low_small x k) (lit≤ tt))

pub root_high : (r : ℤ) (m : ℕ) (x : ℤ) → m ≡ natural (bits_of x) * UNIT → r ≡ pos (root_up m) → unsigned_abs x ≤ 2 ^ 71 → x ≤ℤ pos (2 ^ 70) → bits_of r ≡ pos (root_up (natural x * UNIT))
root_high r m x e f h k = settled r (pos (root_up (natural x * UNIT))) (f ∙ ap (λ n. pos (root_up n)) (e ∙ ap (λ y. natural y * UNIT) (within x h))) (le_trans (root_high_small x k) (lit≤ tt))

count_within : (x : ℤ) (m s : ℕ) → unsigned_abs x ≤ m → m * UNIT ≤ s * s → natural x * UNIT ≤ s * s
count_within x m s h k = le_trans (mul-le-mul_right UNIT (le_trans (natural_at_most x) h)) k

pub reach-roots : (x y : ℤ) (m s : ℕ) → unsigned_abs x ≤ m → unsigned_abs y ≤ m → m * UNIT ≤ s * s → max (whole_root (natural x * UNIT)) (root_up (natural y * UNIT)) ≤ s
reach-roots x y m s h k l = both_within (whole_root_within _ s (count_within x m s h l)) (root_up_least _ s (count_within y m s k l))

-- The products of one number with two others keep their order, or turn it round, by its sign.
use Rattle.std.proofs.Common.{◌≡◌, ℤ, pos, ◌*ℤ◌, ◌≤ℤ◌, ◌+◌, ◌≤◌, arith, mul-le-mul_right}
use Rattle.std.specs.Int.{int_min, int_max}
use Rattle.std.proofs.lemmas.Int.{ints, clamps}
use borrow.Author.Differences.{up, down, at_most_in}
use Rattle.fixed_interval.proofs.Whole.{parts, one_part}

rises : (x y z : ℤ) → pos 0 ≤ℤ x → y ≤ℤ z → (x *ℤ y) ≤ℤ (x *ℤ z)
rises x y z s h =
    let none : down x ≡ 0 = omega (arith, ints, s, one_part x) in
    let order : up y + down z ≤ up z + down y = omega (arith, ints, h) in
    at_most_in _ _ (simp (parts, none) (omega (arith, mul-le-mul_right (up x) order)))

falls : (x y z : ℤ) → x ≤ℤ pos 0 → y ≤ℤ z → (x *ℤ z) ≤ℤ (x *ℤ y)
falls x y z s h =
    let none : up x ≡ 0 = omega (arith, ints, s, one_part x) in
    let order : up y + down z ≤ up z + down y = omega (arith, ints, h) in
    at_most_in _ _ (simp (parts, none) (omega (arith, mul-le-mul_right (down x) order)))

least_of : (p q : ℤ) → p ≤ℤ q → p ≡ int_min p q
least_of p q h = omega (arith, ints, clamps)

least_turned : (p q : ℤ) → q ≤ℤ p → q ≡ int_min p q
least_turned p q h = omega (arith, ints, clamps)

greatest_of : (p q : ℤ) → p ≤ℤ q → q ≡ int_max p q
greatest_of p q h = omega (arith, ints, clamps)

greatest_turned : (p q : ℤ) → q ≤ℤ p → p ≡ int_max p q
greatest_turned p q h = omega (arith, ints, clamps)

pub lesser_with : (x y z : ℤ) → pos 0 ≤ℤ x → y ≤ℤ z → x *ℤ y ≡ int_min (x *ℤ y) (x *ℤ z)
lesser_with x y z s h = least_of _ _ (rises x y z s h)

pub lesser_against : (x y z : ℤ) → x ≤ℤ pos 0 → y ≤ℤ z → x *ℤ z ≡ int_min (x *ℤ y) (x *ℤ z)
lesser_against x y z s h = least_turned _ _ (falls x y z s h)

pub greater_with : (x y z : ℤ) → pos 0 ≤ℤ x → y ≤ℤ z → x *ℤ z ≡ int_max (x *ℤ y) (x *ℤ z)
greater_with x y z s h = greatest_of _ _ (rises x y z s h)

pub greater_against : (x y z : ℤ) → x ≤ℤ pos 0 → y ≤ℤ z → x *ℤ y ≡ int_max (x *ℤ y) (x *ℤ z)
greater_against x y z s h = greatest_turned _ _ (falls x y z s h)

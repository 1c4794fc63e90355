-- The difference of a polynomial at two fractions p / n and q / m is the difference of the fractions times a slope.
use Rattle.std.proofs.Common.{◌≡◌, ℕ, ◌+◌, ◌*◌, ℤ, pos, ◌+ℤ◌, ◌-ℤ◌, ◌*ℤ◌, arith, ap, refl}
use Rattle.std.proofs.lemmas.Int.{ints}
use borrow.Author.Differences.{up, down}
use Rattle.meeus_terms.specs.Polynomials.{quadratic_top, cubic_top}
use Rattle.fixed_interval.proofs.Whole.{diff, parts_is, diff_is, diffs, diff_same}

-- q / m - p / n, over n m
abbrev pub gap : ℤ → ℤ → ℕ → ℕ → ℤ
gap p q n m = (q *ℤ pos n) -ℤ (p *ℤ pos m)

-- b + c (p / n + q / m), over n m
abbrev pub slope : ℤ → ℤ → ℤ → ℤ → ℕ → ℕ → ℤ
slope b c p q n m = (b *ℤ pos (n * m)) +ℤ (c *ℤ ((p *ℤ pos m) +ℤ (q *ℤ pos n)))

whole-is : (n : ℕ) → pos n ≡ diff n 0
whole-is n = omega (arith, ints, diff_is)

pub quadratic_difference : (a b c p q : ℤ) (n m : ℕ) → quadratic_top a b c q m *ℤ pos (n * n) ≡ (quadratic_top a b c p n *ℤ pos (m * m)) +ℤ (gap p q n m *ℤ slope b c p q n m)
quadratic_difference a b c p q n m = rw (parts_is a, parts_is b, parts_is c, parts_is p, parts_is q, whole-is n, whole-is m, whole-is (n * n), whole-is (m * m), whole-is (n * m)) (simp diffs (diff_same _ _ _ _ (omega arith)))

-- so of a cubic: from that of the inner quadratic, of which t and s are the tops
cubic_step : (a p q t s g k : ℤ) (n m : ℕ) → g ≡ gap p q n m → t *ℤ pos (n * n) ≡ (s *ℤ pos (m * m)) +ℤ (g *ℤ k) → ((a *ℤ pos (m * m * m)) +ℤ (q *ℤ t)) *ℤ pos (n * n * n) ≡ (((a *ℤ pos (n * n * n)) +ℤ (p *ℤ s)) *ℤ pos (m * m * m)) +ℤ (g *ℤ ((t *ℤ pos (n * n)) +ℤ (p *ℤ (pos m *ℤ k))))
cubic_step a p q t s g k n m d e =
    let d' : up g + (down q * n + up p * m) ≡ down g + (up q * n + down p * m) = omega (arith, ints, d) in
    let e' : up t * (n * n) + (down s * (m * m) + (up g * down k + down g * up k)) ≡ down t * (n * n) + (up s * (m * m) + (up g * up k + down g * down k)) = omega (arith, ints, e) in
    rw (parts_is a, parts_is p, parts_is q, parts_is t, parts_is s, parts_is g, parts_is k, whole-is m, whole-is (n * n), whole-is (n * n * n), whole-is (m * m * m))
    (simp diffs (diff_same _ _ _ _ (omega (arith, ap (λ (z : ℕ). z * (n * n * up t)) d', ap (λ (z : ℕ). z * (n * n * down t)) d', ap (λ (z : ℕ). z * (m * up p)) e', ap (λ (z : ℕ). z * (m * down p)) e'))))

pub cubic_difference : (a b c d p q : ℤ) (n m : ℕ) → cubic_top a b c d q m *ℤ pos (n * n * n) ≡ (cubic_top a b c d p n *ℤ pos (m * m * m)) +ℤ (gap p q n m *ℤ ((quadratic_top b c d q m *ℤ pos (n * n)) +ℤ (p *ℤ (pos m *ℤ slope c d p q n m))))
cubic_difference a b c d p q n m = cubic_step a p q (quadratic_top b c d q m) (quadratic_top b c d p n) (gap p q n m) (slope c d p q n m) n m refl (quadratic_difference b c d p q n m)

-- Polynomials in T, the Julian centuries of 36,525 days since 2000-01-01 12:00, over minutes since then.
-- Minutes beyond the limits of `Minutes`, 53,200,000 either way, count as the nearest limit: so each polynomial used here
-- rises or falls over all minutes.
use Rattle.std.specs.Prelude.{ℕ, ◌*◌, ℤ, pos, neg_ℤ, ◌+ℤ◌, ◌*ℤ◌}
use Rattle.fixed_interval.specs.Fraction.{Fraction, over, plus, times, least, greatest}
use Rattle.fixed_interval.specs.Enclosure.{Enclosure}

unfoldable pub held : Fraction → Fraction
held k = least (greatest (over (neg_ℤ (pos 53_200_000)) 1) k) (over (pos 53_200_000) 1)

unfoldable pub centuries : Fraction → Fraction
centuries k = times (held k) (over (pos 1) 52_596_000)

-- a + b T
unfoldable pub linear : ℤ → ℤ → Fraction → Fraction
linear a b t = plus (over a 1) (times t (over b 1))

-- a + b T + c T^2
unfoldable pub quadratic : ℤ → ℤ → ℤ → Fraction → Fraction
quadratic a b c t = plus (over a 1) (times t (linear b c t))

-- a + b T + c T^2 + d T^3
unfoldable pub cubic : ℤ → ℤ → ℤ → ℤ → Fraction → Fraction
cubic a b c d t = plus (over a 1) (times t (quadratic b c d t))

-- over a range of minutes: what lies between the values at its ends
unfoldable pub rising : (Fraction → Fraction) → Enclosure → Enclosure
rising f m = record { lo = f (centuries m.lo); hi = f (centuries m.hi) }

unfoldable pub falling : (Fraction → Fraction) → Enclosure → Enclosure
falling f m = record { lo = f (centuries m.hi); hi = f (centuries m.lo) }

-- ---- the same as tops at T = p / n, over n, n n and n n n

abbrev pub linear_top : ℤ → ℤ → ℤ → ℕ → ℤ
linear_top a b p n = (a *ℤ pos n) +ℤ (p *ℤ b)

abbrev pub quadratic_top : ℤ → ℤ → ℤ → ℤ → ℕ → ℤ
quadratic_top a b c p n = (a *ℤ pos (n * n)) +ℤ (p *ℤ linear_top b c p n)

abbrev pub cubic_top : ℤ → ℤ → ℤ → ℤ → ℤ → ℕ → ℤ
cubic_top a b c d p n = (a *ℤ pos (n * n * n)) +ℤ (p *ℤ quadratic_top b c d p n)

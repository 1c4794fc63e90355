-- Pi by Machin's formula, 16 arctan(1/5) - 4 arctan(1/239), from partial sums of the arctangent's series:
-- arctan(1/m) = 1/m - 1/(3 m^3) + 1/(5 m^5) - .. (J. Machin 1706; J. Gregory 1671).
use Rattle.std.specs.Prelude.{ℕ, zero, suc, ◌+◌, ◌*◌, ◌^◌, pos}
use Rattle.fixed_interval.specs.Fraction.{Fraction, over, plus, negate, times}
use Rattle.fixed_interval.specs.Enclosure.{Enclosure}
use Rattle.fixed_interval.specs.Grid.{Ends, DEPTH, rounded_out}

-- the magnitude of the series' term j for arctan(1/m)
unfoldable pub arctan_term : ℕ → ℕ → Fraction
arctan_term m j = over (pos 1) ((2 * j + 1) * m ^ (2 * j + 1))

-- the partial sum with 2n terms, by pairs: it lies below arctan(1/m)
unfoldable pub arctan_below : ℕ → ℕ → Fraction
arctan_below m zero = over (pos 0) 1
arctan_below m (suc n) = plus (arctan_below m n) (plus (arctan_term m (2 * n)) (negate (arctan_term m (2 * n + 1))))

-- the partial sum with 2n + 1 terms: it lies above arctan(1/m)
unfoldable pub arctan_above : ℕ → ℕ → Fraction
arctan_above m n = plus (arctan_below m n) (arctan_term m (2 * n))

-- 16 x - 4 y
unfoldable pub machin : Fraction → Fraction → Fraction
machin x y = plus (times x (over (pos 16) 1)) (negate (times y (over (pos 4) 1)))

-- pi at depth n
unfoldable pub pi : ℕ → Enclosure
pi n = record {
  lo = machin (arctan_below 5 n) (arctan_above 239 n);
  hi = machin (arctan_above 5 n) (arctan_below 239 n);
}

-- the grid's pi is rounded once
unfoldable pub grid_pi : Ends
grid_pi = rounded_out (pi DEPTH)

-- and these are its ends
abbrev pub pi_low : ℕ
pi_low = 226_375_608_064_910_088

abbrev pub pi_high : ℕ
pi_high = 226_375_608_064_910_089

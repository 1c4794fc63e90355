-- The series of Taylor for sine and cosine (B. Taylor 1715), summed to a depth:
-- sin x = x - x^3/3! + x^5/5! - .. and cos x = 1 - x^2/2! + x^4/4! - ..
-- Both go from a term to the next in one way: times -x^2, over the two whole numbers after the term's power of x.
-- So a series is given by its first term, that term's power, and the square of x.
use Rattle.std.specs.Prelude.{ℕ, zero, suc, ◌+◌, ◌*◌, pos}
use Rattle.fixed_interval.specs.Fraction.{over, negate, times}
use Rattle.fixed_interval.specs.Enclosure.{Enclosure, point, negated, sum, product, divide_by, magnitude}
use Rattle.fixed_interval.specs.Grid.{Ends, UNIT, DEPTH, enclosure_of, rounded_out, grid_negated, grid_sum, grid_product, grid_divide_by}

-- the two whole numbers after the power of term j, multiplied
abbrev pub divisor : ℕ → ℕ → ℕ
divisor power j = (2 * j + power + 1) * (2 * j + power + 2)

-- the term after t, where the two whole numbers multiply to n
unfoldable pub next_term : Enclosure → Enclosure → ℕ → Enclosure
next_term t square n = negated (divide_by (product t square) n)

-- term j
unfoldable pub term : ℕ → Enclosure → Enclosure → ℕ → Enclosure
term power first square zero = first
term power first square (suc j) = next_term (term power first square j) square (divisor power j)

-- the first n terms, added
unfoldable pub partial_sum : (ℕ → Enclosure) → ℕ → Enclosure
partial_sum terms zero = point (over (pos 0) 1)
partial_sum terms (suc n) = sum (partial_sum terms n) (terms n)

-- twice the greatest magnitude of a, either way
unfoldable pub margin : Enclosure → Enclosure
margin a = let more = times (magnitude a).hi (over (pos 2) 1) in record { lo = negate more; hi = more }

-- n terms, and twice the greatest magnitude of the next one either way
unfoldable pub series : (ℕ → Enclosure) → ℕ → Enclosure
series terms n = sum (partial_sum terms n) (margin (terms n))

-- the sine of x radians, by n terms
unfoldable pub sine_series : ℕ → Enclosure → Enclosure
sine_series n x = series (term 1 x (product x x)) n

-- the cosine of x radians, by n terms
unfoldable pub cosine_series : ℕ → Enclosure → Enclosure
cosine_series n x = series (term 0 (point (over (pos 1) 1)) (product x x)) n

-- ---- the same on the grid, by 12 terms

unfoldable pub next_grid_term : Ends → Ends → ℕ → Ends
next_grid_term t square n = grid_negated (grid_divide_by (grid_product t square) n)

unfoldable pub grid_term : ℕ → Ends → Ends → ℕ → Ends
grid_term power first square zero = first
grid_term power first square (suc j) = next_grid_term (grid_term power first square j) square (divisor power j)

unfoldable pub grid_partial_sum : (ℕ → Ends) → ℕ → Ends
grid_partial_sum terms zero = record { lo = pos 0; hi = pos 0 }
grid_partial_sum terms (suc n) = grid_sum (grid_partial_sum terms n) (terms n)

unfoldable pub grid_margin : Ends → Ends
grid_margin a = rounded_out (margin (enclosure_of a))

unfoldable pub grid_series : (ℕ → Ends) → ℕ → Ends
grid_series terms n = grid_sum (grid_partial_sum terms n) (grid_margin (terms n))

abbrev pub grid_one : Ends
grid_one = record { lo = pos UNIT; hi = pos UNIT }

unfoldable pub grid_sine_series : Ends → Ends
grid_sine_series x = grid_series (grid_term 1 x (grid_product x x)) DEPTH

unfoldable pub grid_cosine_series : Ends → Ends
grid_cosine_series x = grid_series (grid_term 0 grid_one (grid_product x x)) DEPTH

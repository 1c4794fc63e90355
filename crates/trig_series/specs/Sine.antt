-- Sine and cosine of a range of angles: each piece of the range, turned back by whole quarters, goes through a series,
-- and the answer is the hull over all pieces. Angles are in angle units.
use Rattle.std.specs.Prelude.{ℕ, zero, suc, ℤ, pos, ◌+ℤ◌, unsigned_abs}
use Rattle.std.specs.Int.{int_rem_euclid}
use Rattle.fixed_interval.specs.Enclosure.{Enclosure, negated, times_ratio}
use Rattle.fixed_interval.specs.Grid.{Ends, Range, grid_negated, grid_times_ratio}
use Rattle.trig_series.specs.Pi.{pi, grid_pi}
use Rattle.trig_series.specs.Series.{sine_series, cosine_series, grid_sine_series, grid_cosine_series}
use Rattle.trig_series.specs.Quarters.{half_turn, piece, over_quarters, grid_piece, grid_over_quarters}

-- the sine some quarters on from an angle with this sine and cosine
unfoldable pub quarters_on : ℕ → Enclosure → Enclosure → Enclosure
quarters_on zero sine cosine = sine
quarters_on (suc zero) sine cosine = cosine
quarters_on (suc (suc zero)) sine cosine = negated sine
quarters_on (suc (suc (suc _))) sine cosine = negated cosine

abbrev pub modulo_4 : ℤ → ℕ
modulo_4 c = unsigned_abs (int_rem_euclid c (pos 4))

-- the sine of c quarters and a piece of this many units, at depth n
unfoldable pub sine_beyond : ℕ → ℤ → Enclosure → Enclosure
sine_beyond n c angle = let x = times_ratio (pi n) angle half_turn in quarters_on (modulo_4 c) (sine_series n x) (cosine_series n x)

-- the sine of a range of angles at depth n
unfoldable pub sine : ℕ → Enclosure → Enclosure
sine n range = over_quarters (λ c. sine_beyond n c (piece range c)) range

-- and the cosine, which is the sine one quarter on
unfoldable pub cosine : ℕ → Enclosure → Enclosure
cosine n range = over_quarters (λ c. sine_beyond n (c +ℤ pos 1) (piece range c)) range

-- ---- the same on the grid

unfoldable pub grid_quarters_on : ℕ → Ends → Ends → Ends
grid_quarters_on zero sine cosine = sine
grid_quarters_on (suc zero) sine cosine = cosine
grid_quarters_on (suc (suc zero)) sine cosine = grid_negated sine
grid_quarters_on (suc (suc (suc _))) sine cosine = grid_negated cosine

unfoldable pub grid_sine_beyond : ℤ → Range → Ends
grid_sine_beyond c angle = let x = grid_times_ratio grid_pi angle half_turn in grid_quarters_on (modulo_4 c) (grid_sine_series x) (grid_cosine_series x)

unfoldable pub grid_sine : Range → Ends
grid_sine range = grid_over_quarters (λ c. grid_sine_beyond c (grid_piece range c)) range

unfoldable pub grid_cosine : Range → Ends
grid_cosine range = grid_over_quarters (λ c. grid_sine_beyond (c +ℤ pos 1) (grid_piece range c)) range

-- Sine and cosine keep order: what lies in a range has its sine in the range's sine, exact, on the grid, and from one to the other.
use Rattle.std.proofs.Common.{ℕ, zero, suc, ℤ, pos, ◌+ℤ◌, ◌≤ℤ◌}
use Rattle.fixed_interval.specs.Fraction.{over}
use Rattle.fixed_interval.specs.Enclosure.{Enclosure, IsOrdered, LiesIn, times_ratio}
use Rattle.fixed_interval.specs.Grid.{Ends, Range, DEPTH, enclosure_of, enclosure_of_range, grid_times_ratio}
use Rattle.fixed_interval.proofs.EnclosureLaws.{LiesIn_refl, negated_mono, negated_ordered, times_ratio_mono, times_ratio_ordered}
use Rattle.fixed_interval.proofs.Inclusion.{negated_holds, grid_negated_mono, grid_negated_ordered, times_ratio_holds, grid_times_ratio_mono, grid_times_ratio_ordered}
use Rattle.trig_series.specs.Pi.{pi, grid_pi}
use Rattle.trig_series.specs.Quarters.{half_turn, first_quarter, piece, grid_piece}
use Rattle.trig_series.specs.Sine.{modulo_4, quarters_on, sine_beyond, sine, cosine, grid_quarters_on, grid_sine_beyond, grid_sine, grid_cosine}
use Rattle.trig_series.proofs.QuarterLaws.{first_before_last}
use Rattle.trig_series.proofs.PiLaws.{pi_ordered, pi_holds, grid_pi_ordered}
use Rattle.trig_series.proofs.ExactQuarters.{piece_mono, piece_ordered, first_not_after_last, over_quarters_mono, over_quarters_ordered}
use Rattle.trig_series.proofs.GridQuarters.{piece_holds, grid_piece_mono, grid_piece_ordered, over_quarters_held, grid_over_quarters_mono, grid_over_quarters_ordered}
use Rattle.trig_series.proofs.SeriesLaws.{sine_series_ordered, cosine_series_ordered, sine_series_mono, cosine_series_mono, grid_sine_series_ordered, grid_cosine_series_ordered, grid_sine_series_mono, grid_cosine_series_mono, sine_series_holds, cosine_series_holds}

-- ---- turns by whole quarters
pub quarters_on_mono : (m : ℕ) (s k t l : Enclosure) → LiesIn s t → LiesIn k l → LiesIn (quarters_on m s k) (quarters_on m t l)
unfolding quarters_on
quarters_on_mono zero s k t l g h = g
quarters_on_mono (suc zero) s k t l g h = h
quarters_on_mono (suc (suc zero)) s k t l g h = negated_mono s t g
quarters_on_mono (suc (suc (suc m))) s k t l g h = negated_mono k l h

quarters_on_ordered : (m : ℕ) (s k : Enclosure) → IsOrdered s → IsOrdered k → IsOrdered (quarters_on m s k)
unfolding quarters_on
quarters_on_ordered zero s k g h = g
quarters_on_ordered (suc zero) s k g h = h
quarters_on_ordered (suc (suc zero)) s k g h = negated_ordered s g
quarters_on_ordered (suc (suc (suc m))) s k g h = negated_ordered k h

grid_quarters_on_mono : (m : ℕ) (s k t l : Ends) → LiesIn (enclosure_of s) (enclosure_of t) → LiesIn (enclosure_of k) (enclosure_of l) → LiesIn (enclosure_of (grid_quarters_on m s k)) (enclosure_of (grid_quarters_on m t l))
unfolding grid_quarters_on
grid_quarters_on_mono zero s k t l g h = g
grid_quarters_on_mono (suc zero) s k t l g h = h
grid_quarters_on_mono (suc (suc zero)) s k t l g h = grid_negated_mono s t g
grid_quarters_on_mono (suc (suc (suc m))) s k t l g h = grid_negated_mono k l h

grid_quarters_on_ordered : (m : ℕ) (s k : Ends) → IsOrdered (enclosure_of s) → IsOrdered (enclosure_of k) → IsOrdered (enclosure_of (grid_quarters_on m s k))
unfolding grid_quarters_on
grid_quarters_on_ordered zero s k g h = g
grid_quarters_on_ordered (suc zero) s k g h = h
grid_quarters_on_ordered (suc (suc zero)) s k g h = grid_negated_ordered s g
grid_quarters_on_ordered (suc (suc (suc m))) s k g h = grid_negated_ordered k h

quarters_on_holds : (m : ℕ) (s k : Enclosure) (t l : Ends) → LiesIn s (enclosure_of t) → LiesIn k (enclosure_of l) → LiesIn (quarters_on m s k) (enclosure_of (grid_quarters_on m t l))
unfolding quarters_on grid_quarters_on
quarters_on_holds zero s k t l g h = g
quarters_on_holds (suc zero) s k t l g h = h
quarters_on_holds (suc (suc zero)) s k t l g h = negated_holds s t g
quarters_on_holds (suc (suc (suc m))) s k t l g h = negated_holds k l h

-- ---- a piece
pub sine_beyond_mono : (n : ℕ) (c : ℤ) (a b : Enclosure) → IsOrdered a → LiesIn a b → LiesIn (sine_beyond n c a) (sine_beyond n c b)
unfolding sine_beyond
sine_beyond_mono n c a b o h =
    let x = times_ratio (pi n) a half_turn in
    let y = times_ratio (pi n) b half_turn in
    let ordered = times_ratio_ordered half_turn (pi n) a in
    let within = times_ratio_mono half_turn (pi n) a (pi n) b (pi_ordered n) o (LiesIn_refl (pi n)) h in
    quarters_on_mono (modulo_4 c) _ _ _ _ (sine_series_mono n x y ordered within) (cosine_series_mono n x y ordered within)

pub sine_beyond_ordered : (n : ℕ) (c : ℤ) (a : Enclosure) → IsOrdered (sine_beyond n c a)
unfolding sine_beyond
sine_beyond_ordered n c a =
    let x = times_ratio (pi n) a half_turn in
    quarters_on_ordered (modulo_4 c) _ _ (sine_series_ordered n x (times_ratio_ordered half_turn (pi n) a)) (cosine_series_ordered n x)

pub grid_sine_beyond_mono : (c : ℤ) (r s : Range) → IsOrdered (enclosure_of_range r) → LiesIn (enclosure_of_range r) (enclosure_of_range s) → LiesIn (enclosure_of (grid_sine_beyond c r)) (enclosure_of (grid_sine_beyond c s))
unfolding grid_sine_beyond
grid_sine_beyond_mono c r s o h =
    let x = grid_times_ratio grid_pi r half_turn in
    let y = grid_times_ratio grid_pi s half_turn in
    let ordered = grid_times_ratio_ordered half_turn grid_pi r in
    let within = grid_times_ratio_mono half_turn grid_pi grid_pi r s grid_pi_ordered o (LiesIn_refl (enclosure_of grid_pi)) h in
    grid_quarters_on_mono (modulo_4 c) _ _ _ _ (grid_sine_series_mono x y ordered within) (grid_cosine_series_mono x y ordered within)

pub grid_sine_beyond_ordered : (c : ℤ) (r : Range) → IsOrdered (enclosure_of (grid_sine_beyond c r))
unfolding grid_sine_beyond
grid_sine_beyond_ordered c r =
    let x = grid_times_ratio grid_pi r half_turn in
    grid_quarters_on_ordered (modulo_4 c) _ _ (grid_sine_series_ordered x (grid_times_ratio_ordered half_turn grid_pi r)) (grid_cosine_series_ordered x)

pub sine_beyond_holds : (c : ℤ) (a : Enclosure) (r : Range) → IsOrdered a → LiesIn a (enclosure_of_range r) → LiesIn (sine_beyond DEPTH c a) (enclosure_of (grid_sine_beyond c r))
unfolding sine_beyond grid_sine_beyond
sine_beyond_holds c a r o h =
    let x = times_ratio (pi DEPTH) a half_turn in
    let y = grid_times_ratio grid_pi r half_turn in
    let ordered = times_ratio_ordered half_turn (pi DEPTH) a in
    let within = times_ratio_holds half_turn (pi DEPTH) a grid_pi r (pi_ordered DEPTH) o pi_holds h in
    quarters_on_holds (modulo_4 c) _ _ _ _ (sine_series_holds x y ordered within) (cosine_series_holds x y ordered within)

-- ---- a range
pub sine_mono : (n : ℕ) (a b : Enclosure) → IsOrdered a → LiesIn a b → LiesIn (sine n a) (sine n b)
unfolding sine
sine_mono n a b o h = over_quarters_mono (λ c. sine_beyond n c (piece a c)) (λ c. sine_beyond n c (piece b c)) a b (first_not_after_last a.lo a.hi o.ordered) h (λ d s t. sine_beyond_mono n d (piece a d) (piece b d) (piece_ordered a d o s t) (piece_mono a b d h))

pub cosine_mono : (n : ℕ) (a b : Enclosure) → IsOrdered a → LiesIn a b → LiesIn (cosine n a) (cosine n b)
unfolding cosine
cosine_mono n a b o h = over_quarters_mono (λ c. sine_beyond n (c +ℤ pos 1) (piece a c)) (λ c. sine_beyond n (c +ℤ pos 1) (piece b c)) a b (first_not_after_last a.lo a.hi o.ordered) h (λ d s t. sine_beyond_mono n (d +ℤ pos 1) (piece a d) (piece b d) (piece_ordered a d o s t) (piece_mono a b d h))

pub sine_ordered : (n : ℕ) (a : Enclosure) → IsOrdered a → IsOrdered (sine n a)
unfolding sine
sine_ordered n a o = over_quarters_ordered (λ c. sine_beyond n c (piece a c)) a (λ d s t. sine_beyond_ordered n d (piece a d)) (first_not_after_last a.lo a.hi o.ordered)

pub cosine_ordered : (n : ℕ) (a : Enclosure) → IsOrdered a → IsOrdered (cosine n a)
unfolding cosine
cosine_ordered n a o = over_quarters_ordered (λ c. sine_beyond n (c +ℤ pos 1) (piece a c)) a (λ d s t. sine_beyond_ordered n (d +ℤ pos 1) (piece a d)) (first_not_after_last a.lo a.hi o.ordered)

pub sine_holds : (a : Enclosure) (r : Range) → IsOrdered a → LiesIn a (enclosure_of_range r) → LiesIn (sine DEPTH a) (enclosure_of (grid_sine r))
unfolding sine grid_sine
sine_holds a r o h = over_quarters_held (λ c. sine_beyond DEPTH c (piece a c)) (λ c. grid_sine_beyond c (grid_piece r c)) a r (first_not_after_last a.lo a.hi o.ordered) h (λ d s t. sine_beyond_holds d (piece a d) (grid_piece r d) (piece_ordered a d o s t) (piece_holds a r d h))

pub cosine_holds : (a : Enclosure) (r : Range) → IsOrdered a → LiesIn a (enclosure_of_range r) → LiesIn (cosine DEPTH a) (enclosure_of (grid_cosine r))
unfolding cosine grid_cosine
cosine_holds a r o h = over_quarters_held (λ c. sine_beyond DEPTH (c +ℤ pos 1) (piece a c)) (λ c. grid_sine_beyond (c +ℤ pos 1) (grid_piece r c)) a r (first_not_after_last a.lo a.hi o.ordered) h (λ d s t. sine_beyond_holds (d +ℤ pos 1) (piece a d) (grid_piece r d) (piece_ordered a d o s t) (piece_holds a r d h))

pub grid_sine_mono : (r s : Range) → r.lo ≤ℤ r.hi → LiesIn (enclosure_of_range r) (enclosure_of_range s) → LiesIn (enclosure_of (grid_sine r)) (enclosure_of (grid_sine s))
unfolding grid_sine
grid_sine_mono r s o h = grid_over_quarters_mono (λ c. grid_sine_beyond c (grid_piece r c)) (λ c. grid_sine_beyond c (grid_piece s c)) r s (first_before_last r.lo r.hi o) h (λ d t u. grid_sine_beyond_mono d (grid_piece r d) (grid_piece s d) (grid_piece_ordered r d o t u) (grid_piece_mono r s d h))

pub grid_cosine_mono : (r s : Range) → r.lo ≤ℤ r.hi → LiesIn (enclosure_of_range r) (enclosure_of_range s) → LiesIn (enclosure_of (grid_cosine r)) (enclosure_of (grid_cosine s))
unfolding grid_cosine
grid_cosine_mono r s o h = grid_over_quarters_mono (λ c. grid_sine_beyond (c +ℤ pos 1) (grid_piece r c)) (λ c. grid_sine_beyond (c +ℤ pos 1) (grid_piece s c)) r s (first_before_last r.lo r.hi o) h (λ d t u. grid_sine_beyond_mono (d +ℤ pos 1) (grid_piece r d) (grid_piece s d) (grid_piece_ordered r d o t u) (grid_piece_mono r s d h))

pub grid_sine_ordered : (r : Range) → IsOrdered (enclosure_of (grid_sine r))
unfolding grid_sine
grid_sine_ordered r = grid_over_quarters_ordered (λ c. grid_sine_beyond c (grid_piece r c)) r (grid_sine_beyond_ordered (first_quarter (over r.lo 1)) (grid_piece r (first_quarter (over r.lo 1))))

pub grid_cosine_ordered : (r : Range) → IsOrdered (enclosure_of (grid_cosine r))
unfolding grid_cosine
grid_cosine_ordered r = grid_over_quarters_ordered (λ c. grid_sine_beyond (c +ℤ pos 1) (grid_piece r c)) r (grid_sine_beyond_ordered (first_quarter (over r.lo 1) +ℤ pos 1) (grid_piece r (first_quarter (over r.lo 1))))

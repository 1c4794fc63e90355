-- Sine and cosine on the grid, one quarter at a time.
use Rattle.std.proofs.Common.{◌≡◌, ℕ, suc, ℤ, pos, ◌+ℤ◌, ◌≤ℤ◌, ◌+◌, ◌*◌, ◌%◌, refl, lit≤, ap, ap₂, ◌∙◌, sym, unsigned_abs, arith}
use Rattle.std.specs.Int.{int_rem_euclid, int_gap}
use Rattle.std.proofs.lemmas.Int.{ints, int_rem_euclid_is}
use Rattle.fixed_interval.specs.Grid.{Ends, Range, grid_hull, grid_times_ratio}
use Rattle.trig_series.specs.Pi.{grid_pi}
use Rattle.trig_series.specs.Quarters.{half_turn, grid_hull_from}
use Rattle.trig_series.specs.Series.{grid_sine_series, grid_cosine_series}
use Rattle.trig_series.specs.Sine.{modulo_4, grid_quarters_on, grid_sine_beyond}
use Rattle.trig_series.proofs.QuarterLaws.{int_gap-is, int_gap-next, int_gap-same}

-- the remainder picks what a turn by whole quarters gives
pub turned : (n : ℕ) (c r : ℤ) (s k : Ends) → r ≡ int_rem_euclid c (pos 4) → r ≡ pos n → grid_quarters_on n s k ≡ grid_quarters_on (modulo_4 c) s k
turned n c r s k e h = ap (λ (m : ℕ). grid_quarters_on m s k) (ap unsigned_abs (sym h ∙ e))

-- and what one quarter more gives
rem_next : (c : ℤ) (n : ℕ) → int_rem_euclid c (pos 4) ≡ pos n → int_rem_euclid (c +ℤ pos 1) (pos 4) ≡ pos ((n + 1) % 4)
rem_next c n e =
    let k = unsigned_abs c + 1 in
    let m = unsigned_abs (c +ℤ pos (k * 4)) in
    let whole : c +ℤ pos (k * 4) ≡ pos m = omega (arith, ints) in
    let more : (c +ℤ pos 1) +ℤ pos (k * 4) ≡ pos (m + 1) = omega (arith, ints, whole) in
    let rest : n ≡ m % 4 = ap unsigned_abs (sym e ∙ int_rem_euclid_is c (pos 4) 4 k m (lit≤ tt) refl whole) in
    let next : (m + 1) % 4 ≡ (n + 1) % 4 = omega (arith, rest) in
    int_rem_euclid_is (c +ℤ pos 1) (pos 4) 4 k (m + 1) (lit≤ tt) refl more ∙ ap pos next

pub turned_next : (n m : ℕ) (c r : ℤ) (s k : Ends) → r ≡ int_rem_euclid c (pos 4) → r ≡ pos n → m ≡ (n + 1) % 4 → grid_quarters_on m s k ≡ grid_quarters_on (modulo_4 (c +ℤ pos 1)) s k
turned_next n m c r s k e h l = turned m (c +ℤ pos 1) (pos m) s k (ap pos l ∙ sym (rem_next c n (sym e ∙ h))) refl

pub beyond : (c : ℤ) (angle : Range) (x : Ends) → x ≡ grid_times_ratio grid_pi angle half_turn → grid_quarters_on (modulo_4 c) (grid_sine_series x) (grid_cosine_series x) ≡ grid_sine_beyond c angle
unfolding grid_sine_beyond
beyond c angle x e = ap (λ (y : Ends). grid_quarters_on (modulo_4 c) (grid_sine_series y) (grid_cosine_series y)) e

pub hull_step : (f : ℤ → Ends) (first c : ℤ) (all : Ends) → first ≤ℤ c → all ≡ grid_hull_from f first (int_gap first c) → grid_hull all (f (c +ℤ pos 1)) ≡ grid_hull_from f first (int_gap first (c +ℤ pos 1))
unfolding grid_hull_from
hull_step f first c all h e =
    let here : c +ℤ pos 1 ≡ first +ℤ pos (suc (int_gap first c)) = omega (arith, ints, int_gap-is first c h) in
    rw (int_gap-next first c h) (ap₂ grid_hull e (ap f here))

pub hull_start : (f : ℤ → Ends) (first c : ℤ) (all : Ends) → c ≡ first → all ≡ f c → all ≡ grid_hull_from f first (int_gap first c)
unfolding grid_hull_from
hull_start f first c all h e = e ∙ ap f h ∙ sym (ap (λ (n : ℕ). grid_hull_from f first n) (ap (int_gap first) h ∙ int_gap-same first))

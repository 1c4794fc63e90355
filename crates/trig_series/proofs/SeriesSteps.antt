-- A series on the grid, one term at a time.
use Rattle.std.proofs.Common.{◌≡◌, ℕ, ◌+◌, ap, ap₂, sym, ◌∙◌, add-one, arith}
use Rattle.fixed_interval.specs.Grid.{Ends, grid_negated, grid_sum, grid_difference, grid_product, grid_divide_by}
use Rattle.trig_series.specs.Series.{divisor, next_grid_term, grid_term, grid_partial_sum, grid_margin, grid_series}
use Rattle.trig_series.proofs.Mirrored.{difference_is, next_negated}

pub term_step : (power j : ℕ) (first square t : Ends) → t ≡ grid_term power first square j → next_grid_term t square (divisor power j) ≡ grid_term power first square (j + 1)
unfolding grid_term
term_step power j first square t e = rw (add-one j) (ap (λ (x : Ends). next_grid_term x square (divisor power j)) e)

pub sum_step : (terms : ℕ → Ends) (j : ℕ) (total t : Ends) → total ≡ grid_partial_sum terms j → t ≡ terms j → grid_sum total t ≡ grid_partial_sum terms (j + 1)
unfolding grid_partial_sum
sum_step terms j total t e d = rw (add-one j) (ap₂ grid_sum e d)

pub series_end : (terms : ℕ → Ends) (j n : ℕ) (total t : Ends) → j ≡ n → total ≡ grid_partial_sum terms j → t ≡ terms j → grid_sum total (grid_margin t) ≡ grid_series terms n
unfolding grid_series
series_end terms j n total t k e d = ap₂ grid_sum e (ap grid_margin d) ∙ ap (λ (m : ℕ). grid_sum (grid_partial_sum terms m) (grid_margin (terms m))) k

-- ---- two terms at a time, where the first of them is of one sign
pub taken_step : (power j : ℕ) (first square t r : Ends) → r ≡ grid_divide_by (grid_product t square) (divisor power j) → t ≡ grid_term power first square j → grid_negated r ≡ grid_term power first square (j + 1)
unfolding next_grid_term
taken_step power j first square t r e d = ap grid_negated e ∙ term_step power j first square t d

pub added_step : (power j : ℕ) (first square t r : Ends) → r ≡ grid_divide_by (grid_product t square) (divisor power j) → grid_negated t ≡ grid_term power first square j → r ≡ grid_term power first square (j + 1)
added_step power j first square t r e d = e ∙ sym (next_negated t square (divisor power j) (omega arith)) ∙ term_step power j first square (grid_negated t) d

pub difference_step : (terms : ℕ → Ends) (j : ℕ) (total t : Ends) → total ≡ grid_partial_sum terms j → grid_negated t ≡ terms j → grid_difference total t ≡ grid_partial_sum terms (j + 1)
difference_step terms j total t e d = difference_is total t ∙ sum_step terms j total (grid_negated t) e d

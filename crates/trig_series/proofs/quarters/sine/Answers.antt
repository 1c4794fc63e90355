use Rattle.std.proofs.Common.{◌≡◌, ◌∙◌, ap, ℤ, pos, ◌+ℤ◌, arith}
use Rattle.std.proofs.lemmas.Int.{ints}
use Rattle.fixed_interval.specs.Grid.{Ends}
use Rattle.trig_series.specs.Angle.{range_of}
use Rattle.trig_series.specs.Quarters.{grid_piece, grid_over_quarters}
use Rattle.trig_series.specs.Sine.{grid_sine, grid_sine_beyond}
use Rattle.trig_series.proofs.quarters.sine.Goals as goal

none_ahead : (c : ℤ) → c +ℤ pos 0 ≡ c
none_ahead c = omega (arith, ints)

pub returns-clause-value : goal.returns-clause-value
unfolding grid_sine
returns-clause-value c = c.over_quarters.ensures.value ∙ ap (λ (f : ℤ → Ends). grid_over_quarters f (range_of c.args.a)) (λ i q. grid_sine_beyond (none_ahead q i) (grid_piece (range_of c.args.a) q))

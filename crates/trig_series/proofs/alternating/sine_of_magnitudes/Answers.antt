use Rattle.std.proofs.Common.{ap, ◌∙◌}
use Rattle.fixed_interval.specs.Grid.{Ends, DEPTH}
use Rattle.trig_series.specs.Magnitudes.{ends_of}
use Rattle.trig_series.specs.Series.{grid_term, grid_series, grid_sine_series}
use Rattle.trig_series.proofs.alternating.sine_of_magnitudes.Goals as goal

pub returns-clause-value : goal.returns-clause-value
unfolding grid_sine_series
returns-clause-value c = c.series.ensures.value ∙ ap (λ (y : Ends). grid_series (grid_term 1 (ends_of c.args.x) y) DEPTH) c.product.ensures

use Rattle.std.proofs.Common.{ap, ◌∙◌}
use Rattle.fixed_interval.specs.Grid.{Ends}
use Rattle.fixed_interval.specs.Interval.{ends}
use Rattle.trig_series.specs.Series.{grid_term, grid_series, grid_sine_series}
use Rattle.trig_series.proofs.series.sine_series.Goals as goal

pub returns-clause-value : goal.returns-clause-value
unfolding grid_sine_series
returns-clause-value c = c.series.ensures.value ∙ ap (λ (y : Ends). grid_series (grid_term 1 (ends c.args.x) y) 12) c.product.ensures.value

use Rattle.std.proofs.Common.{ap₂, ◌∙◌}
use Rattle.fixed_interval.specs.Grid.{Ends, DEPTH}
use Rattle.trig_series.specs.Series.{grid_term, grid_series, grid_cosine_series}
use Rattle.trig_series.proofs.alternating.cosine_of_magnitudes.Goals as goal

pub returns-clause-value : goal.returns-clause-value
unfolding grid_cosine_series
returns-clause-value c = c.series.ensures.value ∙ ap₂ (λ (x y : Ends). grid_series (grid_term 0 x y) DEPTH) c.one.ensures c.product.ensures

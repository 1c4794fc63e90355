use Rattle.std.proofs.Common.{ap, ap₂, ◌∙◌}
use Rattle.fixed_interval.specs.Grid.{Ends, DEPTH}
use Rattle.trig_series.specs.Magnitudes.{ends_of}
use Rattle.trig_series.specs.Series.{grid_term, grid_series, grid_sine_series, grid_cosine_series}
use Rattle.trig_series.proofs.alternating.both_of_magnitudes.Goals as goal

pub returns-clause-sine : goal.returns-clause-sine
unfolding grid_sine_series
returns-clause-sine c = c.series.ensures.value ∙ ap (λ (y : Ends). grid_series (grid_term 1 (ends_of c.args.x) y) DEPTH) c.product-square.ensures

pub returns-clause-cosine : goal.returns-clause-cosine
unfolding grid_cosine_series
returns-clause-cosine c = c.series-2.ensures.value ∙ ap₂ (λ (x y : Ends). grid_series (grid_term 0 x y) DEPTH) c.one.ensures c.product-square.ensures

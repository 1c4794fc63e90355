use Rattle.std.proofs.Common.{ap, ◌∙◌}
use Rattle.fixed_interval.specs.Grid.{Ends, grid_negated, grid_divide_by}
use Rattle.trig_series.specs.Series.{next_grid_term}
use Rattle.trig_series.proofs.series.next_term.Goals as goal

pub returns-clause-value : goal.returns-clause-value
unfolding next_grid_term
returns-clause-value c = c.negated.ensures.value ∙ ap grid_negated (c.divide_by.ensures.value ∙ ap (λ (x : Ends). grid_divide_by x c.args.divisor) c.product.ensures.value)

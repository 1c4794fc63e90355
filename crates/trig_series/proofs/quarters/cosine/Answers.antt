use Rattle.trig_series.specs.Sine.{grid_cosine}
use Rattle.trig_series.proofs.quarters.cosine.Goals as goal

pub returns-clause-value : goal.returns-clause-value
unfolding grid_cosine
returns-clause-value c = c.over_quarters.ensures.value

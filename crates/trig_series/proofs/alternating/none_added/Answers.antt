use Rattle.std.proofs.Common.{refl, ap, arith}
use Rattle.fixed_interval.specs.Grid.{reach}
use Rattle.trig_series.specs.Series.{grid_term, grid_partial_sum}
use Rattle.trig_series.proofs.alternating.none_added.Goals as goal

pub returns : goal.returns
unfolding grid_term grid_partial_sum
returns c power square = record { total = c.zero.ensures; total_small = omega (arith, ap reach c.zero.ensures); next = refl }

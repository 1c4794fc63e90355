use Rattle.trig_series.proofs.PiLaws.{pi_ordered, grid_pi_ordered}
use Rattle.trig_series.proofs.SineLaws.{sine_ordered, cosine_ordered, grid_sine_ordered, grid_cosine_ordered}
use Rattle.trig_series.proofs.laws.sines_are_ordered.Goals as goal

pub returns : goal.returns
returns c = record { of_pi = pi_ordered; of_sine = sine_ordered; of_cosine = cosine_ordered; of_grid_pi = grid_pi_ordered; of_grid_sine = grid_sine_ordered; of_grid_cosine = grid_cosine_ordered }

use Rattle.trig_series.proofs.PieceWidths.{pi_bounded}
use Rattle.trig_series.proofs.SineWidths.{reach-grid_sine, reach-grid_cosine, grid_sine_narrow, grid_cosine_narrow, grid_sine_smallest, grid_cosine_smallest}
use Rattle.trig_series.proofs.laws.sines_are_bounded.Goals as goal

pub returns : goal.returns
returns c = record {
  of_pi = pi_bounded;
  of_any_sine = reach-grid_sine;
  of_any_cosine = reach-grid_cosine;
  of_sine = grid_sine_narrow;
  of_cosine = grid_cosine_narrow;
  of_smallest_sine = grid_sine_smallest;
  of_smallest_cosine = grid_cosine_smallest;
}

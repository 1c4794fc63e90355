use Rattle.trig_series.proofs.SeriesLaws.{grid_sine_series_mono, grid_cosine_series_mono}
use Rattle.trig_series.proofs.SineLaws.{grid_sine_mono, grid_cosine_mono}
use Rattle.trig_series.proofs.laws.grid_sines_are_monotone.Goals as goal

pub returns : goal.returns
returns c = record { of_sine_series = grid_sine_series_mono; of_cosine_series = grid_cosine_series_mono; of_sine = grid_sine_mono; of_cosine = grid_cosine_mono }

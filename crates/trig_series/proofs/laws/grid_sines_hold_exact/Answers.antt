use Rattle.trig_series.proofs.PiLaws.{pi_holds}
use Rattle.trig_series.proofs.SeriesLaws.{sine_series_holds, cosine_series_holds}
use Rattle.trig_series.proofs.SineLaws.{sine_holds, cosine_holds}
use Rattle.trig_series.proofs.laws.grid_sines_hold_exact.Goals as goal

pub returns : goal.returns
returns c = record { of_pi = pi_holds; of_sine_series = sine_series_holds; of_cosine_series = cosine_series_holds; of_sine = sine_holds; of_cosine = cosine_holds }

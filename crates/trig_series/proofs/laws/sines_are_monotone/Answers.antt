use Rattle.trig_series.proofs.SeriesLaws.{sine_series_mono, cosine_series_mono}
use Rattle.trig_series.proofs.SineLaws.{sine_mono, cosine_mono}
use Rattle.trig_series.proofs.laws.sines_are_monotone.Goals as goal

pub returns : goal.returns
returns c = record { of_sine_series = sine_series_mono; of_cosine_series = cosine_series_mono; of_sine = sine_mono; of_cosine = cosine_mono }

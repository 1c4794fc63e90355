use Rattle.trig_series.proofs.PiLaws.{pi_nests}
use Rattle.trig_series.proofs.SineNesting.{sine_nests, cosine_nests}
use Rattle.trig_series.proofs.laws.sines_nest.Goals as goal

pub returns : goal.returns
returns c = record { of_pi = pi_nests; of_sine = sine_nests; of_cosine = cosine_nests }

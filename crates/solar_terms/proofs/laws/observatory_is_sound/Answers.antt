use Rattle.solar_terms.proofs.SunLaws.{observatory_is_sound}
use Rattle.solar_terms.proofs.laws.observatory_is_sound.Goals as goal

pub returns : goal.returns
returns c = observatory_is_sound

use Rattle.meeus_terms.proofs.SunLaws.{suns_are_sound}
use Rattle.meeus_terms.proofs.laws.suns_are_sound.Goals as goal

pub returns : goal.returns
returns c = suns_are_sound

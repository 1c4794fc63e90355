use Rattle.meeus_terms.proofs.MeeusLaws.{meeus_is_sound}
use Rattle.meeus_terms.proofs.laws.meeus_is_sound.Goals as goal

pub returns : goal.returns
returns c = meeus_is_sound

-- Each sun that can be chosen is sound, by the laws of its own crate.
use Rattle.solar_terms.proofs.SunLaws.{observatory_is_sound}
use Rattle.solar_terms.proofs.SunWidths.{observatory_is_narrow}
use Rattle.meeus_terms.proofs.MeeusLaws.{meeus_is_sound}
use Rattle.meeus_terms.proofs.MeeusWidths.{meeus_is_narrow}
use Rattle.method_table.specs.declared.sun.SunChoice.TheVariants.{Usno, Meeus}
use Rattle.meeus_terms.specs.Suns.{SunsAreSound}

pub suns_are_sound : SunsAreSound
suns_are_sound Usno = record { source = observatory_is_sound.source; holds = observatory_is_sound.grid; narrow = observatory_is_narrow }
suns_are_sound Meeus = record { source = meeus_is_sound.source; holds = meeus_is_sound.grid; narrow = meeus_is_narrow }

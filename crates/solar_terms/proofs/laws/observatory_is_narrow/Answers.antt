use Rattle.solar_terms.proofs.SunWidths.{observatory_is_narrow}
use Rattle.solar_terms.proofs.laws.observatory_is_narrow.Goals as goal

pub returns : goal.returns
returns c = observatory_is_narrow

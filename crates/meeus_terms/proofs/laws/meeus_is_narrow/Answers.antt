use Rattle.meeus_terms.proofs.MeeusWidths.{meeus_is_narrow}
use Rattle.meeus_terms.proofs.laws.meeus_is_narrow.Goals as goal

pub returns : goal.returns
returns c = meeus_is_narrow

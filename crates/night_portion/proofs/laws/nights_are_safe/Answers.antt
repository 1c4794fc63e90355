use Rattle.night_portion.proofs.SafeLemmas.{nights_are_safe}
use Rattle.night_portion.proofs.laws.nights_are_safe.Goals as goal

pub returns : goal.returns
returns c = nights_are_safe

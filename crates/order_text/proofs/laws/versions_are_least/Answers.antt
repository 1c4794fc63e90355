use Rattle.order_text.proofs.VersionLemmas.{versions_are_least}
use Rattle.order_text.proofs.laws.versions_are_least.Goals as goal

pub returns : goal.returns
returns c = versions_are_least

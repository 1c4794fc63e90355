use Rattle.border_laws.proofs.laws.held_borders_are_safe.Goals as goal
use Rattle.border_laws.proofs.HeldLemmas.{held_safe}

pub returns : goal.returns
returns c = held_safe

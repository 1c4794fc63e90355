use Rattle.border_laws.proofs.laws.held_borders_have_no_place_outside.Goals as goal
use Rattle.border_laws.proofs.HeldLemmas.{held_within}

pub returns : goal.returns
returns c = held_within

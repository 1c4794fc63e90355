use Rattle.meeus_terms.proofs.LineLaws.{held_within}
use Rattle.meeus_terms.proofs.laws.minutes_are_themselves.Goals as goal

pub returns : goal.returns
returns c = held_within

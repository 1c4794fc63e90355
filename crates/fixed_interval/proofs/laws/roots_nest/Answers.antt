-- A grid that is 256 times finer rounds no further out.
use Rattle.fixed_interval.proofs.EnclosureLaws.{root_nested}
use Rattle.fixed_interval.proofs.laws.roots_nest.Goals as goal

pub returns : goal.returns
returns c = root_nested

use Rattle.covering.proofs.Spelling.{letters-step}
use Rattle.covering.proofs.laws.letters_are_those_of_the_children.Goals as goal

pub returns : goal.returns
returns c = letters-step

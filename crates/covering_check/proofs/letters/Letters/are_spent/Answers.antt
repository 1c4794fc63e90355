use Rattle.covering_check.specs.Left.{most_digits}
use Rattle.covering_check.proofs.Reading.{spent_at}
use Rattle.covering_check.proofs.letters.Letters.are_spent.Goals as goal

pub returns-then-self-eq0 : goal.returns-then-self-eq0
returns-then-self-eq0 c = rw c.if-self-eq0.true (spent_at (most_digits c.args.self.now.form) c.args.self.now.at c.args.self.now.text.now)

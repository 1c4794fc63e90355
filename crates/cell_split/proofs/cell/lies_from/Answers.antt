use Rattle.std.proofs.Common.{arith}
use Rattle.std.proofs.lemmas.Int.{ints}
use Rattle.cell_split.proofs.cell.lies_from.Goals as goal

pub returns-then-start-number : goal.returns-then-start-number
returns-then-start-number c =
    (λ h. (grind (arith, ints, h), grind (arith, ints, h)), λ h. grind (arith, ints, h))

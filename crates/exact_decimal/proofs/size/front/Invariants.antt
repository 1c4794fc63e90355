use Rattle.std.proofs.Common.{◌≡◌}
use Rattle.exact_decimal.specs.Digits.{leading}
use Rattle.exact_decimal.proofs.size.front.Given as goal

abbrev pub invariant-loop-place : goal.invariant-loop-place
invariant-loop-place l = l.value ≡ leading l.digits l.place

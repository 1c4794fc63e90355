use Rattle.std.proofs.Common.{◌≡◌, ◌^◌, take, min}
use Rattle.std.specs.Int.Digits.{number_from_digits}
use Rattle.exact_decimal.proofs.held.value_at_most.Given as goal

abbrev pub invariant-loop-digit : goal.invariant-loop-digit
invariant-loop-digit l = l.value ≡ min (number_from_digits 10 (take l.digit-index l.digits)) (2 ^ 70)

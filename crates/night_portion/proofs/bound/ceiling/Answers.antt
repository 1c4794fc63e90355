use Rattle.std.proofs.Common.{◌≡◌, ◌∙◌, neg_ℤ, pos, ◌-ℤ◌, ap, arith, subst, sym, to_z, of_z, w64}
use Rattle.std.specs.Int.{int_div_euclid}
use Rattle.std.proofs.lemmas.Int.{ints}
use Rattle.night_portion.specs.Bounds.{IsWithinTwoNights, ceiling}
use Rattle.night_portion.proofs.BoundLemmas.{ceiling_within}
use Rattle.night_portion.proofs.bound.ceiling.Goals as goal

pub returns-clause-value : goal.returns-clause-value
unfolding ceiling
returns-clause-value c =
    let a = c.args in
    let share = c.requires.share in
    let n : to_z w64 (of_z w64 (pos 0 -ℤ to_z w64 (of_z w64 a.n))) ≡ neg_ℤ a.n = omega (arith, ints, share.not_low, share.not_high) in
    let b : to_z w64 (of_z w64 a.b) ≡ a.b = omega (arith, ints) in
    let quotient : c.div_euclid.result ≡ int_div_euclid (neg_ℤ a.n) a.b = rw (← n, ← b) c.div_euclid.ensures in
    let within = subst (λ q. IsWithinTwoNights (neg_ℤ q)) (sym quotient) (ceiling_within a.n a.b c.requires.positive share) in
    let bits : to_z w64 (of_z w64 (pos 0 -ℤ to_z w64 (of_z w64 c.div_euclid.result))) ≡ neg_ℤ c.div_euclid.result = omega (arith, ints, within.not_low, within.not_high) in
    bits ∙ ap neg_ℤ quotient

pub returns-clause-within : goal.returns-clause-within
returns-clause-within c =
    subst IsWithinTwoNights (sym (returns-clause-value c)) (ceiling_within c.args.n c.args.b c.requires.positive c.requires.share)

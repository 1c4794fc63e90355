use Rattle.std.proofs.Common.{◌≡◌, ℤ, pos, ◌+ℤ◌, sym, ap, ◌∙◌, arith}
use Rattle.std.specs.Int.{int_div_euclid}
use Rattle.std.proofs.lemmas.Int.{ints}
use Rattle.fixed_interval.proofs.Whole.{div-parts}
use Rattle.trig_series.specs.Quarters.{eighth_turn, quarter_turn}
use Rattle.fixed_interval.proofs.Bits.{bits_of}
use Rattle.trig_series.proofs.QuarterLaws.{last_quarter-whole}
use Rattle.trig_series.proofs.quarters.last_quarter.Goals as goal

pub returns-clause-value : goal.returns-clause-value
returns-clause-value c =
    let angle = c.args.angle in
    let from_seam : bits_of (bits_of angle +ℤ pos eighth_turn) ≡ angle +ℤ pos eighth_turn = omega (arith, ints) in
    let quotient : c.whole_quarters.result ≡ int_div_euclid (angle +ℤ pos eighth_turn) (pos quarter_turn) = c.whole_quarters.ensures ∙ ap (λ (z : ℤ). int_div_euclid z (pos quarter_turn)) from_seam in
    let turned : bits_of c.whole_quarters.result ≡ c.whole_quarters.result = omega (arith, ints, quotient, div-parts (angle +ℤ pos eighth_turn) quarter_turn (omega arith)) in
    turned ∙ quotient ∙ sym (last_quarter-whole angle)

use Rattle.std.proofs.Common.{ℤ, unsigned_abs, ap, ◌∙◌, arith}
use Rattle.std.proofs.lemmas.Int.{ints, clamps}
use Rattle.fixed_interval.specs.Grid.{grid_scale_units}
use Rattle.fixed_interval.specs.Interval.{ends}
use Rattle.fixed_interval.proofs.Bits.{cast}
use Rattle.meeus_terms.specs.Scaled.{hull_of, grid_scale_between}
use Rattle.meeus_terms.proofs.scaled.scaled_between.Goals as goal

pub returns-clause-value : goal.returns-clause-value
unfolding grid_scale_between
returns-clause-value c =
    let a = ends c.args.a in
    let r = c.args.coefficients in
    let low = cast r.lo (omega (arith, ints, r.ordered, c.requires.not_negative, c.requires.in_range)) in
    let high = cast r.hi (omega (arith, ints, r.ordered, c.requires.not_negative, c.requires.in_range)) in
    let least = c.scaled-least.ensures.value ∙ ap (λ (z : ℤ). grid_scale_units a (unsigned_abs z)) low in
    let greatest = c.scaled-greatest.ensures.value ∙ ap (λ (z : ℤ). grid_scale_units a (unsigned_abs z)) high in
    c.hull.ensures.value ∙ (λ i. hull_of (least i) (greatest i))

pub returns-clause-low : goal.returns-clause-low
returns-clause-low c = omega (arith, ints, clamps, c.hull.ensures.low, c.scaled-least.ensures.low, c.scaled-greatest.ensures.low)

pub returns-clause-high : goal.returns-clause-high
returns-clause-high c = omega (arith, ints, clamps, c.hull.ensures.high, c.scaled-least.ensures.high, c.scaled-greatest.ensures.high)

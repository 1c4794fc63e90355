use Rattle.std.proofs.Common.{◌∙◌, ap₂, ◌*ℤ◌}
use Rattle.std.specs.Int.{int_min, int_max}
use Rattle.fixed_interval.specs.Whole.{least_of_four, greatest_of_four}
use Rattle.fixed_interval.proofs.Bits.{cast, typed}
use Rattle.fixed_interval.proofs.steps.narrow_corner_products.Goals as goal

pub returns-clause-least : goal.returns-clause-least
unfolding least_of_four
returns-clause-least c =
    let lo_is = cast c.args.lo c.requires.lo_narrow in
    let hi_is = cast c.args.hi c.requires.hi_narrow in
    let low_is = cast c.args.low c.requires.low_narrow in
    let high_is = cast c.args.high c.requires.high_narrow in
    let first = typed c.lesser_product.result c.lesser_product.type_inv ∙ c.lesser_product.ensures ∙ (λ i. int_min (lo_is i *ℤ low_is i) (lo_is i *ℤ high_is i)) in
    let second = typed c.lesser_product-2.result c.lesser_product-2.type_inv ∙ c.lesser_product-2.ensures ∙ (λ i. int_min (hi_is i *ℤ low_is i) (hi_is i *ℤ high_is i)) in
    typed c.min.result c.min.type_inv ∙ c.min.ensures.value ∙ ap₂ int_min first second

pub returns-clause-greatest : goal.returns-clause-greatest
unfolding greatest_of_four
returns-clause-greatest c =
    let lo_is = cast c.args.lo c.requires.lo_narrow in
    let hi_is = cast c.args.hi c.requires.hi_narrow in
    let low_is = cast c.args.low c.requires.low_narrow in
    let high_is = cast c.args.high c.requires.high_narrow in
    let first = typed c.greater_product.result c.greater_product.type_inv ∙ c.greater_product.ensures ∙ (λ i. int_max (lo_is i *ℤ low_is i) (lo_is i *ℤ high_is i)) in
    let second = typed c.greater_product-2.result c.greater_product-2.type_inv ∙ c.greater_product-2.ensures ∙ (λ i. int_max (hi_is i *ℤ low_is i) (hi_is i *ℤ high_is i)) in
    typed c.max.result c.max.type_inv ∙ c.max.ensures.value ∙ ap₂ int_max first second

use Rattle.std.proofs.Common.{◌≡◌, ◌∙◌, ap₂, ◌*ℤ◌, to_z, of_z, arith}
use Rattle.std.specs.Int.{w64}
use Rattle.std.proofs.lemmas.Int.{ints}
use Rattle.fixed_interval.proofs.Bits.{typed}
use Rattle.fixed_interval.proofs.Corners.{lesser_with, lesser_against}
use Rattle.fixed_interval.proofs.steps.lesser_product.Goals as goal

pub returns-then-x-ge0 : goal.returns-then-x-ge0
returns-then-x-ge0 c =
    let x : to_z w64 (of_z w64 c.args.x) ≡ c.args.x = omega (arith, ints) in
    let y : to_z w64 (of_z w64 c.args.low) ≡ c.args.low = omega (arith, ints) in
    typed c.word_product.result c.word_product.type_inv ∙ c.word_product.ensures ∙ ap₂ ◌*ℤ◌ x y ∙ lesser_with c.args.x c.args.low c.args.high (omega (arith, ints, c.if-x-ge0.true)) c.requires

pub returns-else-x-ge0 : goal.returns-else-x-ge0
returns-else-x-ge0 c =
    let x : to_z w64 (of_z w64 c.args.x) ≡ c.args.x = omega (arith, ints) in
    let y : to_z w64 (of_z w64 c.args.high) ≡ c.args.high = omega (arith, ints) in
    typed c.word_product-else-x-ge0.result c.word_product-else-x-ge0.type_inv ∙ c.word_product-else-x-ge0.ensures ∙ ap₂ ◌*ℤ◌ x y ∙ lesser_against c.args.x c.args.low c.args.high (omega (arith, ints, c.if-x-ge0.false)) c.requires

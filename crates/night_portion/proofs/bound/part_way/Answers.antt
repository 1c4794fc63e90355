use Rattle.std.proofs.Common.{◌≡◌, ◌∙◌, ◌+ℤ◌, ◌-ℤ◌, ◌*ℤ◌, ap₂, arith, to_z, of_z, w32, w64}
use Rattle.std.proofs.lemmas.Int.{ints}
use Rattle.night_portion.specs.Bounds.{ceiling}
use Rattle.night_portion.proofs.BoundLemmas.{shares_are}
use Rattle.night_portion.proofs.bound.part_way.Goals as goal

pub overflow_add-share : goal.overflow_add-share
overflow_add-share c =
    let first = c.share.ensures.share in
    let second = c.share-2.ensures.share in
    omega (arith, ints, first.not_low, first.not_high, second.not_low, second.not_high)

pub ceiling-requires-clause-share : goal.ceiling-requires-clause-share
ceiling-requires-clause-share c =
    let s = c.args in
    let first = c.share.ensures.share in
    let second = c.share-2.ensures.share in
    let gap : to_z w64 (of_z w64 (to_z w64 (of_z w64 s.b) -ℤ to_z w64 (of_z w64 s.a))) ≡ s.b -ℤ s.a = omega (arith, ints) in
    let part : to_z w64 (of_z w64 s.a) ≡ s.a = omega (arith, ints) in
    let whole : to_z w64 (of_z w64 s.b) ≡ s.b = omega (arith, ints) in
    let sum : to_z w64 (of_z w64 (to_z w64 (of_z w64 c.share.result) +ℤ to_z w64 (of_z w64 c.share-2.result))) ≡ c.share.result +ℤ c.share-2.result = omega (arith, ints, first.not_low, first.not_high, second.not_low, second.not_high) in
    rw (whole, sum) (shares_are s.a s.b c.share.result c.share-2.result (rw (← gap) first) (rw (← part) second))

pub overflow_cast-result : goal.overflow_cast-result
overflow_cast-result c = omega (arith, ints, c.ceiling.ensures.within.not_low, c.ceiling.ensures.within.not_high)

pub returns : goal.returns
returns c =
    let s = c.args in
    let within = c.ceiling.ensures.within in
    let first = c.share.ensures.share in
    let second = c.share-2.ensures.share in
    let gap : to_z w64 (of_z w64 (to_z w64 (of_z w64 s.b) -ℤ to_z w64 (of_z w64 s.a))) ≡ s.b -ℤ s.a = omega (arith, ints) in
    let part : to_z w64 (of_z w64 s.a) ≡ s.a = omega (arith, ints) in
    let whole : to_z w64 (of_z w64 s.b) ≡ s.b = omega (arith, ints) in
    let from : to_z w32 (of_z w32 s.from) ≡ s.from = omega (arith, ints) in
    let to : to_z w32 (of_z w32 s.to) ≡ s.to = omega (arith, ints) in
    let sum : to_z w64 (of_z w64 (to_z w64 (of_z w64 c.share.result) +ℤ to_z w64 (of_z w64 c.share-2.result))) ≡ c.share.result +ℤ c.share-2.result = omega (arith, ints, first.not_low, first.not_high, second.not_low, second.not_high) in
    let early : c.share.result ≡ s.from *ℤ (s.b -ℤ s.a) = c.share.ensures.value ∙ ap₂ (λ x y. x *ℤ y) from gap in
    let late : c.share-2.result ≡ s.to *ℤ s.a = c.share-2.ensures.value ∙ ap₂ (λ x y. x *ℤ y) to part in
    let bits : to_z w32 (of_z w32 (to_z w64 (of_z w64 c.ceiling.result))) ≡ c.ceiling.result = omega (arith, ints, within.not_low, within.not_high) in
    bits ∙ (c.ceiling.ensures.value ∙ ap₂ ceiling (sum ∙ ap₂ (λ x y. x +ℤ y) early late) whole)

use Rattle.std.proofs.Common.{rules, arith, FitsSigned, ◌∙◌}
use Rattle.std.specs.Int.{w64}
use Rattle.std.proofs.lemmas.Int.{to_z-of_z}
use Rattle.region.proofs.Keeping.{strips_more}
use Rattle.region.proofs.strips.strips_of.Goals as goal

pub loop-i-preserved : goal.loop-i-preserved
loop-i-preserved c =
    let south : FitsSigned w64 c.args.south = c.ranges.south in
    let low : FitsSigned w64 c.low_at.result = search rules in
    let before = simp to_z-of_z at c.loop-i.invariant in
    let strip = simp to_z-of_z at c.in_ok-strip_of.ensures in
    let at = simp to_z-of_z at c.low_at.ensures.value in
    simp to_z-of_z
    (rw c.in_ok-push.ensures.items
    (strips_more c.args.polygons.now c.args.south c.loop-i.strips.items c.in_ok-strip_of.field-0 c.loop-i.i before
    (strip.0 ∙ at) strip.1))

pub returns : goal.returns
returns c =
    let south : FitsSigned w64 c.args.south = c.ranges.south in
    let so_far = simp to_z-of_z at c.loop-i.invariant in
    record { number = omega (arith, so_far.0, c.loop-i-test.false, c.loop-i.auto.i-end); all = so_far.1.all }

use Rattle.std.proofs.Common.{rules, arith, ◌^◌, pos, FitsSigned, sym}
use Rattle.std.specs.Int.{w64, w128}
use Rattle.std.proofs.lemmas.Int.{ints, to_z-of_z}
use Rattle.plane_edges.proofs.OnEdge.{passing_off, passing_far, passing_near, between_within, wider}
use Rattle.plane_edges.proofs.crossings.passing.Goals as goal

pub returns-then-not-encloses : goal.returns-then-not-encloses
returns-then-not-encloses c =
    let u : FitsSigned w64 c.args.u = c.ranges.u in
    let v : FitsSigned w64 c.args.v = c.ranges.v in
    let z : FitsSigned w64 c.args.z = c.ranges.z in
    sym (passing_off c.args.u c.args.v c.args.s c.args.t c.args.z c.args.low c.args.high (sym (simp to_z-of_z at c.if-not-encloses.ensures)))

pub invariant_of-result : goal.invariant_of-result
invariant_of-result c =
    let d : FitsSigned w128 c.distance-d.result = search rules in
    let f1 : FitsSigned w128 c.scaled.result = search rules in
    let f2 : FitsSigned w128 c.part.result = search rules in
    let f3 : FitsSigned w128 c.span.result = search rules in
    let f4 : FitsSigned w128 c.area.result = search rules in
    let f5 : FitsSigned w128 c.offset-value.result = search rules in
    let f6 : FitsSigned w128 c.scaled-least.result = search rules in
    let f7 : FitsSigned w128 c.scaled-most.result = search rules in
    let w = between_within (pos (2 ^ 66)) c.scaled-least.result c.offset-value.result c.scaled-most.result
    c.scaled-least.ensures.within c.scaled-most.ensures.within (sym (simp to_z-of_z at c.if-is_between.ensures)) in
    simp to_z-of_z (record {
      positive = c.distance-d.ensures.positive;
      short = c.distance-d.ensures.short;
      value_within = wider (pos (2 ^ 66)) (pos (2 ^ 70)) c.offset-value.result (omega (arith, ints)) w;
    })

pub returns-then-is_between : goal.returns-then-is_between
returns-then-is_between c =
    let d : FitsSigned w128 c.distance-d.result = search rules in
    let f1 : FitsSigned w128 c.scaled.result = search rules in
    let f2 : FitsSigned w128 c.part.result = search rules in
    let f3 : FitsSigned w128 c.span.result = search rules in
    let f4 : FitsSigned w128 c.area.result = search rules in
    let f5 : FitsSigned w128 c.offset-value.result = search rules in
    let f6 : FitsSigned w128 c.scaled-least.result = search rules in
    let f7 : FitsSigned w128 c.scaled-most.result = search rules in
    let u : FitsSigned w64 c.args.u = c.ranges.u in
    let v : FitsSigned w64 c.args.v = c.ranges.v in
    let s : FitsSigned w64 c.args.s = c.ranges.s in
    let t : FitsSigned w64 c.args.t = c.ranges.t in
    let z : FitsSigned w64 c.args.z = c.ranges.z in
    let low : FitsSigned w64 c.args.low = c.ranges.low in
    let high : FitsSigned w64 c.args.high = c.ranges.high in
    let e0 = simp to_z-of_z at c.distance-d.ensures.value in
    let e1 = simp to_z-of_z at c.scaled.ensures.value in
    let e2 = simp to_z-of_z at c.part.ensures.value in
    let e3 = simp to_z-of_z at c.span.ensures.value in
    let e4 = simp to_z-of_z at c.area.ensures.value in
    let e5 = simp to_z-of_z at c.offset-value.ensures in
    let e6 = simp to_z-of_z at c.scaled-least.ensures.value in
    let e7 = simp to_z-of_z at c.scaled-most.ensures.value in
    let way = rw (e1, e4, e2, e3, e0) at e5 in
    let apart = sym (simp to_z-of_z at c.if-is_same.ensures) in
    let within = sym (simp to_z-of_z at c.if-not-encloses.ensures) in
    let k = sym (rw (way, e6, e7, e0) at (simp to_z-of_z at c.if-is_between.ensures)) in
    simp to_z-of_z (rw (way, e0) (sym (passing_near c.args.u c.args.v c.args.s c.args.t c.args.z c.args.low c.args.high apart within k)))

pub returns-else-is_between : goal.returns-else-is_between
returns-else-is_between c =
    let d : FitsSigned w128 c.distance-d.result = search rules in
    let f1 : FitsSigned w128 c.scaled.result = search rules in
    let f2 : FitsSigned w128 c.part.result = search rules in
    let f3 : FitsSigned w128 c.span.result = search rules in
    let f4 : FitsSigned w128 c.area.result = search rules in
    let f5 : FitsSigned w128 c.offset-value.result = search rules in
    let f6 : FitsSigned w128 c.scaled-least.result = search rules in
    let f7 : FitsSigned w128 c.scaled-most.result = search rules in
    let u : FitsSigned w64 c.args.u = c.ranges.u in
    let v : FitsSigned w64 c.args.v = c.ranges.v in
    let s : FitsSigned w64 c.args.s = c.ranges.s in
    let t : FitsSigned w64 c.args.t = c.ranges.t in
    let z : FitsSigned w64 c.args.z = c.ranges.z in
    let low : FitsSigned w64 c.args.low = c.ranges.low in
    let high : FitsSigned w64 c.args.high = c.ranges.high in
    let e0 = simp to_z-of_z at c.distance-d.ensures.value in
    let e1 = simp to_z-of_z at c.scaled.ensures.value in
    let e2 = simp to_z-of_z at c.part.ensures.value in
    let e3 = simp to_z-of_z at c.span.ensures.value in
    let e4 = simp to_z-of_z at c.area.ensures.value in
    let e5 = simp to_z-of_z at c.offset-value.ensures in
    let e6 = simp to_z-of_z at c.scaled-least.ensures.value in
    let e7 = simp to_z-of_z at c.scaled-most.ensures.value in
    let way = rw (e1, e4, e2, e3, e0) at e5 in
    let k = sym (rw (way, e6, e7, e0) at (simp to_z-of_z at c.if-is_between.ensures)) in
    sym (passing_far c.args.u c.args.v c.args.s c.args.t c.args.z c.args.low c.args.high k)

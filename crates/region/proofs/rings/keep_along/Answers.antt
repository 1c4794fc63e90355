use Rattle.std.proofs.Common.{◌≡◌, [], ◌+◌, drop, get_or, map, pos, append-nil, FitsSigned, to_z, of_z, arith, sym, ◌∙◌}
use Rattle.std.specs.Int.{w64}
use Rattle.std.proofs.lemmas.Int.{to_z-of_z}
use Rattle.std.proofs.lemmas.Grind.{common_steps}
use Rattle.region.specs.Rings.{edge_between}
use Rattle.plane_edges.specs.Views.{segment_of}
use Rattle.region.specs.Strips.{numbered}
use Rattle.region.proofs.Along.{short_start, short_next, short_step, next_position}
use Rattle.region.proofs.Keeping.{keep_joined, kept_along_more}
use Rattle.region.proofs.rings.keep_along.Goals as goal

pub edge_between-requires-clause-start : goal.edge_between-requires-clause-start
edge_between-requires-clause-start c = short_start c.loop-next.previous (drop c.loop-next.next-index c.args.rest.now) c.loop-next.invariant.short

pub edge_between-requires-clause-end : goal.edge_between-requires-clause-end
edge_between-requires-clause-end c =
    short_next c.loop-next.previous c.args.rest.now c.loop-next.next-index c.loop-next-test.true c.loop-next.invariant.short

pub edge_between-requires-clause-step : goal.edge_between-requires-clause-step
edge_between-requires-clause-step c =
    short_step c.loop-next.previous c.args.rest.now c.loop-next.next-index c.loop-next-test.true c.loop-next.invariant.short

pub loop-next-preserved : goal.loop-next-preserved
loop-next-preserved c =
    let left = next_position c.args.rest.now c.loop-next.next-index c.loop-next-test.true in
    let q = get_or c.args.rest.now c.loop-next.next-index (pos 0, pos 0) in
    let low = to_z w64 (of_z w64 c.args.low) in
    let high = to_z w64 (of_z w64 c.args.high) in
    let here = keep_joined c.edge_between.result.polygon c.args.polygon low high c.loop-next.edges.items c.keep_edge.new.edges.items
    (segment_of c.edge_between.result) (edge_between c.loop-next.previous q)
    c.in_ok-keep_edge.ensures c.edge_between.ensures.segment c.edge_between.ensures.polygon in
    kept_along_more c.args.polygon low high c.args.edges.now.items c.args.first c.args.rest.now
    c.loop-next.edges.items c.keep_edge.new.edges.items c.loop-next.previous q
    (drop (c.loop-next.next-index + 1) c.args.rest.now) (rw left at c.loop-next.invariant) here

pub returns : goal.returns
returns c =
    let low : FitsSigned w64 c.args.low = c.ranges.low in
    let high : FitsSigned w64 c.args.high = c.ranges.high in
    let none : drop c.loop-next.next-index c.args.rest.now ≡ [] = grind (arith, common_steps) in
    let all = simp to_z-of_z at c.loop-next.invariant.kept_is in
    sym (append-nil (map numbered c.loop-next.edges.items)) ∙ (rw none at all)

use Rattle.std.proofs.Common.{◌≡◌, ◌+◌, [], ◌∷◌, drop, map, rules, arith, FitsSigned, refl, sym, ◌∙◌}
use Rattle.std.specs.Int.{w64}
use Rattle.std.proofs.lemmas.Int.{to_z-of_z}
use Rattle.std.proofs.lemmas.Grind.{common_steps}
use Rattle.plane_edges.specs.EdgePoints.{corner}
use Rattle.border_check.specs.Views.{box_of, segment_of}
use Rattle.ring_survey.proofs.Counting.{next_left}
use Rattle.border_check.specs.Shares.{changes, grown, meets, PartView}
use Rattle.border_check.proofs.Growing.{grow_more, grow_one, grown-none}
use Rattle.border_check.proofs.parts.edges_within.Goals as goal

pub loop-edge-preserved : goal.loop-edge-preserved
loop-edge-preserved c =
    let inner = box_of c.args.inner.now in
    let turn = changes (box_of c.args.outer.now) (corner inner) in
    let left = next_left c.args.edges.now c.loop-edge.edge-index c.edge-item.result c.loop-edge-test.true c.edge-item.is in
    let x0 : FitsSigned w64 c.args.inner.now.x0 = search rules in
    let y0 : FitsSigned w64 c.args.inner.now.y0 = search rules in
    let turned = simp to_z-of_z at c.changes.ensures in
    let now : PartView = record { edges = map segment_of c.loop-edge.near.items; odd = c.loop-edge.parity } in
    let next : PartView = record { edges = map segment_of c.keep_edge.new.edges.items; odd = c.differ-parity.result } in
    let one = grow_one (meets inner) turn (map segment_of c.loop-edge.near.items) (map segment_of c.keep_edge.new.edges.items)
    c.loop-edge.parity c.differ-parity.result (segment_of c.edge-item.result) c.in_ok-keep_edge.ensures
    (c.differ-parity.ensures ∙ rw turned refl) in
    grow_more (meets inner) turn now next
    (grown (meets inner) turn (record { edges = []; odd = c.args.odd }) (map segment_of c.args.edges.now))
    (segment_of c.edge-item.result ∷ []) (map segment_of (drop (c.loop-edge.edge-index + 1) c.args.edges.now))
    one (rw left at c.loop-edge.invariant)

pub returns : goal.returns
returns c =
    let none : drop c.loop-edge.edge-index c.args.edges.now ≡ [] = grind (arith, common_steps) in
    sym (grown-none (meets (box_of c.args.inner.now)) (changes (box_of c.args.outer.now) (corner (box_of c.args.inner.now)))
    (record { edges = map segment_of c.loop-edge.near.items; odd = c.loop-edge.parity }))
    ∙ rw none at c.loop-edge.invariant

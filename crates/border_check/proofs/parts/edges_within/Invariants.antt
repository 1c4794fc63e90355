use Rattle.std.proofs.Common.{◌≡◌, [], drop, map}
use Rattle.plane_edges.specs.EdgePoints.{corner}
use Rattle.border_check.specs.Views.{box_of, segment_of}
use Rattle.border_check.specs.Shares.{changes, grown, meets}
use Rattle.border_check.proofs.parts.edges_within.Given as goal

abbrev pub invariant-loop-edge : goal.invariant-loop-edge
invariant-loop-edge l =
    grown (meets (box_of l.inner)) (changes (box_of l.outer) (corner (box_of l.inner)))
    (record { edges = map segment_of l.near.items; odd = l.parity }) (map segment_of (drop l.edge-index l.edges))
    ≡ grown (meets (box_of l.inner)) (changes (box_of l.outer) (corner (box_of l.inner)))
    (record { edges = []; odd = l.fn.odd }) (map segment_of l.edges)

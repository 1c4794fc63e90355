use Rattle.std.proofs.Common.{◌≡◌, ◌||◌, drop, map}
use Rattle.std.specs.List.{list_any}
use Rattle.plane_edges.specs.Plane.{is_on, crosses, xor}
use Rattle.plane_edges.specs.Views.{place_of, segment_of}
use Rattle.region.proofs.Odd.{odd_by}
use Rattle.region.proofs.scans.touch_of.Given as goal

abbrev pub invariant-loop-edge : goal.invariant-loop-edge
invariant-loop-edge l =
    ((l.seen.on || list_any (is_on (place_of l.p)) (map segment_of (drop l.edge-index l.edges)))
    ≡ list_any (is_on (place_of l.p)) (map segment_of l.edges))
    × (xor l.seen.odd (odd_by (crosses (place_of l.p)) (map segment_of (drop l.edge-index l.edges)))
    ≡ odd_by (crosses (place_of l.p)) (map segment_of l.edges))

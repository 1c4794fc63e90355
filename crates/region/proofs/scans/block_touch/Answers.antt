use Rattle.std.proofs.Common.{map, sym, ◌∙◌}
use Rattle.plane_edges.specs.Plane.{crosses}
use Rattle.plane_edges.specs.EdgePoints.{corner}
use Rattle.plane_edges.specs.Views.{box_of, segment_of}
use Rattle.region.proofs.Odd.{is_odd-count_by}
use Rattle.region.proofs.InBlocks.{all_beyond, none_on, none_crossed}
use Rattle.region.proofs.scans.block_touch.Goals as goal

pub returns-then-misses_latitudes-clause-on : goal.returns-then-misses_latitudes-clause-on
returns-then-misses_latitudes-clause-on c =
    let box = box_of c.args.r.now in
    sym (none_on box c.args.edges.now
    (record { x_ordered = c.args.r.now.x_ordered; y_ordered = c.args.r.now.y_ordered })
    (all_beyond c.args.block.now box c.args.edges.now (sym c.if-misses_latitudes.ensures) c.requires))

pub returns-then-misses_latitudes-clause-odd : goal.returns-then-misses_latitudes-clause-odd
returns-then-misses_latitudes-clause-odd c =
    let box = box_of c.args.r.now in
    sym (is_odd-count_by (crosses (corner box)) (map segment_of c.args.edges.now)
    ∙ none_crossed box c.args.edges.now
    (record { x_ordered = c.args.r.now.x_ordered; y_ordered = c.args.r.now.y_ordered })
    (all_beyond c.args.block.now box c.args.edges.now (sym c.if-misses_latitudes.ensures) c.requires))

use Rattle.std.proofs.Common.{sym}
use Rattle.plane_edges.specs.Views.{box_of, segment_of}
use Rattle.plane_edges.proofs.Truth.{or_left, or_right}
use Rattle.plane_edges.specs.EdgePoints.{misses_latitudes, misses_longitudes}
use Rattle.plane_edges.proofs.Beyond.{names_none_beyond}
use Rattle.plane_edges.proofs.edge_points.edge_point.Goals as goal

pub returns-then-misses_latitudes : goal.returns-then-misses_latitudes
returns-then-misses_latitudes c =
    let box = box_of c.args.r.now in
    let e = segment_of c.args.edge.now in
    sym (names_none_beyond box e
    (record { x_ordered = c.args.r.now.x_ordered; y_ordered = c.args.r.now.y_ordered })
    (or_left (misses_latitudes box e) (misses_longitudes box e) (sym c.if-misses_latitudes.ensures))).0

pub returns-then-misses_longitudes : goal.returns-then-misses_longitudes
returns-then-misses_longitudes c =
    let box = box_of c.args.r.now in
    let e = segment_of c.args.edge.now in
    sym (names_none_beyond box e
    (record { x_ordered = c.args.r.now.x_ordered; y_ordered = c.args.r.now.y_ordered })
    (or_right (misses_latitudes box e) (misses_longitudes box e) (sym c.if-misses_longitudes.ensures))).0

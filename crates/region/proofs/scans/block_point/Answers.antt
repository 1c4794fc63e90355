use Rattle.std.proofs.Common.{sym}
use Rattle.plane_edges.specs.Views.{box_of}
use Rattle.region.proofs.InBlocks.{none_under_or_over, none_left_or_right}
use Rattle.region.proofs.scans.block_point.Goals as goal

pub returns-then-misses_latitudes : goal.returns-then-misses_latitudes
returns-then-misses_latitudes c =
    sym (none_under_or_over c.args.block.now (box_of c.args.r.now) c.args.edges.now
    (record { x_ordered = c.args.r.now.x_ordered; y_ordered = c.args.r.now.y_ordered })
    (sym c.if-misses_latitudes.ensures) c.requires)

pub returns-then-misses_longitudes : goal.returns-then-misses_longitudes
returns-then-misses_longitudes c =
    sym (none_left_or_right c.args.block.now (box_of c.args.r.now) c.args.edges.now
    (record { x_ordered = c.args.r.now.x_ordered; y_ordered = c.args.r.now.y_ordered })
    (sym c.if-misses_longitudes.ensures) c.requires)

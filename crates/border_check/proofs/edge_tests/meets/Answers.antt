use Rattle.std.proofs.Common.{◌≡◌, true, not, ◌||◌, sym, ap, ◌∙◌}
use Rattle.plane_edges.specs.EdgePoints.{misses_latitudes, misses_longitudes}
use Rattle.border_check.specs.Views.{box_of, segment_of}
use Rattle.plane_edges.proofs.Truth.{or_left, or_right}
use Rattle.border_check.specs.Sides.{all_left, all_right}
use Rattle.border_check.proofs.Corners.{is_beyond, meets_is}
use Rattle.border_check.proofs.edge_tests.meets.Goals as goal

pub returns-then-misses_latitudes : goal.returns-then-misses_latitudes
returns-then-misses_latitudes c =
    let box = box_of c.args.r.now in
    let e = segment_of c.args.edge.now in
    let far : is_beyond box e ≡ true = or_left (misses_latitudes box e || misses_longitudes box e) (all_left box e || all_right box e)
    (or_left (misses_latitudes box e) (misses_longitudes box e) (sym c.if-misses_latitudes.ensures)) in
    sym (meets_is box e (record { x_ordered = c.args.r.now.x_ordered; y_ordered = c.args.r.now.y_ordered }) ∙ ap not far)

pub returns-then-misses_longitudes : goal.returns-then-misses_longitudes
returns-then-misses_longitudes c =
    let box = box_of c.args.r.now in
    let e = segment_of c.args.edge.now in
    let far : is_beyond box e ≡ true = or_left (misses_latitudes box e || misses_longitudes box e) (all_left box e || all_right box e)
    (or_right (misses_latitudes box e) (misses_longitudes box e) (sym c.if-misses_longitudes.ensures)) in
    sym (meets_is box e (record { x_ordered = c.args.r.now.x_ordered; y_ordered = c.args.r.now.y_ordered }) ∙ ap not far)

pub returns : goal.returns
returns c =
    let box = box_of c.args.r.now in
    let e = segment_of c.args.edge.now in
    let near : is_beyond box e ≡ (all_left box e || all_right box e) =
    ap (λ b. (b || misses_longitudes box e) || (all_left box e || all_right box e)) (sym c.if-misses_latitudes.ensures)
    ∙ ap (λ b. b || (all_left box e || all_right box e)) (sym c.if-misses_longitudes.ensures) in
    ap not (c.has_aside.ensures ∙ sym near)
    ∙ sym (meets_is box e (record { x_ordered = c.args.r.now.x_ordered; y_ordered = c.args.r.now.y_ordered }))

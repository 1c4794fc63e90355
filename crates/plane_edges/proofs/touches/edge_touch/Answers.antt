use Rattle.std.proofs.Common.{arith, pos, FitsSigned, rules, refl, sym, ◌∙◌}
use Rattle.std.specs.Prelude.{◌<ℤ◌}
use Rattle.std.specs.Int.{w128}
use Rattle.std.proofs.lemmas.Int.{ints, to_z-of_z}
use Rattle.plane_edges.specs.Views.{place_of, segment_of}
use Rattle.plane_edges.proofs.Truth.{not_true, not_false}
use Rattle.plane_edges.proofs.Touching.{on_beyond_latitudes, cross_beyond_latitudes, on_beyond_west, cross_beyond_west, on_beyond_east, cross_beyond_east, on_in_box}
use Rattle.plane_edges.proofs.touches.edge_touch.Goals as goal

pub returns-then-misses_latitude-clause-on : goal.returns-then-misses_latitude-clause-on
returns-then-misses_latitude-clause-on c =
    sym (on_beyond_latitudes (segment_of c.args.edge.now) (place_of c.args.p.now) (not_false _ (sym c.if-misses_latitude.ensures)))

pub returns-then-misses_latitude-clause-odd : goal.returns-then-misses_latitude-clause-odd
returns-then-misses_latitude-clause-odd c =
    sym (cross_beyond_latitudes (segment_of c.args.edge.now) (place_of c.args.p.now) (not_false _ (sym c.if-misses_latitude.ensures)))

pub returns-then-lies_west-clause-on : goal.returns-then-lies_west-clause-on
returns-then-lies_west-clause-on c =
    sym (on_beyond_west (segment_of c.args.edge.now) (place_of c.args.p.now) (sym c.if-lies_west.ensures))

pub returns-then-lies_west-clause-odd : goal.returns-then-lies_west-clause-odd
returns-then-lies_west-clause-odd c =
    let positive : pos 0 <ℤ c.args.p.now.d = omega (arith, ints, c.args.p.now.positive) in
    sym (cross_beyond_west (segment_of c.args.edge.now) (place_of c.args.p.now) positive (sym c.if-lies_west.ensures))

pub returns-then-lies_east-clause-on : goal.returns-then-lies_east-clause-on
returns-then-lies_east-clause-on c =
    sym (on_beyond_east (segment_of c.args.edge.now) (place_of c.args.p.now) (sym c.if-lies_east.ensures))

pub returns-then-lies_east-clause-odd : goal.returns-then-lies_east-clause-odd
returns-then-lies_east-clause-odd c =
    let positive : pos 0 <ℤ c.args.p.now.d = omega (arith, ints, c.args.p.now.positive) in
    rw (c.starts_above-from_above.ensures, c.ends_above-to_above.ensures)
    (sym (cross_beyond_east (segment_of c.args.edge.now) (place_of c.args.p.now) positive (sym c.if-lies_east.ensures)))

pub returns-clause-on : goal.returns-clause-on
returns-clause-on c =
    let f : FitsSigned w128 c.orientation-turn.result = search rules in
    let orientation = c.orientation-turn.ensures in
    let here = simp to_z-of_z at c.is_zero.ensures in
    here ∙ rw orientation (sym (on_in_box (segment_of c.args.edge.now) (place_of c.args.p.now)
    (not_true _ (sym c.if-misses_latitude.ensures)) (sym c.if-lies_west.ensures) (sym c.if-lies_east.ensures)))

pub returns-clause-odd : goal.returns-clause-odd
returns-clause-odd c =
    let f : FitsSigned w128 c.orientation-turn.result = search rules in
    let here = simp to_z-of_z at c.is_crossed.ensures in
    here ∙ rw (c.starts_above-from_above.ensures, c.ends_above-to_above.ensures, c.orientation-turn.ensures) refl

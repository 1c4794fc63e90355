use Rattle.std.proofs.Common.{◌≤◌, sym, ◌∙◌, length, arith}
use Rattle.json_value.specs.View.{tree_of, items_of}
use Rattle.geo_json.specs.Geometry.{position_in}
use Rattle.geo_json.proofs.GeometryLemmas.{one_more, none_here, no_more}
use Rattle.geo_json.proofs.positions.ring_of.Goals as goal

pub returns-in-None : goal.returns-in-None
returns-in-None c =
    none_here (position_in c.args.notation) c.loop-i.ring.items (items_of c.args.positions.now) c.loop-i.i _ c.loop-i.invariant
    (tree_of c.item.result.now) c.item.ensures (sym c.position_in.ensures ∙ c.in-None.is)

pub loop-i-preserved : goal.loop-i-preserved
loop-i-preserved c =
    rw c.in_ok-push-in-Some.ensures.items
    (one_more (position_in c.args.notation) c.loop-i.ring.items (items_of c.args.positions.now) c.loop-i.i _ c.loop-i.invariant
    (tree_of c.item.result.now) c.in-Some.position c.item.ensures (sym c.position_in.ensures ∙ c.in-Some.is))

pub returns : goal.returns
returns c =
    let past : length (items_of c.args.positions.now) ≤ c.loop-i.i = omega arith in
    no_more (position_in c.args.notation) c.loop-i.ring.items (items_of c.args.positions.now) c.loop-i.i _ c.loop-i.invariant past

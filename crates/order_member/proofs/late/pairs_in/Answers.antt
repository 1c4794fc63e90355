use Rattle.std.proofs.Common.{◌≤◌, ◌∙◌, sym, length, arith}
use Rattle.json_value.specs.View.{items_of, tree_of}
use Rattle.geo_json.proofs.GeometryLemmas.{no_more, none_here, one_more}
use Rattle.order_member.specs.Members.{pair_in}
use Rattle.order_member.proofs.late.pairs_in.Goals as goal

pub returns-in-None : goal.returns-in-None
returns-in-None c =
    sym (none_here pair_in c.loop-i.pairs.items (items_of c.args.list.now) c.loop-i.i _ c.loop-i.invariant (tree_of c.item.result.now) c.item.ensures (sym c.pair_in.ensures ∙ c.in-None.is))

pub loop-i-preserved : goal.loop-i-preserved
loop-i-preserved c =
    rw c.in_ok-push-in-Some.ensures.items
    (one_more pair_in c.loop-i.pairs.items (items_of c.args.list.now) c.loop-i.i _ c.loop-i.invariant (tree_of c.item.result.now) c.in-Some.pair c.item.ensures (sym c.pair_in.ensures ∙ c.in-Some.is))

pub returns : goal.returns
returns c =
    let past : length (items_of c.args.list.now) ≤ c.loop-i.i = omega arith in
    sym (no_more pair_in c.loop-i.pairs.items (items_of c.args.list.now) c.loop-i.i _ c.loop-i.invariant past)

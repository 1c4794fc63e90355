use Rattle.std.proofs.Common.{◌≤◌, [], length, arith}
use Rattle.std.specs.Prelude.{slice_index_or}
use Rattle.order_text.specs.Line.{ring_text}
use Rattle.order_text.proofs.LineLemmas.{next_item, last_item}
use Rattle.std.proofs.lemmas.Option.{slice_get-get_or}
use Rattle.order_text.proofs.line.push_rings.Goals as goal

pub loop-i-preserved : goal.loop-i-preserved
loop-i-preserved c =
    next_item ring_text (slice_index_or c.args.district.now c.args.polygon []) c.loop-i.i (slice_index_or (slice_index_or c.args.district.now c.args.polygon []) c.loop-i.i [])
    c.loop-i.line.items c.push_comma.new.line.items c.push_ring.new.line.items _
    (slice_get-get_or (slice_index_or c.args.district.now c.args.polygon []) c.loop-i.i [] (omega arith))
    c.in_ok-push_comma.ensures c.in_ok-push_ring.ensures c.loop-i.invariant

pub returns : goal.returns
returns c =
    let past : length (slice_index_or c.args.district.now c.args.polygon []) ≤ c.loop-i.i = omega arith in
    last_item ring_text (slice_index_or c.args.district.now c.args.polygon []) c.loop-i.i c.loop-i.line.items _ past c.loop-i.invariant

use Rattle.std.proofs.Common.{pos, get_or}
use Rattle.std.proofs.lemmas.Option.{slice_get-get_or}
use Rattle.order_text.specs.Line.{position_text}
use Rattle.order_text.proofs.LineLemmas.{next_item, last_item}
use Rattle.demo_summary.proofs.line.push_positions.Goals as goal

pub loop-i-preserved : goal.loop-i-preserved
loop-i-preserved c =
    next_item position_text c.args.ring.now c.loop-i.i (get_or c.args.ring.now c.loop-i.i (pos 0, pos 0))
    c.loop-i.line.items c.push_comma.new.line.items c.push_position.new.line.items _
    (slice_get-get_or c.args.ring.now c.loop-i.i (pos 0, pos 0) c.loop-i-test.true)
    c.in_ok-push_comma.ensures c.in_ok-push_position.ensures c.loop-i.invariant

pub returns : goal.returns
returns c = last_item position_text c.args.ring.now c.loop-i.i c.loop-i.line.items _ c.loop-i-test.false c.loop-i.invariant

use Rattle.std.proofs.Common.{pos, get_or}
use Rattle.std.proofs.lemmas.Option.{slice_get-get_or}
use Rattle.order_rule.specs.Late.{is_range}
use Rattle.order_text.specs.Line.{range_text}
use Rattle.order_text.proofs.LineLemmas.{next_item, last_item, each_true}
use Rattle.order_text.proofs.line.push_ranges.Goals as goal

pub push_range-requires : goal.push_range-requires
push_range-requires c = each_true is_range c.args.ranges.now c.loop-i.i (pos 0, pos 0) c.loop-i-test.true c.requires

pub loop-i-preserved : goal.loop-i-preserved
loop-i-preserved c =
    next_item range_text c.args.ranges.now c.loop-i.i (get_or c.args.ranges.now c.loop-i.i (pos 0, pos 0))
    c.loop-i.line.items c.push_comma.new.line.items c.push_range.new.line.items _
    (slice_get-get_or c.args.ranges.now c.loop-i.i (pos 0, pos 0) c.loop-i-test.true)
    c.in_ok-push_comma.ensures c.in_ok-push_range.ensures c.loop-i.invariant

pub returns : goal.returns
returns c = last_item range_text c.args.ranges.now c.loop-i.i c.loop-i.line.items _ c.loop-i-test.false c.loop-i.invariant

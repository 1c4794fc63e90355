-- What is left of the days is read one by one.
use Rattle.std.proofs.Common.{◌≡◌, ◌∙◌, ap, sym, ℤ, pos, ◌+ℤ◌, List, Some, None, to_z, of_z, w32, arith, FitsSigned}
use Rattle.std.proofs.lemmas.Int.{ints}
use Rattle.ring_survey.proofs.EachLemmas.{each_length, each_start, with_front}
use Rattle.order_rule.proofs.OffsetLemmas.{days_length, offsets_in_range, so_far-end, so_far-more, so_far-none}
use Rattle.order_rule.specs.Offsets.{offsets_of, days_from}
use Rattle.year_table.specs.Zones.{day_offset}
use Rattle.order_rule.proofs.offsets.offsets_of.Goals as goal

-- the first day, as the code has it
abbrev from : ℤ → ℤ
from day = to_z w32 (of_z w32 day)

pub loop-i-init : goal.loop-i-init
unfolding offsets_of
loop-i-init c =
    let all = offsets_of c.args.zone.now (from c.args.from_day) c.args.days in
    ap (λ (xs : List ℤ). with_front xs all) c.new-offsets.ensures.items ∙ each_start all

pub returns-in-None-clause-value : goal.returns-in-None-clause-value
returns-in-None-clause-value c =
    let fits : FitsSigned w32 c.args.from_day = c.ranges.from_day in
    let today : day_offset c.args.zone.now (from c.args.from_day +ℤ pos c.loop-i.i) ≡ None = cc (c.offset_after.ensures, c.in_ok-offset.was) in
    so_far-none c.args.zone.now (from c.args.from_day) c.args.days c.loop-i.i c.loop-i.offsets.items _ c.loop-i-test.true today c.loop-i.invariant
    ∙ ap (λ day. offsets_of c.args.zone.now day c.args.days) (omega (arith, ints))

pub loop-i-preserved : goal.loop-i-preserved
loop-i-preserved c =
    let today : day_offset c.args.zone.now (from c.args.from_day +ℤ pos c.loop-i.i) ≡ Some c.in-Some.offset = cc (c.offset_after.ensures, c.in_ok-offset.was) in
    so_far-more c.args.zone.now (from c.args.from_day) c.args.days c.loop-i.i c.loop-i.offsets.items c.push.new.self.items c.in-Some.offset _ c.loop-i-test.true today c.in_ok-push-in-Some.ensures.items c.loop-i.invariant

pub invariant_of-result : goal.invariant_of-result
unfolding offsets_of
invariant_of-result c =
    let all = so_far-end c.args.zone.now (from c.args.from_day) c.args.days c.loop-i.i c.loop-i.offsets.items _ c.loop-i.auto.i-end c.loop-i-test.false c.loop-i.invariant in
    offsets_in_range c.args.zone.now (days_from (from c.args.from_day) c.args.days) c.loop-i.offsets.items (sym all)

pub returns-clause-value : goal.returns-clause-value
returns-clause-value c =
    let fits : FitsSigned w32 c.args.from_day = c.ranges.from_day in
    so_far-end c.args.zone.now (from c.args.from_day) c.args.days c.loop-i.i c.loop-i.offsets.items _ c.loop-i.auto.i-end c.loop-i-test.false c.loop-i.invariant
    ∙ ap (λ day. offsets_of c.args.zone.now day c.args.days) (omega (arith, ints))

pub returns-clause-count : goal.returns-clause-count
unfolding offsets_of
returns-clause-count c =
    let all = so_far-end c.args.zone.now (from c.args.from_day) c.args.days c.loop-i.i c.loop-i.offsets.items _ c.loop-i.auto.i-end c.loop-i-test.false c.loop-i.invariant in
    each_length (day_offset c.args.zone.now) (days_from (from c.args.from_day) c.args.days) c.loop-i.offsets.items (sym all)
    ∙ days_length (from c.args.from_day) c.args.days

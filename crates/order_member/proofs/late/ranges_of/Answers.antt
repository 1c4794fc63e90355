use Rattle.std.proofs.Common.{◌∙◌, sym, get_or}
use Rattle.std.proofs.lemmas.Option.{slice_get-get_or}
use Rattle.geo_json.proofs.GeometryLemmas.{no_more, none_here, one_more}
use Rattle.order_member.specs.Members.{range_of}
use Rattle.order_member.specs.declared.date.Ymd.{Ymd}
use Rattle.order_member.proofs.late.ranges_of.Goals as goal

abbrev nothing : Ymd × Ymd
nothing = (record { year = 0; month = 0; day = 0 }, record { year = 0; month = 0; day = 0 })

pub returns-in-None : goal.returns-in-None
returns-in-None c =
    sym (none_here range_of c.loop-pair.ranges.items c.args.pairs.now c.loop-pair.pair-index _ c.loop-pair.invariant (get_or c.args.pairs.now c.loop-pair.pair-index nothing)
    (slice_get-get_or c.args.pairs.now c.loop-pair.pair-index nothing c.loop-pair-test.true) (sym c.range_of.ensures ∙ c.in-None.is))

pub loop-pair-preserved : goal.loop-pair-preserved
loop-pair-preserved c =
    rw c.in_ok-push-in-Some.ensures.items
    (one_more range_of c.loop-pair.ranges.items c.args.pairs.now c.loop-pair.pair-index _ c.loop-pair.invariant (get_or c.args.pairs.now c.loop-pair.pair-index nothing) c.in-Some.range
    (slice_get-get_or c.args.pairs.now c.loop-pair.pair-index nothing c.loop-pair-test.true) (sym c.range_of.ensures ∙ c.in-Some.is))

pub returns : goal.returns
returns c =
    sym (no_more range_of c.loop-pair.ranges.items c.args.pairs.now c.loop-pair.pair-index _ c.loop-pair.invariant c.loop-pair-test.false)

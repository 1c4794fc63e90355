use Rattle.std.proofs.Common.{◌∙◌, ap, Ok, arith, FitsSigned, w32}
use Rattle.std.proofs.lemmas.Int.{ints}
use Rattle.year_table.specs.Zones.{day_offset}
use Rattle.order_rule.proofs.offsets.offset_after.Goals as goal

pub returns : goal.returns
returns c =
    let fits : FitsSigned w32 c.args.from_day = c.ranges.from_day in
    c.day_offset.ensures
    ∙ ap (λ day. Ok (day_offset c.args.zone.now day)) (omega (arith, ints))

use Rattle.std.proofs.Common.{FitsSigned, rules, w32, w64, arith}
use Rattle.std.proofs.lemmas.Int.{ints, to_z-of_z}
use Rattle.cell_judge.proofs.ExtentLemmas.{west_near}
use Rattle.order_table.proofs.DayLemmas.{east_near, noon_is}
use Rattle.order_rule.specs.Asked.{asked_of}
use Rattle.order_table.proofs.ready.noon_on.Goals as goal

pub noon_of-requires-clause-west_not_low : goal.noon_of-requires-clause-west_not_low
noon_of-requires-clause-west_not_low c =
    let west : FitsSigned w64 c.west.result = search rules in
    let x = west_near c.args.order.now.district c.has_no_fault.ensures in
    simp to_z-of_z (omega (arith, ints, c.west.ensures, x.not_low))

pub noon_of-requires-clause-west_not_high : goal.noon_of-requires-clause-west_not_high
noon_of-requires-clause-west_not_high c =
    let west : FitsSigned w64 c.west.result = search rules in
    let x = west_near c.args.order.now.district c.has_no_fault.ensures in
    simp to_z-of_z (omega (arith, ints, c.west.ensures, x.not_high))

pub noon_of-requires-clause-east_not_low : goal.noon_of-requires-clause-east_not_low
noon_of-requires-clause-east_not_low c =
    let east : FitsSigned w64 c.east.result = search rules in
    let x = east_near c.args.order.now.district c.has_no_fault.ensures in
    simp to_z-of_z (omega (arith, ints, c.east.ensures, x.not_low))

pub noon_of-requires-clause-east_not_high : goal.noon_of-requires-clause-east_not_high
noon_of-requires-clause-east_not_high c =
    let east : FitsSigned w64 c.east.result = search rules in
    let x = east_near c.args.order.now.district c.has_no_fault.ensures in
    simp to_z-of_z (omega (arith, ints, c.east.ensures, x.not_high))

pub returns-clause-value : goal.returns-clause-value
returns-clause-value c =
    let west : FitsSigned w64 c.west.result = search rules in
    let east : FitsSigned w64 c.east.result = search rules in
    let offset : FitsSigned w32 c.args.offset = c.ranges.offset in
    let noon : FitsSigned w32 c.noon_of.result = search rules in
    simp to_z-of_z (noon_is (asked_of c.args.order.now) c.args.offset c.noon_of.result c.west.result c.east.result
    (simp to_z-of_z at c.noon_of.ensures.value) c.west.ensures c.east.ensures)

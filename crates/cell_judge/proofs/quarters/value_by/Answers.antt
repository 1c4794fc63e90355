use Rattle.cell_judge.proofs.SineLemmas.{sum_fits}
use Rattle.cell_judge.proofs.quarters.value_by.Goals as goal

pub sum-requires-clause-low_in_range : goal.sum-requires-clause-low_in_range
sum-requires-clause-low_in_range c =
    let sine = c.requires.sine.above c.in-Above.low c.in-Above.high c.in-Above.is in
    (sum_fits c.altitude_sine_by.result c.args.sine c.altitude_sine_by.ensures.bound sine.small).low

pub sum-requires-clause-high_in_range : goal.sum-requires-clause-high_in_range
sum-requires-clause-high_in_range c =
    let sine = c.requires.sine.above c.in-Above.low c.in-Above.high c.in-Above.is in
    (sum_fits c.altitude_sine_by.result c.args.sine c.altitude_sine_by.ensures.bound sine.small).high

pub sum-requires-in-Below-clause-low_in_range : goal.sum-requires-in-Below-clause-low_in_range
sum-requires-in-Below-clause-low_in_range c =
    let sine = c.requires.sine.below c.in-Below.low c.in-Below.high c.in-Below.is in
    (sum_fits c.altitude_sine_by-in-Below.result c.args.sine c.altitude_sine_by-in-Below.ensures.bound sine.small).low

pub sum-requires-in-Below-clause-high_in_range : goal.sum-requires-in-Below-clause-high_in_range
sum-requires-in-Below-clause-high_in_range c =
    let sine = c.requires.sine.below c.in-Below.low c.in-Below.high c.in-Below.is in
    (sum_fits c.altitude_sine_by-in-Below.result c.args.sine c.altitude_sine_by-in-Below.ensures.bound sine.small).high

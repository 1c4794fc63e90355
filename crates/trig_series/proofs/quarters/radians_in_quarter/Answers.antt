use Rattle.std.proofs.Common.{◌≡◌, ◌∙◌, ap, arith, to_z, of_z}
use Rattle.std.specs.Int.{w64}
use Rattle.std.proofs.lemmas.Int.{ints}
use Rattle.fixed_interval.specs.Grid.{Range, grid_times_ratio}
use Rattle.fixed_interval.proofs.Bits.{bits_of}
use Rattle.trig_series.specs.Angle.{range_of}
use Rattle.trig_series.specs.Pi.{grid_pi}
use Rattle.trig_series.specs.Quarters.{half_turn}
use Rattle.trig_series.proofs.QuarterLaws.{is_piece}
use Rattle.trig_series.proofs.quarters.radians_in_quarter.Goals as goal

pub overflow_cast-low : goal.overflow_cast-low
overflow_cast-low c =
    let p = is_piece (range_of c.args.a) c.args.quarter c.turned_back.result c.turned_back-2.result c.max-low.result c.min-high.result c.args.a.low_in_range c.args.a.high_in_range c.args.a.ordered c.requires c.turned_back.ensures c.turned_back-2.ensures c.max-low.ensures.value c.min-high.ensures.value in
    omega (arith, ints, p.low_small, p.high_small, p.ordered)

pub overflow_cast-high : goal.overflow_cast-high
overflow_cast-high c =
    let p = is_piece (range_of c.args.a) c.args.quarter c.turned_back.result c.turned_back-2.result c.max-low.result c.min-high.result c.args.a.low_in_range c.args.a.high_in_range c.args.a.ordered c.requires c.turned_back.ensures c.turned_back-2.ensures c.max-low.ensures.value c.min-high.ensures.value in
    omega (arith, ints, p.low_small, p.high_small, p.ordered)

pub radians-requires-clause-ordered : goal.radians-requires-clause-ordered
radians-requires-clause-ordered c =
    let p = is_piece (range_of c.args.a) c.args.quarter c.turned_back.result c.turned_back-2.result c.max-low.result c.min-high.result c.args.a.low_in_range c.args.a.high_in_range c.args.a.ordered c.requires c.turned_back.ensures c.turned_back-2.ensures c.max-low.ensures.value c.min-high.ensures.value in
    omega (arith, ints, p.low_small, p.high_small, p.ordered)

pub radians-requires-clause-low_in_range : goal.radians-requires-clause-low_in_range
radians-requires-clause-low_in_range c =
    let p = is_piece (range_of c.args.a) c.args.quarter c.turned_back.result c.turned_back-2.result c.max-low.result c.min-high.result c.args.a.low_in_range c.args.a.high_in_range c.args.a.ordered c.requires c.turned_back.ensures c.turned_back-2.ensures c.max-low.ensures.value c.min-high.ensures.value in
    omega (arith, ints, p.low_small, p.high_small, p.ordered)

pub radians-requires-clause-high_in_range : goal.radians-requires-clause-high_in_range
radians-requires-clause-high_in_range c =
    let p = is_piece (range_of c.args.a) c.args.quarter c.turned_back.result c.turned_back-2.result c.max-low.result c.min-high.result c.args.a.low_in_range c.args.a.high_in_range c.args.a.ordered c.requires c.turned_back.ensures c.turned_back-2.ensures c.max-low.ensures.value c.min-high.ensures.value in
    omega (arith, ints, p.low_small, p.high_small, p.ordered)

pub returns-clause-value : goal.returns-clause-value
returns-clause-value c =
    let p = is_piece (range_of c.args.a) c.args.quarter c.turned_back.result c.turned_back-2.result c.max-low.result c.min-high.result c.args.a.low_in_range c.args.a.high_in_range c.args.a.ordered c.requires c.turned_back.ensures c.turned_back-2.ensures c.max-low.ensures.value c.min-high.ensures.value in
    let low_word : to_z w64 (of_z w64 (bits_of c.max-low.result)) ≡ c.max-low.result = omega (arith, ints, p.low_small) in
    let high_word : to_z w64 (of_z w64 (bits_of c.min-high.result)) ≡ c.min-high.result = omega (arith, ints, p.high_small) in
    let low = low_word ∙ p.low_is in
    let high = high_word ∙ p.high_is in
    c.radians.ensures.value ∙ ap (λ (r : Range). grid_times_ratio grid_pi r half_turn) (λ i. record { lo = low i; hi = high i })

use Rattle.std.proofs.Common.{◌≡◌, ◌≤◌, ℤ, ◌+ℤ◌, ◌∙◌, ap, sym, subst, arith}
use Rattle.std.proofs.lemmas.Int.{ints}
use Rattle.fixed_interval.specs.Grid.{Ends, reach, grid_times_ratio}
use Rattle.fixed_interval.specs.Interval.{ends}
use Rattle.fixed_interval.proofs.Bits.{bits_of, fitting, summed}
use Rattle.trig_series.specs.Angle.{range_of}
use Rattle.trig_series.specs.Laws.{sine_limit}
use Rattle.trig_series.specs.Pi.{grid_pi}
use Rattle.trig_series.specs.Quarters.{half_turn, grid_piece}
use Rattle.trig_series.specs.Series.{grid_sine_series, grid_cosine_series}
use Rattle.trig_series.specs.Sine.{modulo_4, grid_quarters_on, grid_sine_beyond}
use Rattle.trig_series.proofs.QuarterLaws.{quarter_small}
use Rattle.trig_series.proofs.PieceWidths.{reach-in_quarter}
use Rattle.trig_series.proofs.SineSteps.{beyond}
use Rattle.trig_series.proofs.quarters.sine_in_quarter.Goals as goal
use Rattle.trig_series.proofs.quarters.sine_in_quarter.Goals.{After-sine_beyond}

pub overflow_add-quarter : goal.overflow_add-quarter
overflow_add-quarter c = let small = quarter_small (range_of c.args.a) c.args.quarter c.args.a.low_in_range c.args.a.high_in_range c.requires.met in omega (arith, ints, small, c.requires.ahead_small)

value : (c : After-sine_beyond) → ends c.sine_beyond.result ≡ grid_sine_beyond (c.args.quarter +ℤ c.args.ahead) (grid_piece (range_of c.args.a) c.args.quarter)
value c =
    let small = quarter_small (range_of c.args.a) c.args.quarter c.args.a.low_in_range c.args.a.high_in_range c.requires.met in
    let quarters : bits_of (bits_of c.args.quarter +ℤ bits_of c.args.ahead) ≡ c.args.quarter +ℤ c.args.ahead = summed c.args.quarter c.args.ahead (omega arith) (omega (arith, c.requires.ahead_small)) in
    let x = ends c.radians_in_quarter.result in
    c.sine_beyond.ensures ∙ ap (λ (z : ℤ). grid_quarters_on (modulo_4 z) (grid_sine_series x) (grid_cosine_series x)) quarters ∙ beyond (c.args.quarter +ℤ c.args.ahead) (grid_piece (range_of c.args.a) c.args.quarter) x (c.radians_in_quarter.ensures.value ∙ ap (λ (z : ℤ). grid_times_ratio grid_pi (grid_piece (range_of c.args.a) z) half_turn) (fitting c.args.quarter c.ranges.quarter))

pub returns-clause-value : goal.returns-clause-value
returns-clause-value c = value c

pub returns-clause-bound : goal.returns-clause-bound
returns-clause-bound c =
    let limit = subst (λ (e : Ends). reach e ≤ sine_limit) (sym (value c)) (reach-in_quarter (range_of c.args.a) c.args.quarter (c.args.quarter +ℤ c.args.ahead) c.args.a.ordered c.requires.met) in
    omega (arith, limit)

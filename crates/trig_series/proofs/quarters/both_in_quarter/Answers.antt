use Rattle.std.proofs.Common.{◌≡◌, ◌≤◌, ℤ, pos, ◌+ℤ◌, ◌∙◌, ap, sym, subst, arith}
use Rattle.fixed_interval.specs.Grid.{Ends, reach, grid_times_ratio}
use Rattle.fixed_interval.specs.Interval.{ends}
use Rattle.fixed_interval.proofs.Bits.{fitting}
use Rattle.trig_series.specs.Angle.{range_of}
use Rattle.trig_series.specs.Laws.{sine_limit}
use Rattle.trig_series.specs.Pi.{grid_pi}
use Rattle.trig_series.specs.Quarters.{half_turn, grid_piece}
use Rattle.trig_series.specs.Series.{grid_sine_series, grid_cosine_series}
use Rattle.trig_series.specs.Sine.{modulo_4, grid_quarters_on, grid_sine_beyond}
use Rattle.trig_series.proofs.PieceWidths.{reach-in_quarter}
use Rattle.trig_series.proofs.SineSteps.{beyond}
use Rattle.trig_series.proofs.quarters.both_in_quarter.Goals as goal
use Rattle.trig_series.proofs.quarters.both_in_quarter.Goals.{After-both_beyond}

sine : (c : After-both_beyond) → ends c.both_beyond.result.sine ≡ grid_sine_beyond c.args.quarter (grid_piece (range_of c.args.a) c.args.quarter)
sine c =
    let x = ends c.radians_in_quarter.result in
    c.both_beyond.ensures.sine ∙ ap (λ (z : ℤ). grid_quarters_on (modulo_4 z) (grid_sine_series x) (grid_cosine_series x)) (fitting c.args.quarter c.ranges.quarter) ∙ beyond c.args.quarter (grid_piece (range_of c.args.a) c.args.quarter) x (c.radians_in_quarter.ensures.value ∙ ap (λ (z : ℤ). grid_times_ratio grid_pi (grid_piece (range_of c.args.a) z) half_turn) (fitting c.args.quarter c.ranges.quarter))

cosine : (c : After-both_beyond) → ends c.both_beyond.result.cosine ≡ grid_sine_beyond (c.args.quarter +ℤ pos 1) (grid_piece (range_of c.args.a) c.args.quarter)
cosine c =
    let x = ends c.radians_in_quarter.result in
    c.both_beyond.ensures.cosine ∙ ap (λ (z : ℤ). grid_quarters_on (modulo_4 (z +ℤ pos 1)) (grid_sine_series x) (grid_cosine_series x)) (fitting c.args.quarter c.ranges.quarter) ∙ beyond (c.args.quarter +ℤ pos 1) (grid_piece (range_of c.args.a) c.args.quarter) x (c.radians_in_quarter.ensures.value ∙ ap (λ (z : ℤ). grid_times_ratio grid_pi (grid_piece (range_of c.args.a) z) half_turn) (fitting c.args.quarter c.ranges.quarter))

pub returns-clause-sine : goal.returns-clause-sine
returns-clause-sine c = sine c

pub returns-clause-cosine : goal.returns-clause-cosine
returns-clause-cosine c = cosine c

pub returns-clause-sine_bound : goal.returns-clause-sine_bound
returns-clause-sine_bound c =
    let limit = subst (λ (e : Ends). reach e ≤ sine_limit) (sym (sine c)) (reach-in_quarter (range_of c.args.a) c.args.quarter c.args.quarter c.args.a.ordered c.requires) in
    omega (arith, limit)

pub returns-clause-cosine_bound : goal.returns-clause-cosine_bound
returns-clause-cosine_bound c =
    let limit = subst (λ (e : Ends). reach e ≤ sine_limit) (sym (cosine c)) (reach-in_quarter (range_of c.args.a) c.args.quarter (c.args.quarter +ℤ pos 1) c.args.a.ordered c.requires) in
    omega (arith, limit)

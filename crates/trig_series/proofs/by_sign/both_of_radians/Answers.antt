use Rattle.std.proofs.Common.{ap, ◌∙◌, arith}
use Rattle.std.proofs.lemmas.Int.{ints}
use Rattle.fixed_interval.specs.Grid.{Ends, grid_negated}
use Rattle.fixed_interval.specs.Interval.{ends}
use Rattle.fixed_interval.proofs.GridLaws.{grid_negated-is}
use Rattle.trig_series.specs.Series.{grid_sine_series, grid_cosine_series}
use Rattle.trig_series.proofs.Mirrored.{negated_twice, sine_negated, cosine_negated}
use Rattle.trig_series.proofs.by_sign.both_of_radians.Goals as goal

pub of-requires-then-x-le0-clause-not_negative : goal.of-requires-then-x-le0-clause-not_negative
of-requires-then-x-le0-clause-not_negative c =
    let low = ap (λ (e : Ends). e.lo) (c.negated.ensures.value ∙ grid_negated-is (ends c.args.x)) in
    omega (arith, ints, low, c.if-x-le0.true, c.args.x.high_in_range)

pub returns-then-x-le0-clause-sine : goal.returns-then-x-le0-clause-sine
returns-then-x-le0-clause-sine c = c.negated-then-x-le0.ensures.value ∙ ap grid_negated (c.both_of_magnitudes-then-x-le0.ensures.sine ∙ ap grid_sine_series (c.of-then-x-le0.ensures ∙ c.negated.ensures.value) ∙ sine_negated (ends c.args.x)) ∙ negated_twice (grid_sine_series (ends c.args.x))

pub returns-then-x-le0-clause-cosine : goal.returns-then-x-le0-clause-cosine
returns-then-x-le0-clause-cosine c = c.both_of_magnitudes-then-x-le0.ensures.cosine ∙ ap grid_cosine_series (c.of-then-x-le0.ensures ∙ c.negated.ensures.value) ∙ cosine_negated (ends c.args.x)

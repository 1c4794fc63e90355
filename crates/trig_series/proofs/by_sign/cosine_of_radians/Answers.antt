use Rattle.std.proofs.Common.{ap, ◌∙◌, arith}
use Rattle.std.proofs.lemmas.Int.{ints}
use Rattle.fixed_interval.specs.Grid.{Ends}
use Rattle.fixed_interval.specs.Interval.{ends}
use Rattle.fixed_interval.proofs.GridLaws.{grid_negated-is}
use Rattle.trig_series.specs.Series.{grid_cosine_series}
use Rattle.trig_series.proofs.Mirrored.{cosine_negated}
use Rattle.trig_series.proofs.by_sign.cosine_of_radians.Goals as goal

pub of-requires-then-x-le0-clause-not_negative : goal.of-requires-then-x-le0-clause-not_negative
of-requires-then-x-le0-clause-not_negative c =
    let low = ap (λ (e : Ends). e.lo) (c.negated.ensures.value ∙ grid_negated-is (ends c.args.x)) in
    omega (arith, ints, low, c.if-x-le0.true, c.args.x.high_in_range)

pub returns-then-x-le0-clause-value : goal.returns-then-x-le0-clause-value
returns-then-x-le0-clause-value c = c.cosine_of_magnitudes-then-x-le0.ensures.value ∙ ap grid_cosine_series (c.of-then-x-le0.ensures ∙ c.negated.ensures.value) ∙ cosine_negated (ends c.args.x)

use Rattle.std.proofs.Common.{◌≡◌, ◌∙◌, ap, ℤ, pos, arith}
use Rattle.std.specs.Int.{int_rem_euclid}
use Rattle.std.proofs.lemmas.Int.{ints}
use Rattle.fixed_interval.specs.Grid.{grid_negated}
use Rattle.fixed_interval.specs.Interval.{ends}
use Rattle.fixed_interval.proofs.Bits.{fitting}
use Rattle.trig_series.specs.Series.{grid_sine_series, grid_cosine_series}
use Rattle.trig_series.specs.Sine.{grid_quarters_on}
use Rattle.trig_series.proofs.SineSteps.{turned}
use Rattle.trig_series.proofs.quarters.sine_beyond.Goals as goal
use Rattle.trig_series.proofs.quarters.sine_beyond.Goals.{in_default-via-then-rem_euclid-lt0, in_default-via-else-rem_euclid-lt0+else-this-lt1+else-this-lt2+else-this-lt3}

pub returns-in-0 : goal.returns-in-0
unfolding grid_quarters_on
returns-in-0 c =
    let r = c.rem_euclid.result in
    let of_quarters : c.rem_euclid.result ≡ int_rem_euclid c.args.quarters (pos 4) = c.rem_euclid.ensures.value ∙ ap (λ (z : ℤ). int_rem_euclid z (pos 4)) (fitting c.args.quarters c.ranges.quarters) in
    let is : c.rem_euclid.result ≡ pos 0 = omega (arith, ints) in
    c.sine_of_radians.ensures.value ∙ turned 0 c.args.quarters r (grid_sine_series (ends c.args.x)) (grid_cosine_series (ends c.args.x)) of_quarters is

pub returns-in-1 : goal.returns-in-1
unfolding grid_quarters_on
returns-in-1 c =
    let r = c.rem_euclid.result in
    let of_quarters : c.rem_euclid.result ≡ int_rem_euclid c.args.quarters (pos 4) = c.rem_euclid.ensures.value ∙ ap (λ (z : ℤ). int_rem_euclid z (pos 4)) (fitting c.args.quarters c.ranges.quarters) in
    let is : c.rem_euclid.result ≡ pos 1 = omega (arith, ints) in
    c.cosine_of_radians.ensures.value ∙ turned 1 c.args.quarters r (grid_sine_series (ends c.args.x)) (grid_cosine_series (ends c.args.x)) of_quarters is

pub returns-in-2 : goal.returns-in-2
unfolding grid_quarters_on
returns-in-2 c =
    let r = c.rem_euclid.result in
    let of_quarters : c.rem_euclid.result ≡ int_rem_euclid c.args.quarters (pos 4) = c.rem_euclid.ensures.value ∙ ap (λ (z : ℤ). int_rem_euclid z (pos 4)) (fitting c.args.quarters c.ranges.quarters) in
    let is : c.rem_euclid.result ≡ pos 2 = omega (arith, ints) in
    c.negated.ensures.value ∙ ap grid_negated c.sine_of_radians-in-2.ensures.value ∙ turned 2 c.args.quarters r (grid_sine_series (ends c.args.x)) (grid_cosine_series (ends c.args.x)) of_quarters is

pub returns-in_default : goal.returns-in_default
unfolding grid_quarters_on
returns-in_default c =
    let r = c.rem_euclid.result in
    let of_quarters : c.rem_euclid.result ≡ int_rem_euclid c.args.quarters (pos 4) = c.rem_euclid.ensures.value ∙ ap (λ (z : ℤ). int_rem_euclid z (pos 4)) (fitting c.args.quarters c.ranges.quarters) in
    let is : c.rem_euclid.result ≡ pos 3 = elim c.in_default.branch [ in_default-via-then-rem_euclid-lt0 w ↦ omega (arith, ints) | in_default-via-else-rem_euclid-lt0+else-this-lt1+else-this-lt2+else-this-lt3 w ↦ omega (arith, ints) ] in
    c.negated-in_default.ensures.value ∙ ap grid_negated c.cosine_of_radians-in_default.ensures.value ∙ turned 3 c.args.quarters r (grid_sine_series (ends c.args.x)) (grid_cosine_series (ends c.args.x)) of_quarters is

use Rattle.std.proofs.Common.{◌≡◌, ◌∙◌, ap, refl, ℤ, pos, arith}
use Rattle.std.specs.Int.{int_rem_euclid}
use Rattle.std.proofs.lemmas.Int.{ints}
use Rattle.fixed_interval.specs.Grid.{grid_negated}
use Rattle.fixed_interval.specs.Interval.{ends}
use Rattle.fixed_interval.proofs.Bits.{fitting}
use Rattle.trig_series.specs.Series.{grid_sine_series, grid_cosine_series}
use Rattle.trig_series.specs.Sine.{grid_quarters_on}
use Rattle.trig_series.proofs.SineSteps.{turned, turned_next}
use Rattle.trig_series.proofs.quarters.both_beyond.Goals as goal
use Rattle.trig_series.proofs.quarters.both_beyond.Goals.{in_default-via-then-rem_euclid-lt0, in_default-via-else-rem_euclid-lt0+else-this-lt1+else-this-lt2+else-this-lt3}

pub returns-in-0-clause-sine : goal.returns-in-0-clause-sine
unfolding grid_quarters_on
returns-in-0-clause-sine c =
    let r = c.rem_euclid.result in
    let of_quarters : c.rem_euclid.result ≡ int_rem_euclid c.args.quarters (pos 4) = c.rem_euclid.ensures.value ∙ ap (λ (z : ℤ). int_rem_euclid z (pos 4)) (fitting c.args.quarters c.ranges.quarters) in
    let is : c.rem_euclid.result ≡ pos 0 = omega (arith, ints) in
    c.both_of_radians.ensures.sine ∙ turned 0 c.args.quarters r (grid_sine_series (ends c.args.x)) (grid_cosine_series (ends c.args.x)) of_quarters is

pub returns-in-0-clause-cosine : goal.returns-in-0-clause-cosine
unfolding grid_quarters_on
returns-in-0-clause-cosine c =
    let r = c.rem_euclid.result in
    let of_quarters : c.rem_euclid.result ≡ int_rem_euclid c.args.quarters (pos 4) = c.rem_euclid.ensures.value ∙ ap (λ (z : ℤ). int_rem_euclid z (pos 4)) (fitting c.args.quarters c.ranges.quarters) in
    let is : c.rem_euclid.result ≡ pos 0 = omega (arith, ints) in
    c.both_of_radians.ensures.cosine ∙ turned_next 0 1 c.args.quarters r (grid_sine_series (ends c.args.x)) (grid_cosine_series (ends c.args.x)) of_quarters is refl

pub returns-in-1-clause-sine : goal.returns-in-1-clause-sine
unfolding grid_quarters_on
returns-in-1-clause-sine c =
    let r = c.rem_euclid.result in
    let of_quarters : c.rem_euclid.result ≡ int_rem_euclid c.args.quarters (pos 4) = c.rem_euclid.ensures.value ∙ ap (λ (z : ℤ). int_rem_euclid z (pos 4)) (fitting c.args.quarters c.ranges.quarters) in
    let is : c.rem_euclid.result ≡ pos 1 = omega (arith, ints) in
    c.both_of_radians.ensures.cosine ∙ turned 1 c.args.quarters r (grid_sine_series (ends c.args.x)) (grid_cosine_series (ends c.args.x)) of_quarters is

pub returns-in-1-clause-cosine : goal.returns-in-1-clause-cosine
unfolding grid_quarters_on
returns-in-1-clause-cosine c =
    let r = c.rem_euclid.result in
    let of_quarters : c.rem_euclid.result ≡ int_rem_euclid c.args.quarters (pos 4) = c.rem_euclid.ensures.value ∙ ap (λ (z : ℤ). int_rem_euclid z (pos 4)) (fitting c.args.quarters c.ranges.quarters) in
    let is : c.rem_euclid.result ≡ pos 1 = omega (arith, ints) in
    c.negated.ensures.value ∙ ap grid_negated c.both_of_radians.ensures.sine ∙ turned_next 1 2 c.args.quarters r (grid_sine_series (ends c.args.x)) (grid_cosine_series (ends c.args.x)) of_quarters is refl

pub returns-in-2-clause-sine : goal.returns-in-2-clause-sine
unfolding grid_quarters_on
returns-in-2-clause-sine c =
    let r = c.rem_euclid.result in
    let of_quarters : c.rem_euclid.result ≡ int_rem_euclid c.args.quarters (pos 4) = c.rem_euclid.ensures.value ∙ ap (λ (z : ℤ). int_rem_euclid z (pos 4)) (fitting c.args.quarters c.ranges.quarters) in
    let is : c.rem_euclid.result ≡ pos 2 = omega (arith, ints) in
    c.negated-in-2.ensures.value ∙ ap grid_negated c.both_of_radians.ensures.sine ∙ turned 2 c.args.quarters r (grid_sine_series (ends c.args.x)) (grid_cosine_series (ends c.args.x)) of_quarters is

pub returns-in-2-clause-cosine : goal.returns-in-2-clause-cosine
unfolding grid_quarters_on
returns-in-2-clause-cosine c =
    let r = c.rem_euclid.result in
    let of_quarters : c.rem_euclid.result ≡ int_rem_euclid c.args.quarters (pos 4) = c.rem_euclid.ensures.value ∙ ap (λ (z : ℤ). int_rem_euclid z (pos 4)) (fitting c.args.quarters c.ranges.quarters) in
    let is : c.rem_euclid.result ≡ pos 2 = omega (arith, ints) in
    c.negated-in-2-2.ensures.value ∙ ap grid_negated c.both_of_radians.ensures.cosine ∙ turned_next 2 3 c.args.quarters r (grid_sine_series (ends c.args.x)) (grid_cosine_series (ends c.args.x)) of_quarters is refl

pub returns-in_default-clause-sine : goal.returns-in_default-clause-sine
unfolding grid_quarters_on
returns-in_default-clause-sine c =
    let r = c.rem_euclid.result in
    let of_quarters : c.rem_euclid.result ≡ int_rem_euclid c.args.quarters (pos 4) = c.rem_euclid.ensures.value ∙ ap (λ (z : ℤ). int_rem_euclid z (pos 4)) (fitting c.args.quarters c.ranges.quarters) in
    let is : c.rem_euclid.result ≡ pos 3 = elim c.in_default.branch [ in_default-via-then-rem_euclid-lt0 w ↦ omega (arith, ints) | in_default-via-else-rem_euclid-lt0+else-this-lt1+else-this-lt2+else-this-lt3 w ↦ omega (arith, ints) ] in
    c.negated-in_default.ensures.value ∙ ap grid_negated c.both_of_radians.ensures.cosine ∙ turned 3 c.args.quarters r (grid_sine_series (ends c.args.x)) (grid_cosine_series (ends c.args.x)) of_quarters is

pub returns-in_default-clause-cosine : goal.returns-in_default-clause-cosine
unfolding grid_quarters_on
returns-in_default-clause-cosine c =
    let r = c.rem_euclid.result in
    let of_quarters : c.rem_euclid.result ≡ int_rem_euclid c.args.quarters (pos 4) = c.rem_euclid.ensures.value ∙ ap (λ (z : ℤ). int_rem_euclid z (pos 4)) (fitting c.args.quarters c.ranges.quarters) in
    let is : c.rem_euclid.result ≡ pos 3 = elim c.in_default.branch [ in_default-via-then-rem_euclid-lt0 w ↦ omega (arith, ints) | in_default-via-else-rem_euclid-lt0+else-this-lt1+else-this-lt2+else-this-lt3 w ↦ omega (arith, ints) ] in
    c.both_of_radians.ensures.sine ∙ turned_next 3 0 c.args.quarters r (grid_sine_series (ends c.args.x)) (grid_cosine_series (ends c.args.x)) of_quarters is refl

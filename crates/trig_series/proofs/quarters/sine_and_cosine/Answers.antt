use Rattle.std.proofs.Common.{◌≡◌, ◌<◌, ◌≤ℤ◌, ◌∙◌, ap, sym, subst, ℤ, pos, ◌+ℤ◌, arith, to_z}
use Rattle.std.specs.Int.{w128, int_gap}
use Rattle.std.proofs.lemmas.Int.{ints}
use Rattle.fixed_interval.specs.Fraction.{over}
use Rattle.fixed_interval.specs.Grid.{grid_hull}
use Rattle.fixed_interval.specs.Interval.{ends}
use Rattle.fixed_interval.proofs.Bits.{bits_of}
use Rattle.trig_series.specs.Angle.{range_of}
use Rattle.trig_series.specs.Quarters.{Meets, first_quarter, last_quarter, grid_piece, grid_hull_from, grid_over_quarters}
use Rattle.trig_series.specs.Sine.{grid_sine_beyond, grid_sine, grid_cosine}
use Rattle.trig_series.proofs.QuarterLaws.{first_before_last, meets_between, int_gap-falls, before, not_before, at_end}
use Rattle.trig_series.proofs.SineSteps.{hull_start, hull_step}
use Rattle.trig_series.proofs.quarters.sine_and_cosine.Goals as goal

pub both_in_quarter-both-requires : goal.both_in_quarter-both-requires
both_in_quarter-both-requires c =
    let first = at_end first_quarter c.first_quarter-quarter.result c.args.a.lo c.first_quarter-quarter.ensures.value c.args.a.low_in_range in
    let last = at_end last_quarter c.last_quarter-last.result c.args.a.hi c.last_quarter-last.ensures.value c.args.a.high_in_range in
    let order = first_before_last c.args.a.lo c.args.a.hi c.args.a.ordered in
    let start : bits_of c.first_quarter-quarter.result ≡ first_quarter (over c.args.a.lo 1) = omega (arith, ints, first, c.first_quarter-quarter.ensures.bound) in
    let same : first_quarter (over c.args.a.lo 1) ≤ℤ first_quarter (over c.args.a.lo 1) = omega (arith, ints) in
    subst (λ (q : ℤ). Meets (range_of c.args.a) q) (sym start) (meets_between (range_of c.args.a) (first_quarter (over c.args.a.lo 1)) same order)

pub loop-quarter-init : goal.loop-quarter-init
loop-quarter-init c =
    let first = at_end first_quarter c.first_quarter-quarter.result c.args.a.lo c.first_quarter-quarter.ensures.value c.args.a.low_in_range in
    let last = at_end last_quarter c.last_quarter-last.result c.args.a.hi c.last_quarter-last.ensures.value c.args.a.high_in_range in
    let order = first_before_last c.args.a.lo c.args.a.hi c.args.a.ordered in
    let start : bits_of c.first_quarter-quarter.result ≡ first_quarter (over c.args.a.lo 1) = omega (arith, ints, first, c.first_quarter-quarter.ensures.bound) in
    let f = λ (q : ℤ). grid_sine_beyond q (grid_piece (range_of c.args.a) q) in
    let g = λ (q : ℤ). grid_sine_beyond (q +ℤ pos 1) (grid_piece (range_of c.args.a) q) in
    record {
      from_first = omega (arith, ints, start);
      to_last = omega (arith, ints, start, order);
      sine = hull_start f (first_quarter (over c.args.a.lo 1)) (bits_of c.first_quarter-quarter.result) (ends c.both_in_quarter-both.result.sine) start c.both_in_quarter-both.ensures.sine;
      cosine = hull_start g (first_quarter (over c.args.a.lo 1)) (bits_of c.first_quarter-quarter.result) (ends c.both_in_quarter-both.result.cosine) start c.both_in_quarter-both.ensures.cosine;
      sine_bound = c.both_in_quarter-both.ensures.sine_bound;
      cosine_bound = c.both_in_quarter-both.ensures.cosine_bound;
    }

pub overflow_add-quarter : goal.overflow_add-quarter
overflow_add-quarter c =
    let first = at_end first_quarter c.first_quarter-quarter.result c.args.a.lo c.first_quarter-quarter.ensures.value c.args.a.low_in_range in
    let last = at_end last_quarter c.last_quarter-last.result c.args.a.hi c.last_quarter-last.ensures.value c.args.a.high_in_range in
    let order = first_before_last c.args.a.lo c.args.a.hi c.args.a.ordered in
    let below = before (to_z w128 c.loop-quarter.quarter-bits) (bits_of c.last_quarter-last.result) c.loop-quarter-test.true in
    omega (arith, ints, first, last, below, c.loop-quarter.invariant.from_first, c.first_quarter-quarter.ensures.bound, c.last_quarter-last.ensures.bound)

pub both_in_quarter-more-requires : goal.both_in_quarter-more-requires
both_in_quarter-more-requires c =
    let first = at_end first_quarter c.first_quarter-quarter.result c.args.a.lo c.first_quarter-quarter.ensures.value c.args.a.low_in_range in
    let last = at_end last_quarter c.last_quarter-last.result c.args.a.hi c.last_quarter-last.ensures.value c.args.a.high_in_range in
    let order = first_before_last c.args.a.lo c.args.a.hi c.args.a.ordered in
    let below = before (to_z w128 c.loop-quarter.quarter-bits) (bits_of c.last_quarter-last.result) c.loop-quarter-test.true in
    let quarter = to_z w128 c.loop-quarter.quarter-bits in
    let next : bits_of (to_z w128 c.loop-quarter.quarter-bits +ℤ pos 1) ≡ to_z w128 c.loop-quarter.quarter-bits +ℤ pos 1 = omega (arith, ints, first, last, below, c.loop-quarter.invariant.from_first, c.first_quarter-quarter.ensures.bound, c.last_quarter-last.ensures.bound) in
    let from_first : first_quarter (over c.args.a.lo 1) ≤ℤ (to_z w128 c.loop-quarter.quarter-bits +ℤ pos 1) = omega (arith, ints, c.loop-quarter.invariant.from_first) in
    let to_last : (to_z w128 c.loop-quarter.quarter-bits +ℤ pos 1) ≤ℤ last_quarter (over c.args.a.hi 1) = omega (arith, ints, last, below, c.last_quarter-last.ensures.bound) in
    subst (λ (q : ℤ). Meets (range_of c.args.a) q) (sym next) (meets_between (range_of c.args.a) (quarter +ℤ pos 1) from_first to_last)

pub loop-quarter-preserved : goal.loop-quarter-preserved
loop-quarter-preserved c =
    let first = at_end first_quarter c.first_quarter-quarter.result c.args.a.lo c.first_quarter-quarter.ensures.value c.args.a.low_in_range in
    let last = at_end last_quarter c.last_quarter-last.result c.args.a.hi c.last_quarter-last.ensures.value c.args.a.high_in_range in
    let order = first_before_last c.args.a.lo c.args.a.hi c.args.a.ordered in
    let below = before (to_z w128 c.loop-quarter.quarter-bits) (bits_of c.last_quarter-last.result) c.loop-quarter-test.true in
    let quarter = to_z w128 c.loop-quarter.quarter-bits in
    let next : bits_of (to_z w128 c.loop-quarter.quarter-bits +ℤ pos 1) ≡ to_z w128 c.loop-quarter.quarter-bits +ℤ pos 1 = omega (arith, ints, first, last, below, c.loop-quarter.invariant.from_first, c.first_quarter-quarter.ensures.bound, c.last_quarter-last.ensures.bound) in
    let from_first : first_quarter (over c.args.a.lo 1) ≤ℤ (to_z w128 c.loop-quarter.quarter-bits +ℤ pos 1) = omega (arith, ints, c.loop-quarter.invariant.from_first) in
    let to_last : (to_z w128 c.loop-quarter.quarter-bits +ℤ pos 1) ≤ℤ last_quarter (over c.args.a.hi 1) = omega (arith, ints, last, below, c.last_quarter-last.ensures.bound) in
    let f = λ (q : ℤ). grid_sine_beyond q (grid_piece (range_of c.args.a) q) in
    let g = λ (q : ℤ). grid_sine_beyond (q +ℤ pos 1) (grid_piece (range_of c.args.a) q) in
    let first_one = first_quarter (over c.args.a.lo 1) in
    let sine = c.both_in_quarter-more.ensures.sine ∙ ap f next in
    let cosine = c.both_in_quarter-more.ensures.cosine ∙ ap g next in
    record {
      from_first = omega (arith, ints, next, from_first);
      to_last = omega (arith, ints, next, to_last);
      sine = c.hull.ensures.value ∙ ap (grid_hull (ends c.loop-quarter.both.sine)) sine ∙ hull_step f first_one quarter (ends c.loop-quarter.both.sine) c.loop-quarter.invariant.from_first c.loop-quarter.invariant.sine ∙ ap (λ (z : ℤ). grid_hull_from f first_one (int_gap first_one z)) (sym next);
      cosine = c.hull-in-loop-quarter.ensures.value ∙ ap (grid_hull (ends c.loop-quarter.both.cosine)) cosine ∙ hull_step g first_one quarter (ends c.loop-quarter.both.cosine) c.loop-quarter.invariant.from_first c.loop-quarter.invariant.cosine ∙ ap (λ (z : ℤ). grid_hull_from g first_one (int_gap first_one z)) (sym next);
      sine_bound = omega (arith, c.hull.ensures.bound, c.loop-quarter.invariant.sine_bound, c.both_in_quarter-more.ensures.sine_bound);
      cosine_bound = omega (arith, c.hull-in-loop-quarter.ensures.bound, c.loop-quarter.invariant.cosine_bound, c.both_in_quarter-more.ensures.cosine_bound);
    }

pub loop-quarter-smaller : goal.loop-quarter-smaller
loop-quarter-smaller c =
    let first = at_end first_quarter c.first_quarter-quarter.result c.args.a.lo c.first_quarter-quarter.ensures.value c.args.a.low_in_range in
    let last = at_end last_quarter c.last_quarter-last.result c.args.a.hi c.last_quarter-last.ensures.value c.args.a.high_in_range in
    let order = first_before_last c.args.a.lo c.args.a.hi c.args.a.ordered in
    let below = before (to_z w128 c.loop-quarter.quarter-bits) (bits_of c.last_quarter-last.result) c.loop-quarter-test.true in
    let quarter = to_z w128 c.loop-quarter.quarter-bits in
    let next : bits_of (to_z w128 c.loop-quarter.quarter-bits +ℤ pos 1) ≡ to_z w128 c.loop-quarter.quarter-bits +ℤ pos 1 = omega (arith, ints, first, last, below, c.loop-quarter.invariant.from_first, c.first_quarter-quarter.ensures.bound, c.last_quarter-last.ensures.bound) in
    subst (λ (z : ℤ). int_gap z (bits_of c.last_quarter-last.result) < int_gap quarter (bits_of c.last_quarter-last.result)) (sym next) (int_gap-falls quarter (bits_of c.last_quarter-last.result) below)

pub returns-clause-sine : goal.returns-clause-sine
unfolding grid_sine grid_over_quarters
returns-clause-sine c =
    let first = at_end first_quarter c.first_quarter-quarter.result c.args.a.lo c.first_quarter-quarter.ensures.value c.args.a.low_in_range in
    let last = at_end last_quarter c.last_quarter-last.result c.args.a.hi c.last_quarter-last.ensures.value c.args.a.high_in_range in
    let beyond = not_before (to_z w128 c.loop-quarter.quarter-bits) (bits_of c.last_quarter-last.result) c.loop-quarter-test.false in
    let first_one = first_quarter (over c.args.a.lo 1) in
    let end : to_z w128 c.loop-quarter.quarter-bits ≡ last_quarter (over c.args.a.hi 1) = omega (arith, ints, last, beyond, c.loop-quarter.invariant.to_last, c.last_quarter-last.ensures.bound) in
    c.loop-quarter.invariant.sine ∙ ap (λ (z : ℤ). grid_hull_from (λ (q : ℤ). grid_sine_beyond q (grid_piece (range_of c.args.a) q)) first_one (int_gap first_one z)) end

pub returns-clause-cosine : goal.returns-clause-cosine
unfolding grid_cosine grid_over_quarters
returns-clause-cosine c =
    let first = at_end first_quarter c.first_quarter-quarter.result c.args.a.lo c.first_quarter-quarter.ensures.value c.args.a.low_in_range in
    let last = at_end last_quarter c.last_quarter-last.result c.args.a.hi c.last_quarter-last.ensures.value c.args.a.high_in_range in
    let beyond = not_before (to_z w128 c.loop-quarter.quarter-bits) (bits_of c.last_quarter-last.result) c.loop-quarter-test.false in
    let first_one = first_quarter (over c.args.a.lo 1) in
    let end : to_z w128 c.loop-quarter.quarter-bits ≡ last_quarter (over c.args.a.hi 1) = omega (arith, ints, last, beyond, c.loop-quarter.invariant.to_last, c.last_quarter-last.ensures.bound) in
    c.loop-quarter.invariant.cosine ∙ ap (λ (z : ℤ). grid_hull_from (λ (q : ℤ). grid_sine_beyond (q +ℤ pos 1) (grid_piece (range_of c.args.a) q)) first_one (int_gap first_one z)) end

use Rattle.std.proofs.Common.{◌≡◌, ◌≤◌, ◌∙◌, ap, ℤ, pos, ◌*ℤ◌, sym, subst, arith, to_z, of_z}
use Rattle.std.specs.Int.{w64, w128, int_min, int_max}
use Rattle.std.proofs.lemmas.Int.{ints}
use Rattle.fixed_interval.specs.Grid.{Ends, UNIT, reach, grid_times_ratio}
use Rattle.fixed_interval.specs.Interval.{ends}
use Rattle.fixed_interval.specs.Whole.{floor_over, ceil_over}
use Rattle.trig_series.specs.Pi.{grid_pi, pi_low, pi_high}
use Rattle.trig_series.specs.Quarters.{half_turn}
use Rattle.trig_series.proofs.PieceWidths.{reach-radians}
use Rattle.trig_series.proofs.RadianSteps.{radians-is, in_order}
use Rattle.trig_series.proofs.radians.radians.Goals as goal
use Rattle.trig_series.proofs.radians.radians.Goals.{After-upper, After-new}

low_end : (c : After-upper) → c.lower.result ≡ floor_over (int_min (pos pi_low *ℤ c.args.low) (pos pi_high *ℤ c.args.low)) half_turn
low_end c =
    let word : to_z w64 (of_z w64 c.args.low) ≡ c.args.low = omega (arith, ints) in
    c.lower.ensures ∙ ap (λ (z : ℤ). floor_over (int_min (pos pi_low *ℤ z) (pos pi_high *ℤ z)) half_turn) word

high_end : (c : After-upper) → c.upper.result ≡ ceil_over (int_max (pos pi_low *ℤ c.args.high) (pos pi_high *ℤ c.args.high)) half_turn
high_end c =
    let word : to_z w64 (of_z w64 c.args.high) ≡ c.args.high = omega (arith, ints) in
    c.upper.ensures ∙ ap (λ (z : ℤ). ceil_over (int_max (pos pi_low *ℤ z) (pos pi_high *ℤ z)) half_turn) word

pub new-requires-clause-ordered : goal.new-requires-clause-ordered
new-requires-clause-ordered c =
    let before = (goal.at.new-requires-clause-ordered c).After-upper in
    let low : to_z w128 (of_z w128 c.from.result) ≡ c.lower.result = omega (arith, ints, c.from.ensures) in
    let high : to_z w128 (of_z w128 c.from-2.result) ≡ c.upper.result = omega (arith, ints, c.from-2.ensures) in
    rw (low, high, low_end before, high_end before) (in_order c.args.low c.args.high c.requires.ordered)

value : (c : After-new) → ends c.new.result ≡ grid_times_ratio grid_pi (record { lo = c.args.low; hi = c.args.high }) half_turn
value c =
    let before = (goal.at.returns-clause-value c).After-upper in
    let low : to_z w128 (of_z w128 c.from.result) ≡ c.lower.result = omega (arith, ints, c.from.ensures) in
    let high : to_z w128 (of_z w128 c.from-2.result) ≡ c.upper.result = omega (arith, ints, c.from-2.ensures) in
    c.new.ensures ∙ (λ i. record { lo = (low ∙ low_end before) i; hi = (high ∙ high_end before) i }) ∙ sym (radians-is (record { lo = c.args.low; hi = c.args.high }) c.requires.ordered)

pub returns-clause-value : goal.returns-clause-value
returns-clause-value c = value c

pub returns-clause-bound : goal.returns-clause-bound
returns-clause-bound c = subst (λ (e : Ends). reach e ≤ UNIT) (sym (value c)) (reach-radians (record { lo = c.args.low; hi = c.args.high }) c.requires.low_in_range c.requires.ordered c.requires.high_in_range)

use Rattle.std.proofs.Common.{◌≡◌, ◌∙◌, ◌*◌, ◌≤◌, ap₂, sym, subst, ℤ, pos, neg_ℤ, ◌-ℤ◌, ◌*ℤ◌, ◌≤ℤ◌, unsigned_abs, arith}
use Rattle.std.specs.Int.{int_max}
use Rattle.std.proofs.lemmas.Int.{ints}
use Rattle.fixed_interval.specs.Grid.{Ends, UNIT, reach}
use Rattle.fixed_interval.specs.Interval.{ends}
use Rattle.fixed_interval.proofs.Bits.{bits_of}
use Rattle.trig_series.specs.Series.{grid_margin}
use Rattle.trig_series.proofs.Margins.{size, size_within, margin_from, reach-grid_margin}
use Rattle.trig_series.proofs.series.margin.Goals as goal
use Rattle.trig_series.proofs.series.margin.Goals.{After-max-more, After-new}

-- what `max` gave is the greatest magnitude
is_size : (c : After-max-more) → c.max-more.result ≡ size (ends c.args.next)
is_size c =
    let high : bits_of c.args.next.hi ≡ c.args.next.hi = omega (arith, ints, c.args.next.high_in_range) in
    let low : bits_of (pos 0 -ℤ bits_of c.args.next.lo) ≡ neg_ℤ c.args.next.lo = omega (arith, ints, c.args.next.low_in_range) in
    c.max-more.ensures.value ∙ ap₂ int_max high low

small : (c : After-max-more) → (pos 0 ≤ℤ c.max-more.result) × (unsigned_abs c.max-more.result ≤ UNIT)
small c = subst (λ (z : ℤ). (pos 0 ≤ℤ z) × (unsigned_abs z ≤ UNIT)) (sym (is_size c)) (size_within (ends c.args.next) UNIT c.args.next.ordered c.requires)

pub new-requires-clause-ordered : goal.new-requires-clause-ordered
new-requires-clause-ordered c = let within = small c in omega (arith, ints, within.0, within.1)

pub new-requires-clause-low_in_range : goal.new-requires-clause-low_in_range
new-requires-clause-low_in_range c = let within = small c in omega (arith, ints, within.0, within.1)

pub new-requires-clause-high_in_range : goal.new-requires-clause-high_in_range
new-requires-clause-high_in_range c = let within = small c in omega (arith, ints, within.0, within.1)

value : (c : After-new) → ends c.new.result ≡ grid_margin (ends c.args.next)
value c =
    let before = (goal.at.returns-clause-value c).After-max-more in
    let within = small before in
    let low : bits_of (pos 0 -ℤ bits_of (pos 2 *ℤ bits_of c.max-more.result)) ≡ neg_ℤ (c.max-more.result *ℤ pos 2) = omega (arith, ints, within.0, within.1) in
    let high : bits_of (pos 2 *ℤ bits_of c.max-more.result) ≡ c.max-more.result *ℤ pos 2 = omega (arith, ints, within.0, within.1) in
    margin_from (ends c.args.next) (ends c.new.result) c.max-more.result (c.new.ensures ∙ (λ i. record { lo = low i; hi = high i })) (is_size before)

pub returns-clause-value : goal.returns-clause-value
returns-clause-value c = value c

pub returns-clause-bound : goal.returns-clause-bound
returns-clause-bound c =
    let twice = subst (λ (e : Ends). reach e ≤ 2 * reach (ends c.args.next)) (sym (value c)) (reach-grid_margin (ends c.args.next)) in
    omega (arith, twice, c.requires)

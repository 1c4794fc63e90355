use Rattle.std.proofs.Common.{◌≡◌, ◌∙◌, ap, sym, pos, neg_ℤ, ◌-ℤ◌, arith}
use Rattle.std.proofs.lemmas.Int.{ints}
use Rattle.fixed_interval.specs.Grid.{reach, grid_negated}
use Rattle.fixed_interval.specs.Interval.{ends}
use Rattle.fixed_interval.proofs.Bits.{bits_of}
use Rattle.fixed_interval.proofs.GridLaws.{grid_negated-is}
use Rattle.trig_series.proofs.Margins.{reach-grid_negated}
use Rattle.trig_series.proofs.series.negated.Goals as goal
use Rattle.trig_series.proofs.series.negated.Goals.{After-new}

value : (c : After-new) → ends c.new.result ≡ grid_negated (ends c.args.a)
value c =
    let low : bits_of (pos 0 -ℤ bits_of c.args.a.hi) ≡ neg_ℤ c.args.a.hi = omega (arith, ints, c.args.a.high_in_range) in
    let high : bits_of (pos 0 -ℤ bits_of c.args.a.lo) ≡ neg_ℤ c.args.a.lo = omega (arith, ints, c.args.a.low_in_range) in
    c.new.ensures ∙ (λ i. record { lo = low i; hi = high i }) ∙ sym (grid_negated-is (ends c.args.a))

pub returns-clause-value : goal.returns-clause-value
returns-clause-value c = value c

pub returns-clause-bound : goal.returns-clause-bound
returns-clause-bound c = ap reach (value c) ∙ reach-grid_negated (ends c.args.a)

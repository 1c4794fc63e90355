use Rattle.std.proofs.Common.{ℤ, pos, neg_ℤ, arith, ap, lit≤}
use Rattle.std.proofs.lemmas.Int.{ints}
use Rattle.trig_series.proofs.RangeLemmas.{same_range}
use Rattle.fixed_interval.specs.Grid.{Range, enclosure_of_range, range_around}
use Rattle.meeus_terms.specs.Meeus.{second_coefficient, grid_second_coefficient}
use Rattle.meeus_terms.specs.Polynomials.{linear_top, falling}
use Rattle.meeus_terms.proofs.TopLemmas.{first_within, last_within, read, linear_here, floor_here, ceil_here}
use Rattle.solar_terms.specs.Sun.{minutes_of}
use Rattle.meeus_terms.proofs.MeeusLaws.{second_coefficient_within}
use Rattle.meeus_terms.proofs.lines.second_coefficient.Goals as goal

pub returns-clause-value : goal.returns-clause-value
unfolding grid_second_coefficient second_coefficient falling enclosure_of_range range_around
returns-clause-value c =
    let m = c.args.m in
    let low = read (λ (k : ℤ). linear_top (pos 2_878_992_000) (neg_ℤ (pos 14_544_000)) k 52_596_000) c.second_coefficient_at.result m.last (last_within m) c.second_coefficient_at.ensures.value (omega (arith, c.second_coefficient_at.ensures.bound)) in
    let high = read (λ (k : ℤ). linear_top (pos 2_878_992_000) (neg_ℤ (pos 14_544_000)) k 52_596_000) c.second_coefficient_at-2.result m.first (first_within m) c.second_coefficient_at-2.ensures.value (omega (arith, c.second_coefficient_at-2.ensures.bound)) in
    same_range _ _
    (floor_here _ c.second_coefficient_at.result _ _ 52_596_000 (lit≤ tt) c.whole_units.ensures.low low (linear_here m.last (last_within m) (pos 2_878_992_000) (neg_ℤ (pos 14_544_000))))
    (ceil_here _ c.second_coefficient_at-2.result _ _ 52_596_000 (lit≤ tt) c.whole_units.ensures.high high (linear_here m.first (first_within m) (pos 2_878_992_000) (neg_ℤ (pos 14_544_000))))

pub returns-clause-not_negative : goal.returns-clause-not_negative
returns-clause-not_negative c =
    let e = returns-clause-value c in
    let w = second_coefficient_within (minutes_of c.args.m) c.args.m.ordered in
    omega (arith, ints, ap (λ (r : Range). r.lo) e, w.low)

pub returns-clause-bound : goal.returns-clause-bound
returns-clause-bound c =
    let e = returns-clause-value c in
    let w = second_coefficient_within (minutes_of c.args.m) c.args.m.ordered in
    omega (arith, ints, ap (λ (r : Range). r.hi) e, w.high)

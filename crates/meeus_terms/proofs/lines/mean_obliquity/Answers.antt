use Rattle.std.proofs.Common.{ℤ, pos, neg_ℤ, arith, ap, lit≤}
use Rattle.std.proofs.lemmas.Int.{ints}
use Rattle.trig_series.proofs.RangeLemmas.{same_range}
use Rattle.fixed_interval.specs.Grid.{Range, enclosure_of_range, range_around}
use Rattle.meeus_terms.specs.Meeus.{mean_obliquity, grid_mean_obliquity}
use Rattle.meeus_terms.specs.Polynomials.{cubic_top, falling}
use Rattle.meeus_terms.proofs.TopLemmas.{first_within, last_within, read, cubic_fall, cubic_here, floor_here, ceil_here}
use Rattle.solar_terms.specs.Sun.{minutes_of}
use Rattle.meeus_terms.proofs.MeeusLaws.{mean_obliquity_within}
use Rattle.meeus_terms.proofs.lines.mean_obliquity.Goals as goal

pub whole_units-requires-clause-ordered : goal.whole_units-requires-clause-ordered
whole_units-requires-clause-ordered c =
    let m = c.args.m in
    let low = read (λ (k : ℤ). cubic_top (pos 3_375_257_920_000) (neg_ℤ (pos 1_872_600_000)) (neg_ℤ (pos 23_600)) (pos 72_520) k 52_596_000) c.mean_obliquity_at.result m.last (last_within m) c.mean_obliquity_at.ensures.value (omega (arith, c.mean_obliquity_at.ensures.bound)) in
    let high = read (λ (k : ℤ). cubic_top (pos 3_375_257_920_000) (neg_ℤ (pos 1_872_600_000)) (neg_ℤ (pos 23_600)) (pos 72_520) k 52_596_000) c.mean_obliquity_at-2.result m.first (first_within m) c.mean_obliquity_at-2.ensures.value (omega (arith, c.mean_obliquity_at-2.ensures.bound)) in
    rw (low, high) (cubic_fall (pos 3_375_257_920_000) (neg_ℤ (pos 1_872_600_000)) (neg_ℤ (pos 23_600)) (pos 72_520) m.first m.last (omega (arith, ints)) (first_within m) (last_within m) m.ordered)

pub returns-clause-value : goal.returns-clause-value
unfolding grid_mean_obliquity mean_obliquity falling enclosure_of_range range_around
returns-clause-value c =
    let m = c.args.m in
    let low = read (λ (k : ℤ). cubic_top (pos 3_375_257_920_000) (neg_ℤ (pos 1_872_600_000)) (neg_ℤ (pos 23_600)) (pos 72_520) k 52_596_000) c.mean_obliquity_at.result m.last (last_within m) c.mean_obliquity_at.ensures.value (omega (arith, c.mean_obliquity_at.ensures.bound)) in
    let high = read (λ (k : ℤ). cubic_top (pos 3_375_257_920_000) (neg_ℤ (pos 1_872_600_000)) (neg_ℤ (pos 23_600)) (pos 72_520) k 52_596_000) c.mean_obliquity_at-2.result m.first (first_within m) c.mean_obliquity_at-2.ensures.value (omega (arith, c.mean_obliquity_at-2.ensures.bound)) in
    same_range _ _
    (floor_here _ c.mean_obliquity_at.result _ _ 145_498_377_404_736_000_000_000 (lit≤ tt) c.whole_units.ensures.low low (cubic_here m.last (last_within m) (pos 3_375_257_920_000) (neg_ℤ (pos 1_872_600_000)) (neg_ℤ (pos 23_600)) (pos 72_520)))
    (ceil_here _ c.mean_obliquity_at-2.result _ _ 145_498_377_404_736_000_000_000 (lit≤ tt) c.whole_units.ensures.high high (cubic_here m.first (first_within m) (pos 3_375_257_920_000) (neg_ℤ (pos 1_872_600_000)) (neg_ℤ (pos 23_600)) (pos 72_520)))

pub returns-clause-low : goal.returns-clause-low
returns-clause-low c =
    let e = returns-clause-value c in
    let w = mean_obliquity_within (minutes_of c.args.m) c.args.m.ordered in
    omega (arith, ints, ap (λ (r : Range). r.lo) e, w.low)

pub returns-clause-high : goal.returns-clause-high
returns-clause-high c =
    let e = returns-clause-value c in
    let w = mean_obliquity_within (minutes_of c.args.m) c.args.m.ordered in
    omega (arith, ints, ap (λ (r : Range). r.hi) e, w.high)

use Rattle.std.proofs.Common.{ℤ, pos, neg_ℤ, arith, lit≤}
use Rattle.std.proofs.lemmas.Int.{ints}
use Rattle.trig_series.proofs.RangeLemmas.{same_range}
use Rattle.fixed_interval.specs.Grid.{enclosure_of_range, range_around}
use Rattle.meeus_terms.specs.Meeus.{mean_anomaly, grid_mean_anomaly}
use Rattle.meeus_terms.specs.Polynomials.{quadratic_top, rising}
use Rattle.meeus_terms.proofs.TopLemmas.{first_within, last_within, read, quadratic_rise, quadratic_here, floor_here, ceil_here, quadratic_moves, range_narrow}
use Rattle.meeus_terms.proofs.lines.mean_anomaly.Goals as goal

pub whole_units-requires-clause-ordered : goal.whole_units-requires-clause-ordered
whole_units-requires-clause-ordered c =
    let m = c.args.m in
    let low = read (λ (k : ℤ). quadratic_top (pos 51_484_191_840_000) (pos 5_183_863_241_760_000) (neg_ℤ (pos 22_132_800)) k 52_596_000) c.mean_anomaly_at.result m.first (first_within m) c.mean_anomaly_at.ensures.value (omega (arith, c.mean_anomaly_at.ensures.bound)) in
    let high = read (λ (k : ℤ). quadratic_top (pos 51_484_191_840_000) (pos 5_183_863_241_760_000) (neg_ℤ (pos 22_132_800)) k 52_596_000) c.mean_anomaly_at-2.result m.last (last_within m) c.mean_anomaly_at-2.ensures.value (omega (arith, c.mean_anomaly_at-2.ensures.bound)) in
    rw (low, high) (quadratic_rise (pos 51_484_191_840_000) (pos 5_183_863_241_760_000) (neg_ℤ (pos 22_132_800)) m.first m.last (omega (arith, ints)) (first_within m) (last_within m) m.ordered)

pub returns-clause-value : goal.returns-clause-value
unfolding grid_mean_anomaly mean_anomaly rising enclosure_of_range range_around
returns-clause-value c =
    let m = c.args.m in
    let low = read (λ (k : ℤ). quadratic_top (pos 51_484_191_840_000) (pos 5_183_863_241_760_000) (neg_ℤ (pos 22_132_800)) k 52_596_000) c.mean_anomaly_at.result m.first (first_within m) c.mean_anomaly_at.ensures.value (omega (arith, c.mean_anomaly_at.ensures.bound)) in
    let high = read (λ (k : ℤ). quadratic_top (pos 51_484_191_840_000) (pos 5_183_863_241_760_000) (neg_ℤ (pos 22_132_800)) k 52_596_000) c.mean_anomaly_at-2.result m.last (last_within m) c.mean_anomaly_at-2.ensures.value (omega (arith, c.mean_anomaly_at-2.ensures.bound)) in
    same_range _ _
    (floor_here _ c.mean_anomaly_at.result _ _ 2_766_339_216_000_000 (lit≤ tt) c.whole_units.ensures.low low (quadratic_here m.first (first_within m) (pos 51_484_191_840_000) (pos 5_183_863_241_760_000) (neg_ℤ (pos 22_132_800))))
    (ceil_here _ c.mean_anomaly_at-2.result _ _ 2_766_339_216_000_000 (lit≤ tt) c.whole_units.ensures.high high (quadratic_here m.last (last_within m) (pos 51_484_191_840_000) (pos 5_183_863_241_760_000) (neg_ℤ (pos 22_132_800))))

pub returns-clause-narrow : goal.returns-clause-narrow
returns-clause-narrow c =
    let m = c.args.m in
    let low = read (λ (k : ℤ). quadratic_top (pos 51_484_191_840_000) (pos 5_183_863_241_760_000) (neg_ℤ (pos 22_132_800)) k 52_596_000) c.mean_anomaly_at.result m.first (first_within m) c.mean_anomaly_at.ensures.value (omega (arith, c.mean_anomaly_at.ensures.bound)) in
    let high = read (λ (k : ℤ). quadratic_top (pos 51_484_191_840_000) (pos 5_183_863_241_760_000) (neg_ℤ (pos 22_132_800)) k 52_596_000) c.mean_anomaly_at-2.result m.last (last_within m) c.mean_anomaly_at-2.ensures.value (omega (arith, c.mean_anomaly_at-2.ensures.bound)) in
    range_narrow _ _ c.mean_anomaly_at.result c.mean_anomaly_at-2.result _ _ 2_766_339_216_000_000 _ 71_999_999_999 (lit≤ tt) c.whole_units.ensures.low c.whole_units.ensures.high low high (quadratic_moves (pos 51_484_191_840_000) (pos 5_183_863_241_760_000) (neg_ℤ (pos 22_132_800)) m.first m.last (first_within m) (last_within m) m.ordered m.narrow) (omega arith)

use Rattle.std.proofs.Common.{ℤ, pos, neg_ℤ, arith, lit≤}
use Rattle.std.proofs.lemmas.Int.{ints}
use Rattle.trig_series.proofs.RangeLemmas.{same_range}
use Rattle.fixed_interval.specs.Grid.{enclosure_of_range, range_around}
use Rattle.meeus_terms.specs.Meeus.{node, grid_node}
use Rattle.meeus_terms.specs.Polynomials.{linear_top, falling}
use Rattle.meeus_terms.proofs.TopLemmas.{first_within, last_within, read, linear_here, floor_here, ceil_here, linear_moves, range_narrow}
use Rattle.meeus_terms.proofs.lines.node.Goals as goal

pub returns-clause-value : goal.returns-clause-value
unfolding grid_node node falling enclosure_of_range range_around
returns-clause-value c =
    let m = c.args.m in
    let low = read (λ (k : ℤ). linear_top (pos 18_005_760_000_000) (neg_ℤ (pos 278_515_584_000_000)) k 52_596_000) c.node_at.result m.last (last_within m) c.node_at.ensures.value (omega (arith, c.node_at.ensures.bound)) in
    let high = read (λ (k : ℤ). linear_top (pos 18_005_760_000_000) (neg_ℤ (pos 278_515_584_000_000)) k 52_596_000) c.node_at-2.result m.first (first_within m) c.node_at-2.ensures.value (omega (arith, c.node_at-2.ensures.bound)) in
    same_range _ _
    (floor_here _ c.node_at.result _ _ 52_596_000 (lit≤ tt) c.whole_units.ensures.low low (linear_here m.last (last_within m) (pos 18_005_760_000_000) (neg_ℤ (pos 278_515_584_000_000))))
    (ceil_here _ c.node_at-2.result _ _ 52_596_000 (lit≤ tt) c.whole_units.ensures.high high (linear_here m.first (first_within m) (pos 18_005_760_000_000) (neg_ℤ (pos 278_515_584_000_000))))

pub returns-clause-narrow : goal.returns-clause-narrow
returns-clause-narrow c =
    let m = c.args.m in
    let low = read (λ (k : ℤ). linear_top (pos 18_005_760_000_000) (neg_ℤ (pos 278_515_584_000_000)) k 52_596_000) c.node_at.result m.last (last_within m) c.node_at.ensures.value (omega (arith, c.node_at.ensures.bound)) in
    let high = read (λ (k : ℤ). linear_top (pos 18_005_760_000_000) (neg_ℤ (pos 278_515_584_000_000)) k 52_596_000) c.node_at-2.result m.first (first_within m) c.node_at-2.ensures.value (omega (arith, c.node_at-2.ensures.bound)) in
    range_narrow _ _ c.node_at.result c.node_at-2.result _ _ 52_596_000 _ 71_999_999_999 (lit≤ tt) c.whole_units.ensures.low c.whole_units.ensures.high low high (linear_moves (pos 18_005_760_000_000) (neg_ℤ (pos 278_515_584_000_000)) m.first m.last (omega (arith, ints)) m.ordered m.narrow) (omega arith)

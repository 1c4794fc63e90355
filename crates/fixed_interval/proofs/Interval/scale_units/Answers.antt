-- Each end times the units, over 2^56 and rounded outward, is an end of the range.
use Rattle.std.proofs.Common.{pos, ◌*ℤ◌, ◌*◌, unsigned_abs, sym, ◌∙◌, ap, arith, lit≤}
use Rattle.fixed_interval.specs.Interval.{ends}
use Rattle.fixed_interval.specs.Grid.{UNIT, Range, reach}
use Rattle.fixed_interval.proofs.GridLaws.{grid_scale_units-is}
use Rattle.fixed_interval.proofs.Sizes.{quotient_ordered, reach-quotient, abs-scaled, scaled_ordered}
use Rattle.fixed_interval.proofs.Products.{floored, ceiled, scaled, scaled_fits, factors_fit, scaled_fits_bits}
use Rattle.fixed_interval.proofs.Interval.scale_units.Goals as goal

pub exact_product-requires : goal.exact_product-requires
exact_product-requires c = factors_fit c.args.self.lo c.args.units c.args.self.low_in_range c.requires.low c.requires.high

pub exact_product-requires-2 : goal.exact_product-requires-2
exact_product-requires-2 c = factors_fit c.args.self.hi c.args.units c.args.self.high_in_range c.requires.low c.requires.high

pub floor_to_grid-requires : goal.floor_to_grid-requires
floor_to_grid-requires c = scaled_fits_bits c.exact_product.result c.args.self.lo c.args.units c.args.self.low_in_range c.requires.low c.requires.high c.exact_product.ensures

pub ceil_to_grid-requires : goal.ceil_to_grid-requires
ceil_to_grid-requires c = scaled_fits_bits c.exact_product-2.result c.args.self.hi c.args.units c.args.self.high_in_range c.requires.low c.requires.high c.exact_product-2.ensures

pub returns-clause-low : goal.returns-clause-low
returns-clause-low c =
    let a = c.args.self in
    let n = unsigned_abs c.args.units in
    let u = c.args.units in
    let low = floored c.floor_to_grid.result c.exact_product.result (a.lo *ℤ pos n) UNIT (lit≤ tt) c.floor_to_grid.ensures (c.exact_product.ensures ∙ scaled a.lo u a.low_in_range c.requires.low c.requires.high) (scaled_fits a.lo u a.low_in_range c.requires.low c.requires.high) in
    let high = ceiled c.ceil_to_grid.result c.exact_product-2.result (a.hi *ℤ pos n) UNIT (lit≤ tt) c.ceil_to_grid.ensures (c.exact_product-2.ensures ∙ scaled a.hi u a.high_in_range c.requires.low c.requires.high) (scaled_fits a.hi u a.high_in_range c.requires.low c.requires.high) in
    low ∙ sym (ap (λ (r : Range). r.lo) (grid_scale_units-is (ends a) n))

pub returns-clause-high : goal.returns-clause-high
returns-clause-high c =
    let a = c.args.self in
    let n = unsigned_abs c.args.units in
    let u = c.args.units in
    let low = floored c.floor_to_grid.result c.exact_product.result (a.lo *ℤ pos n) UNIT (lit≤ tt) c.floor_to_grid.ensures (c.exact_product.ensures ∙ scaled a.lo u a.low_in_range c.requires.low c.requires.high) (scaled_fits a.lo u a.low_in_range c.requires.low c.requires.high) in
    let high = ceiled c.ceil_to_grid.result c.exact_product-2.result (a.hi *ℤ pos n) UNIT (lit≤ tt) c.ceil_to_grid.ensures (c.exact_product-2.ensures ∙ scaled a.hi u a.high_in_range c.requires.low c.requires.high) (scaled_fits a.hi u a.high_in_range c.requires.low c.requires.high) in
    high ∙ sym (ap (λ (r : Range). r.hi) (grid_scale_units-is (ends a) n))

pub returns-clause-ordered : goal.returns-clause-ordered
returns-clause-ordered c =
    let a = c.args.self in
    let n = unsigned_abs c.args.units in
    let u = c.args.units in
    let low = floored c.floor_to_grid.result c.exact_product.result (a.lo *ℤ pos n) UNIT (lit≤ tt) c.floor_to_grid.ensures (c.exact_product.ensures ∙ scaled a.lo u a.low_in_range c.requires.low c.requires.high) (scaled_fits a.lo u a.low_in_range c.requires.low c.requires.high) in
    let high = ceiled c.ceil_to_grid.result c.exact_product-2.result (a.hi *ℤ pos n) UNIT (lit≤ tt) c.ceil_to_grid.ensures (c.exact_product-2.ensures ∙ scaled a.hi u a.high_in_range c.requires.low c.requires.high) (scaled_fits a.hi u a.high_in_range c.requires.low c.requires.high) in
    rw (low, high) (quotient_ordered (a.lo *ℤ pos n) (a.hi *ℤ pos n) UNIT (lit≤ tt) (scaled_ordered a.lo a.hi n a.ordered))

pub returns-clause-bound : goal.returns-clause-bound
returns-clause-bound c =
    let a = c.args.self in
    let n = unsigned_abs c.args.units in
    let u = c.args.units in
    let low = floored c.floor_to_grid.result c.exact_product.result (a.lo *ℤ pos n) UNIT (lit≤ tt) c.floor_to_grid.ensures (c.exact_product.ensures ∙ scaled a.lo u a.low_in_range c.requires.low c.requires.high) (scaled_fits a.lo u a.low_in_range c.requires.low c.requires.high) in
    let high = ceiled c.ceil_to_grid.result c.exact_product-2.result (a.hi *ℤ pos n) UNIT (lit≤ tt) c.ceil_to_grid.ensures (c.exact_product-2.ensures ∙ scaled a.hi u a.high_in_range c.requires.low c.requires.high) (scaled_fits a.hi u a.high_in_range c.requires.low c.requires.high) in
    rw (low, high) (reach-quotient (a.lo *ℤ pos n) (a.hi *ℤ pos n) (reach (ends a) * n) UNIT (lit≤ tt) (abs-scaled a.lo n (reach (ends a)) (omega arith)) (abs-scaled a.hi n (reach (ends a)) (omega arith)))

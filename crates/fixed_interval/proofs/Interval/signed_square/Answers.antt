-- Each end times its absolute value, rounded outward, is an end of the signed square.
use Rattle.std.proofs.Common.{pos, ◌*ℤ◌, unsigned_abs, sym, ◌∙◌, arith, le_trans, lit≤}
use Rattle.fixed_interval.specs.Interval.{ends}
use Rattle.fixed_interval.specs.Grid.{UNIT}
use Rattle.fixed_interval.proofs.GridLaws.{grid_signed_square-is}
use Rattle.fixed_interval.proofs.Sizes.{square_ordered, abs-square, abs-floor_over, abs-ceil_over, quotient_ordered, reach-quotient}
use Rattle.fixed_interval.proofs.Products.{floored, ceiled, square, low_square_small, high_square_small, low_factors_fit, high_factors_fit, settled_small}
use Rattle.fixed_interval.proofs.Interval.signed_square.Goals as goal

pub signed_square-requires : goal.signed_square-requires
signed_square-requires c = low_factors_fit c.args.self c.requires

pub signed_square-requires-2 : goal.signed_square-requires-2
signed_square-requires-2 c = high_factors_fit c.args.self c.requires

pub floor_to_grid-requires : goal.floor_to_grid-requires
floor_to_grid-requires c = settled_small c.signed_square.result _ (square _ c.args.self.lo c.args.self.low_in_range c.signed_square.ensures) (low_square_small c.args.self c.requires)

pub ceil_to_grid-requires : goal.ceil_to_grid-requires
ceil_to_grid-requires c = settled_small c.signed_square-2.result _ (square _ c.args.self.hi c.args.self.high_in_range c.signed_square-2.ensures) (high_square_small c.args.self c.requires)

pub invariant_of-result : goal.invariant_of-result
invariant_of-result c =
    let a = c.args.self in
    let low = floored c.floor_to_grid.result c.signed_square.result (a.lo *ℤ pos (unsigned_abs a.lo)) UNIT (lit≤ tt) c.floor_to_grid.ensures (square _ a.lo a.low_in_range c.signed_square.ensures) (low_square_small a c.requires) in
    let high = ceiled c.ceil_to_grid.result c.signed_square-2.result (a.hi *ℤ pos (unsigned_abs a.hi)) UNIT (lit≤ tt) c.ceil_to_grid.ensures (square _ a.hi a.high_in_range c.signed_square-2.ensures) (high_square_small a c.requires) in
    record {
      ordered = rw (low, high) (quotient_ordered (a.lo *ℤ pos (unsigned_abs a.lo)) (a.hi *ℤ pos (unsigned_abs a.hi)) UNIT (lit≤ tt) (square_ordered a.lo a.hi a.ordered));
      low_in_range = rw low (le_trans (abs-floor_over _ _ UNIT (lit≤ tt) (low_square_small a c.requires)) (lit≤ tt));
      high_in_range = rw high (le_trans (abs-ceil_over (a.hi *ℤ pos (unsigned_abs a.hi)) _ UNIT (lit≤ tt) (high_square_small a c.requires)) (lit≤ tt));
    }

pub returns-clause-value : goal.returns-clause-value
returns-clause-value c =
    let a = c.args.self in
    let low = floored c.floor_to_grid.result c.signed_square.result (a.lo *ℤ pos (unsigned_abs a.lo)) UNIT (lit≤ tt) c.floor_to_grid.ensures (square _ a.lo a.low_in_range c.signed_square.ensures) (low_square_small a c.requires) in
    let high = ceiled c.ceil_to_grid.result c.signed_square-2.result (a.hi *ℤ pos (unsigned_abs a.hi)) UNIT (lit≤ tt) c.ceil_to_grid.ensures (square _ a.hi a.high_in_range c.signed_square-2.ensures) (high_square_small a c.requires) in
    (λ i. record { lo = low i; hi = high i }) ∙ sym (grid_signed_square-is (ends a))

pub returns-clause-bound : goal.returns-clause-bound
returns-clause-bound c =
    let a = c.args.self in
    let low = floored c.floor_to_grid.result c.signed_square.result (a.lo *ℤ pos (unsigned_abs a.lo)) UNIT (lit≤ tt) c.floor_to_grid.ensures (square _ a.lo a.low_in_range c.signed_square.ensures) (low_square_small a c.requires) in
    let high = ceiled c.ceil_to_grid.result c.signed_square-2.result (a.hi *ℤ pos (unsigned_abs a.hi)) UNIT (lit≤ tt) c.ceil_to_grid.ensures (square _ a.hi a.high_in_range c.signed_square-2.ensures) (high_square_small a c.requires) in
    rw (low, high) (reach-quotient (a.lo *ℤ pos (unsigned_abs a.lo)) (a.hi *ℤ pos (unsigned_abs a.hi)) _ UNIT (lit≤ tt) (abs-square a.lo _ (omega arith)) (abs-square a.hi _ (omega arith)))

-- Whole roots of the ends, counted in 2^-112, are the ends of the root on the grid.
use Rattle.std.proofs.Common.{◌≡◌, ℤ, pos, ◌≤ℤ◌, ◌^◌, sym, ◌∙◌, arith, le_trans, lit≤}
use Rattle.std.proofs.lemmas.Int.{ints}
use Rattle.fixed_interval.specs.Interval.{ends}
use Rattle.fixed_interval.proofs.Bits.{bits_of, within}
use Rattle.fixed_interval.proofs.RootLaws.{grid_root-is}
use Rattle.fixed_interval.proofs.Roots.{root_low, root_high, root_low_small, root_high_small, roots_of_ordered, reach-roots}
use Rattle.fixed_interval.proofs.Interval.root.Goals as goal

low_end : (x y : ℤ) → x ≤ℤ y → y ≤ℤ pos (2 ^ 70) → x ≤ℤ pos (2 ^ 70)
low_end x y h k = omega (arith, ints)

read_low_end : (x : ℤ) → bits_of x ≡ x → x ≤ℤ pos (2 ^ 70) → bits_of x ≤ℤ pos (2 ^ 70)
read_low_end x e h = rw e h

pub radicand-requires : goal.radicand-requires
radicand-requires c = let a = c.args.self in read_low_end a.lo (within a.lo a.low_in_range) (low_end a.lo a.hi a.ordered c.requires)

pub radicand-requires-2 : goal.radicand-requires-2
radicand-requires-2 c = let a = c.args.self in read_low_end a.hi (within a.hi a.high_in_range) c.requires

pub invariant_of-result : goal.invariant_of-result
invariant_of-result c =
    let a = c.args.self in
    let low = root_low c.root_down.result c.radicand.result a.lo c.radicand.ensures c.root_down.ensures a.low_in_range (low_end a.lo a.hi a.ordered c.requires) in
    let high = root_high c.root_up.result c.radicand-2.result a.hi c.radicand-2.ensures c.root_up.ensures a.high_in_range c.requires in
    record {
      ordered = rw (low, high) (roots_of_ordered a.lo a.hi a.ordered);
      low_in_range = rw low (le_trans (root_low_small a.lo (low_end a.lo a.hi a.ordered c.requires)) (lit≤ tt));
      high_in_range = rw high (le_trans (root_high_small a.hi c.requires) (lit≤ tt));
    }

pub returns-clause-value : goal.returns-clause-value
returns-clause-value c =
    let a = c.args.self in
    let low = root_low c.root_down.result c.radicand.result a.lo c.radicand.ensures c.root_down.ensures a.low_in_range (low_end a.lo a.hi a.ordered c.requires) in
    let high = root_high c.root_up.result c.radicand-2.result a.hi c.radicand-2.ensures c.root_up.ensures a.high_in_range c.requires in
    (λ i. record { lo = low i; hi = high i }) ∙ sym (grid_root-is (ends a))

pub returns-clause-bound : goal.returns-clause-bound
returns-clause-bound c s h =
    let a = c.args.self in
    let low = root_low c.root_down.result c.radicand.result a.lo c.radicand.ensures c.root_down.ensures a.low_in_range (low_end a.lo a.hi a.ordered c.requires) in
    let high = root_high c.root_up.result c.radicand-2.result a.hi c.radicand-2.ensures c.root_up.ensures a.high_in_range c.requires in
    rw (low, high) (reach-roots a.lo a.hi _ s (omega arith) (omega arith) h)

use Rattle.std.proofs.Common.{ap, arith}
use Rattle.std.proofs.lemmas.Int.{ints}
use Rattle.fixed_interval.specs.Grid.{Range}
use Rattle.trig_series.specs.Ranges.{added}
use Rattle.trig_series.proofs.RangeLemmas.{same_range}
use Rattle.trig_series.proofs.Angle.plus.Goals as goal

pub returns-clause-low : goal.returns-clause-low
returns-clause-low c = let e = ap (λ (r : Range). r.lo) c.new.ensures in omega (arith, ints)

pub returns-clause-high : goal.returns-clause-high
returns-clause-high c = let e = ap (λ (r : Range). r.hi) c.new.ensures in omega (arith, ints)

pub returns-clause-value : goal.returns-clause-value
unfolding added
returns-clause-value c = same_range _ _ (returns-clause-low c) (returns-clause-high c)

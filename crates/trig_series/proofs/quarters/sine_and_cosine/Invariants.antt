use Rattle.std.proofs.Common.{◌≡◌, ◌≤◌, ◌*◌, ◌≤ℤ◌, ◌+ℤ◌, ℤ, pos}
use Rattle.std.specs.Int.{int_gap}
use Rattle.fixed_interval.specs.Fraction.{over}
use Rattle.fixed_interval.specs.Grid.{UNIT, reach}
use Rattle.fixed_interval.specs.Interval.{ends}
use Rattle.trig_series.specs.Angle.{range_of}
use Rattle.trig_series.specs.Quarters.{first_quarter, last_quarter, grid_piece, grid_hull_from}
use Rattle.trig_series.specs.Sine.{grid_sine_beyond}
use Rattle.trig_series.proofs.quarters.sine_and_cosine.Given as goal

abbrev pub invariant-loop-quarter : goal.invariant-loop-quarter
invariant-loop-quarter l = record {
  from_first : first_quarter (over l.fn.a.lo 1) ≤ℤ l.quarter;
  to_last : l.quarter ≤ℤ last_quarter (over l.fn.a.hi 1);
  sine : ends l.both.sine ≡ grid_hull_from (λ (c : ℤ). grid_sine_beyond c (grid_piece (range_of l.fn.a) c)) (first_quarter (over l.fn.a.lo 1)) (int_gap (first_quarter (over l.fn.a.lo 1)) l.quarter);
  cosine : ends l.both.cosine ≡ grid_hull_from (λ (c : ℤ). grid_sine_beyond (c +ℤ pos 1) (grid_piece (range_of l.fn.a) c)) (first_quarter (over l.fn.a.lo 1)) (int_gap (first_quarter (over l.fn.a.lo 1)) l.quarter);
  sine_bound : 3 * reach (ends l.both.sine) ≤ 4 * UNIT;
  cosine_bound : 3 * reach (ends l.both.cosine) ≤ 4 * UNIT;
}

abbrev pub decreases-loop-quarter : goal.decreases-loop-quarter
decreases-loop-quarter l = int_gap l.quarter l.last

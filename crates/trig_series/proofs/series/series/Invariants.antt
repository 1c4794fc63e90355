use Rattle.std.proofs.Common.{◌≡◌, ◌≤◌, ◌*◌}
use Rattle.fixed_interval.specs.Grid.{UNIT, reach}
use Rattle.fixed_interval.specs.Interval.{ends}
use Rattle.trig_series.specs.Series.{grid_term, grid_partial_sum}
use Rattle.trig_series.proofs.series.series.Given as goal

abbrev pub invariant-loop-j : goal.invariant-loop-j
invariant-loop-j l = record {
  term : ends l.term ≡ grid_term l.fn.power (ends l.fn.first) (ends l.fn.square) l.j;
  term_small : reach (ends l.term) ≤ UNIT;
  total : ends l.total ≡ grid_partial_sum (grid_term l.fn.power (ends l.fn.first) (ends l.fn.square)) l.j;
  total_small : reach (ends l.total) ≤ l.j * UNIT;
}

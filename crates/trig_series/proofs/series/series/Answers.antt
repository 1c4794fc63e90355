use Rattle.std.proofs.Common.{ap, ◌∙◌, refl, arith}
use Rattle.fixed_interval.specs.Grid.{reach, grid_sum}
use Rattle.fixed_interval.specs.Interval.{ends}
use Rattle.trig_series.specs.Series.{grid_term, grid_partial_sum}
use Rattle.trig_series.proofs.SeriesSteps.{term_step, sum_step, series_end}
use Rattle.trig_series.proofs.series.series.Goals as goal

pub loop-j-init : goal.loop-j-init
unfolding grid_term grid_partial_sum
loop-j-init c = record {
  term = refl;
  term_small = c.requires.first_small;
  total = c.new-total.ensures;
  total_small = omega (arith, ap reach c.new-total.ensures);
}

pub loop-j-preserved : goal.loop-j-preserved
loop-j-preserved c =
    let terms = grid_term c.args.power (ends c.args.first) (ends c.args.square) in
    record {
      term = c.next_term-term.ensures.value ∙ term_step c.args.power c.loop-j.j (ends c.args.first) (ends c.args.square) (ends c.loop-j.term) c.loop-j.invariant.term;
      term_small = c.next_term-term.ensures.bound;
      total = c.sum-total.ensures.value ∙ sum_step terms c.loop-j.j (ends c.loop-j.total) (ends c.loop-j.term) c.loop-j.invariant.total c.loop-j.invariant.term;
      total_small = omega arith;
    }

pub returns-clause-value : goal.returns-clause-value
returns-clause-value c =
    let terms = grid_term c.args.power (ends c.args.first) (ends c.args.square) in
    c.sum.ensures.value ∙ ap (grid_sum (ends c.loop-j.total)) c.margin.ensures.value ∙ series_end terms c.loop-j.j 12 (ends c.loop-j.total) (ends c.loop-j.term) (omega arith) c.loop-j.invariant.total c.loop-j.invariant.term

use Rattle.std.proofs.Common.{◌+◌, ap, ap₂, sym, ◌∙◌, arith}
use Rattle.fixed_interval.specs.Grid.{grid_sum, grid_difference}
use Rattle.trig_series.specs.Magnitudes.{ends_of}
use Rattle.trig_series.specs.Series.{divisor}
use Rattle.trig_series.specs.Short.{ends_of as short_ends}
use Rattle.trig_series.proofs.PairSteps.{pair_added}
use Rattle.trig_series.proofs.alternating.with_level_pair.Goals as goal

pub returns-clause-value : goal.returns-clause-value
returns-clause-value c p j first square level has =
    let next = ends_of c.args.sum.next in
    let is_sum = c.sum.ensures.value ∙ ap (grid_sum (short_ends c.args.sum.total)) c.short.ensures.value in
    let is_total = c.difference.ensures.value ∙ ap₂ grid_difference is_sum c.short-2.ensures.value in
    pair_added p j first square next c.args.sum _ has (sym (level (divisor p j) (omega arith))) (sym (level (divisor p (j + 1)) (omega arith))) is_total (omega arith)

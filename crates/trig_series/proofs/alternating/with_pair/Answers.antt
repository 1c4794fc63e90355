use Rattle.std.proofs.Common.{◌≡◌, ◌+◌, ◌*◌, ap, ap₂, ◌∙◌, arith}
use Rattle.fixed_interval.specs.Grid.{grid_sum, grid_difference, grid_product, grid_divide_by}
use Rattle.trig_series.specs.Magnitudes.{ends_of}
use Rattle.trig_series.specs.Series.{divisor}
use Rattle.trig_series.specs.Short.{ends_of as short_ends}
use Rattle.trig_series.proofs.PairSteps.{pair_added}
use Rattle.trig_series.proofs.alternating.with_pair.Goals as goal

pub returns : goal.returns
returns c p j first e has =
    let square = ends_of c.args.square in
    let next = ends_of c.args.sum.next in
    let taken = ends_of c.next_term-taken.result in
    let is_taken : taken ≡ grid_divide_by (grid_product next square) (divisor p j) = c.next_term-taken.ensures ∙ ap (grid_divide_by (grid_product next square)) (ap₂ ◌*◌ (omega (arith, e)) (omega (arith, e))) in
    let is_next : ends_of c.next_term.result ≡ grid_divide_by (grid_product taken square) (divisor p (j + 1)) = c.next_term.ensures ∙ ap (grid_divide_by (grid_product taken square)) (ap₂ ◌*◌ (omega (arith, e)) (omega (arith, e))) in
    let is_sum = c.sum.ensures.value ∙ ap (grid_sum (short_ends c.args.sum.total)) c.short.ensures.value in
    let is_total = c.difference.ensures.value ∙ ap₂ grid_difference is_sum c.short-2.ensures.value in
    pair_added p j first square taken c.args.sum _ has is_taken is_next is_total (omega arith)

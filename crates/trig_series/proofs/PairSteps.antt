-- Two terms at a time: from a sum of j terms to one of j + 2.
use Rattle.std.proofs.Common.{◌≡◌, ℕ, ◌+◌, ◌*◌, ◌≤◌, ap, ◌∙◌, arith}
use Rattle.fixed_interval.specs.Grid.{Ends, UNIT, reach, grid_negated, grid_sum, grid_difference, grid_product, grid_divide_by}
use Rattle.trig_series.specs.Magnitudes.{ends_of}
use Rattle.trig_series.specs.PartialSum.{HasTerms}
use Rattle.trig_series.specs.Series.{divisor, grid_term, grid_partial_sum}
use Rattle.trig_series.specs.Short.{ends_of as short_ends}
use Rattle.trig_series.specs.declared.alternating.PartialSum.{PartialSum}
use Rattle.trig_series.proofs.SeriesSteps.{taken_step, added_step, sum_step, difference_step}

-- r follows s by the term that s was to add and the one taken behind it
pub pair_added : (p j : ℕ) (first square taken : Ends) (s r : PartialSum)
    → HasTerms p first square j s
    → taken ≡ grid_divide_by (grid_product (ends_of s.next) square) (divisor p j)
    → ends_of r.next ≡ grid_divide_by (grid_product taken square) (divisor p (j + 1))
    → short_ends r.total ≡ grid_difference (grid_sum (short_ends s.total) (ends_of s.next)) taken
    → reach (short_ends r.total) ≤ reach (short_ends s.total) + 2 * UNIT
    → HasTerms p first square (j + 2) r
pair_added p j first square taken s r has is_taken is_next is_total small =
    let terms = grid_term p first square in
    let next : j + 1 + 1 ≡ j + 2 = omega arith in
    let taken_term : grid_negated taken ≡ terms (j + 1) = taken_step p j first square (ends_of s.next) taken is_taken has.next in
    let with_added : grid_sum (short_ends s.total) (ends_of s.next) ≡ grid_partial_sum terms (j + 1) = sum_step terms j (short_ends s.total) (ends_of s.next) has.total has.next in
    record {
      total = is_total ∙ difference_step terms (j + 1) (grid_sum (short_ends s.total) (ends_of s.next)) taken with_added taken_term ∙ ap (grid_partial_sum terms) next;
      total_small = omega (arith, small, has.total_small);
      next = added_step p (j + 1) first square taken (ends_of r.next) is_next taken_term ∙ ap terms next;
    }

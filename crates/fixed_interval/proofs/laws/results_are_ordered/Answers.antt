-- One lemma for each operation.
use Rattle.fixed_interval.proofs.EnclosureLaws.{negated_ordered, sum_ordered, difference_ordered, product_ordered, scale_units_ordered, divide_by_ordered, times_ratio_ordered, hull_ordered, magnitude_ordered, signed_square_ordered, root_ordered}
use Rattle.fixed_interval.proofs.Inclusion.{rounded_out_ordered}
use Rattle.fixed_interval.proofs.laws.results_are_ordered.Goals as goal

pub returns : goal.returns
returns c = record {
  of_negated = negated_ordered;
  of_sum = sum_ordered;
  of_difference = difference_ordered;
  of_product = product_ordered;
  of_scale_units = scale_units_ordered;
  of_divide_by = divide_by_ordered;
  of_times_ratio = times_ratio_ordered;
  of_hull = hull_ordered;
  of_magnitude = magnitude_ordered;
  of_signed_square = signed_square_ordered;
  of_root = root_ordered;
  of_rounded_out = rounded_out_ordered;
}

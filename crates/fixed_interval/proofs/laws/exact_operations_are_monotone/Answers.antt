-- One lemma for each operation.
use Rattle.fixed_interval.proofs.EnclosureLaws.{negated_mono, sum_mono, difference_mono, product_mono, scale_units_mono, divide_by_mono, times_ratio_mono, hull_mono, magnitude_mono, signed_square_mono, root_mono}
use Rattle.fixed_interval.proofs.laws.exact_operations_are_monotone.Goals as goal

pub returns : goal.returns
returns c = record {
  of_negated = negated_mono;
  of_sum = sum_mono;
  of_difference = difference_mono;
  of_product = product_mono;
  of_scale_units = scale_units_mono;
  of_divide_by = divide_by_mono;
  of_times_ratio = times_ratio_mono;
  of_hull = hull_mono;
  of_magnitude = magnitude_mono;
  of_signed_square = signed_square_mono;
  of_root = root_mono;
}

-- One lemma for each operation.
use Rattle.fixed_interval.proofs.Inclusion.{negated_holds, sum_holds, difference_holds, product_holds, scale_units_holds, divide_by_holds, times_ratio_holds, hull_holds, magnitude_holds, signed_square_holds, root_holds}
use Rattle.fixed_interval.proofs.laws.grid_holds_exact.Goals as goal

pub returns : goal.returns
returns c = record {
  of_negated = negated_holds;
  of_sum = sum_holds;
  of_difference = difference_holds;
  of_product = product_holds;
  of_scale_units = scale_units_holds;
  of_divide_by = divide_by_holds;
  of_times_ratio = times_ratio_holds;
  of_hull = hull_holds;
  of_magnitude = magnitude_holds;
  of_signed_square = signed_square_holds;
  of_root = root_holds;
}

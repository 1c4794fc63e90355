-- One lemma for each operation.
use Rattle.fixed_interval.proofs.Widths.{grid_negated_bounded, grid_sum_bounded, grid_difference_bounded, grid_product_bounded, grid_scale_units_bounded, grid_divide_by_bounded, grid_times_ratio_bounded, grid_hull_bounded, grid_magnitude_bounded, grid_signed_square_bounded, grid_root_bounded}
use Rattle.fixed_interval.proofs.laws.results_are_bounded.Goals as goal

pub returns : goal.returns
returns c = record {
  of_negated = grid_negated_bounded;
  of_sum = grid_sum_bounded;
  of_difference = grid_difference_bounded;
  of_product = grid_product_bounded;
  of_scale_units = grid_scale_units_bounded;
  of_divide_by = grid_divide_by_bounded;
  of_times_ratio = grid_times_ratio_bounded;
  of_hull = grid_hull_bounded;
  of_magnitude = grid_magnitude_bounded;
  of_signed_square = grid_signed_square_bounded;
  of_root = grid_root_bounded;
}

-- One lemma for each operation.
use Rattle.fixed_interval.proofs.Inclusion.{grid_negated_mono, grid_sum_mono, grid_difference_mono, grid_product_mono, grid_scale_units_mono, grid_divide_by_mono, grid_times_ratio_mono, grid_hull_mono, grid_magnitude_mono, grid_signed_square_mono, grid_root_mono}
use Rattle.fixed_interval.proofs.laws.grid_operations_are_monotone.Goals as goal

pub returns : goal.returns
returns c = record {
  of_negated = grid_negated_mono;
  of_sum = grid_sum_mono;
  of_difference = grid_difference_mono;
  of_product = grid_product_mono;
  of_scale_units = grid_scale_units_mono;
  of_divide_by = grid_divide_by_mono;
  of_times_ratio = grid_times_ratio_mono;
  of_hull = grid_hull_mono;
  of_magnitude = grid_magnitude_mono;
  of_signed_square = grid_signed_square_mono;
  of_root = grid_root_mono;
}

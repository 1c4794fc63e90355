-- Radians of a range within 45 degrees, as the code finds them from the ends of pi.
use Rattle.std.proofs.Common.{◌≡◌, ℤ, pos, ◌*ℤ◌, ◌≤ℤ◌, ap, ◌∙◌, arith, lit≤}
use Rattle.std.specs.Int.{int_min, int_max}
use Rattle.std.proofs.lemmas.Int.{ints, clamps}
use Rattle.fixed_interval.specs.Grid.{Ends, Range, grid_times_ratio}
use Rattle.fixed_interval.specs.Whole.{floor_over, ceil_over, least_of_four, greatest_of_four}
use Rattle.fixed_interval.proofs.GridLaws.{grid_times_ratio-is}
use Rattle.fixed_interval.proofs.Sizes.{quotient_ordered}
use Rattle.trig_series.specs.Pi.{grid_pi, pi_low, pi_high}
use Rattle.trig_series.specs.Quarters.{half_turn}
use Rattle.trig_series.proofs.PiLaws.{grid_pi-is}

-- of two factors that aren't negative, one of the two gives the least product with the lesser end, and one the greatest with the greater
least : (x y : ℤ) → x ≤ℤ y → least_of_four (pos pi_low *ℤ x) (pos pi_low *ℤ y) (pos pi_high *ℤ x) (pos pi_high *ℤ y) ≡ int_min (pos pi_low *ℤ x) (pos pi_high *ℤ x)
unfolding least_of_four
least x y h = omega (arith, ints, clamps)

greatest : (x y : ℤ) → x ≤ℤ y → greatest_of_four (pos pi_low *ℤ x) (pos pi_low *ℤ y) (pos pi_high *ℤ x) (pos pi_high *ℤ y) ≡ int_max (pos pi_low *ℤ y) (pos pi_high *ℤ y)
unfolding greatest_of_four
greatest x y h = omega (arith, ints, clamps)

pub radians-is : (r : Range) → r.lo ≤ℤ r.hi → grid_times_ratio grid_pi r half_turn ≡ record { lo = floor_over (int_min (pos pi_low *ℤ r.lo) (pos pi_high *ℤ r.lo)) half_turn; hi = ceil_over (int_max (pos pi_low *ℤ r.hi) (pos pi_high *ℤ r.hi)) half_turn }
radians-is r h = ap (λ (p : Ends). grid_times_ratio p r half_turn) grid_pi-is ∙ grid_times_ratio-is (record { lo = pos pi_low; hi = pos pi_high }) r half_turn (lit≤ tt) ∙ (λ i. record { lo = floor_over (least r.lo r.hi h i) half_turn; hi = ceil_over (greatest r.lo r.hi h i) half_turn })

pub in_order : (x y : ℤ) → x ≤ℤ y → floor_over (int_min (pos pi_low *ℤ x) (pos pi_high *ℤ x)) half_turn ≤ℤ ceil_over (int_max (pos pi_low *ℤ y) (pos pi_high *ℤ y)) half_turn
in_order x y h = quotient_ordered (int_min (pos pi_low *ℤ x) (pos pi_high *ℤ x)) (int_max (pos pi_low *ℤ y) (pos pi_high *ℤ y)) half_turn (lit≤ tt) (omega (arith, ints, clamps))

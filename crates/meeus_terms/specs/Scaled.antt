-- A range of coefficients times ends on the grid, rounded outward to whole units.
use Rattle.std.specs.Prelude.{unsigned_abs}
use Rattle.std.specs.Int.{int_min, int_max}
use Rattle.fixed_interval.specs.Grid.{Ends, Range, grid_scale_units}

-- the least range that holds both
unfoldable pub hull_of : Range → Range → Range
hull_of r s = record { lo = int_min r.lo s.lo; hi = int_max r.hi s.hi }

-- the products with the least and with the greatest coefficient; none is below 0
unfoldable pub grid_scale_between : Ends → Range → Range
grid_scale_between a r = hull_of (grid_scale_units a (unsigned_abs r.lo)) (grid_scale_units a (unsigned_abs r.hi))

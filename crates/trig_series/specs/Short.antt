-- What a `Short` of the code stands for: numbers from one end to the other, on the grid.
use Rattle.fixed_interval.specs.Grid.{Ends}
use Rattle.trig_series.specs.declared.short.Short.{Short}

abbrev pub ends_of : Short → Ends
ends_of s = record { lo = s.lo; hi = s.hi }

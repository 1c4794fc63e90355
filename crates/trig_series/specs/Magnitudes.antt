-- What `Magnitudes` of the code stand for: numbers from one end to the other, on the grid.
use Rattle.std.specs.Prelude.{pos}
use Rattle.fixed_interval.specs.Grid.{Ends}
use Rattle.trig_series.specs.declared.magnitudes.Magnitudes.{Magnitudes}

abbrev pub ends_of : Magnitudes → Ends
ends_of m = record { lo = pos m.least; hi = pos m.greatest }

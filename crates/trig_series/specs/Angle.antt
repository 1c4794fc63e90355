-- What an `Angle` of the code stands for: a range of whole angle units, of which 144,000,000,000 make one degree.
use Rattle.fixed_interval.specs.Grid.{Range}
use Rattle.trig_series.specs.declared.Angle.{Angle}

abbrev pub range_of : Angle → Range
range_of a = record { lo = a.lo; hi = a.hi }

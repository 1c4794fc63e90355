-- What an `Interval` of the code stands for.
use Rattle.fixed_interval.specs.declared.Interval.{Interval}
use Rattle.fixed_interval.specs.Grid.{Ends}

abbrev pub ends : Interval → Ends
ends i = record { lo = i.lo; hi = i.hi }

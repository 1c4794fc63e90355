-- Ranges between whole numbers of units, end by end. Nothing is rounded here.
use Rattle.std.specs.Prelude.{ℕ, pos, ◌+ℤ◌, ◌-ℤ◌, ◌*ℤ◌}
use Rattle.fixed_interval.specs.Enclosure.{Enclosure}
use Rattle.fixed_interval.specs.Grid.{Range, enclosure_of_range}

-- the one number n
unfoldable pub whole : ℕ → Range
whole n = record { lo = pos n; hi = pos n }

unfoldable pub added : Range → Range → Range
added a b = record { lo = a.lo +ℤ b.lo; hi = a.hi +ℤ b.hi }

unfoldable pub subtracted : Range → Range → Range
subtracted a b = record { lo = a.lo -ℤ b.hi; hi = a.hi -ℤ b.lo }

unfoldable pub scaled : Range → ℕ → Range
scaled a n = record { lo = a.lo *ℤ pos n; hi = a.hi *ℤ pos n }

-- the one number n as an exact enclosure
unfoldable pub exactly : ℕ → Enclosure
exactly n = enclosure_of_range (whole n)

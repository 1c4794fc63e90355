-- Which entries can be printed.
use Rattle.std.specs.Prelude.{◌≤◌}
use Rattle.cell_split.specs.declared.verdict.Entry.{Entry}
use Rattle.cell_split.specs.declared.verdict.Entry.TheVariants.{Minute, Open}
use Rattle.year_table.specs.Entries.{IsOpenAtOneRank}

-- the ranks are a frame's, and an open entry names a cell of the one rank before its safe ones
abbrev pub IsPrintable : Entry → Type 0
IsPrintable (Minute rank) = rank ≤ 720
IsPrintable (Open safe from cell) = IsOpenAtOneRank (Open safe from cell)
IsPrintable _ = Unit {0}

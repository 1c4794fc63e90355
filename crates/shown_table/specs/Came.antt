-- What came of showing days, as the code tells it.
use Rattle.std.specs.Prelude.{◌≡◌, ◌≢◌, ◌⊎◌, ℕ, List, Option, Some, None, Result, Ok, Err}
use Rattle.cell_split.specs.declared.verdict.Entry.{Entry}
use Rattle.covering_check.specs.declared.fault.CoverFault.{CoverFault}
use Rattle.covering_check.specs.declared.fault.CoverFault.TheVariants.{NoMemory}
use Rattle.order_table.specs.Table.{days_undecided}
use Rattle.outcome.specs.declared.stop.Stop.{Stop}
use Rattle.outcome.specs.declared.stop.Stop.TheVariants.{NoMemory as StopNoMemory}
use Rattle.shown_table.specs.declared.bad.BadLine.{BadLine}
use Rattle.shown_table.specs.declared.bad.Shown.{Shown}
use Rattle.shown_table.specs.declared.bad.Shown.TheVariants.{Bad, Whole}
use Rattle.shown_table.specs.Shown.{ShownDays, ShownTable, Shows, ShowsDay, ShowsNight}

-- the entry that a line of this number shows, or that it is bad
abbrev pub ShowsEntry : ℕ → Result Entry CoverFault → Result Entry BadLine → Type 0
ShowsEntry number shown (Ok entry) = shown ≡ Ok entry
ShowsEntry number shown (Err bad) = (bad.number ≡ number) × ((bad.fault ≡ NoMemory) ⊎ (shown ≡ Err bad.fault))

-- the entries that lines show, with this text behind them, or the first bad line
abbrev pub ShowsEntries : Shows → Result (List Entry) BadLine → List ℕ → Type 0
ShowsEntries shown (Ok entries) behind = shown ≡ Ok (entries, behind)
ShowsEntries shown (Err bad) behind = (bad.fault ≡ NoMemory) ⊎ (shown ≡ Err bad)

-- the same of the lines of a night
abbrev pub ShowsNightEntries : ShowsNight → Result (Option (List Entry)) BadLine → List ℕ → Type 0
ShowsNightEntries shown (Ok entries) behind = shown ≡ Ok (entries, behind)
ShowsNightEntries shown (Err bad) behind = (bad.fault ≡ NoMemory) ⊎ (shown ≡ Err bad)

-- and of a day, the entries of its columns and those of its night
abbrev pub ShowsDayEntries : ShowsDay → Result (List Entry × Option (List Entry)) BadLine → List ℕ → Type 0
ShowsDayEntries shown (Ok x) behind = shown ≡ Ok (x.0, (x.1, behind))
ShowsDayEntries shown (Err bad) behind = (bad.fault ≡ NoMemory) ⊎ (shown ≡ Err bad)

-- all days were shown, with so many undecided entries and this text behind their lines, or the first bad line came
abbrev pub ShowsDays : ShownDays → Result Shown Stop → List ℕ → Type 0
ShowsDays s (Ok (Whole undecided)) behind = (s.end ≡ Ok behind) × (undecided ≡ days_undecided s.days)
ShowsDays s (Ok (Bad bad)) behind = s.end ≡ Err bad
ShowsDays s (Err stop) behind = Unit {0}

-- the same of the whole table
abbrev pub ShowsTable : ShownTable → Result Shown Stop → Type 0
ShowsTable s (Ok (Whole undecided)) = (s.bad ≡ None) × (undecided ≡ days_undecided s.days)
ShowsTable s (Ok (Bad bad)) = s.bad ≡ Some bad
ShowsTable s (Err stop) = Unit {0}

-- of all days shown, with so many entries undecided
abbrev pub IfWhole : (ℕ → Type 0) → Result Shown Stop → Type 0
IfWhole P (Ok (Whole undecided)) = P undecided
IfWhole P (Ok (Bad bad)) = Unit {0}
IfWhole P (Err stop) = Unit {0}

-- a line is bad, or memory was not found for it
abbrev pub IsBad : BadLine → Result Shown Stop → Type 0
IsBad bad (Ok shown) = (shown ≡ Bad bad) × (bad.fault ≢ NoMemory)
IsBad bad (Err stop) = stop ≡ StopNoMemory

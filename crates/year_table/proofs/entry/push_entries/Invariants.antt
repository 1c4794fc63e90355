use Rattle.std.proofs.Common.{◌≡◌, ◌++◌, take}
use Rattle.std.specs.Prelude.{flat_map, zip}
use Rattle.std.specs.String.{string_bytes}
use Rattle.year_table.specs.Lines.{cell_text}
use Rattle.year_table.proofs.entry.push_entries.Given as goal

-- the entries so far are written
abbrev pub invariant-loop-i : goal.invariant-loop-i
invariant-loop-i l =
    string_bytes l.line ≡ string_bytes l.fn.line ++ flat_map cell_text (take l.i (zip l.problems l.entries))

use Rattle.std.proofs.Common.{◌≡◌, ◌++◌, map, take}
use Rattle.std.specs.Prelude.{zip}
use Rattle.method_table.specs.Row.{row_of}
use Rattle.order_calendar.specs.Pieces.{found_text, sheet_seen}
use Rattle.order_calendar.proofs.events.push_events.Given as goal

-- the events of the entries so far are there
abbrev pub invariant-loop-i : goal.invariant-loop-i
invariant-loop-i l =
    l.text.items ≡ l.fn.text.items ++ found_text (sheet_seen l.sheet) l.day.number (take l.i (zip (map row_of l.problems) l.entries))

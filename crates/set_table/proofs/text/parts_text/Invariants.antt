use Rattle.std.proofs.Common.{◌≡◌, ◌++◌, drop, map}
use Rattle.order_table.specs.Made.{day_of}
use Rattle.set_table.specs.Table.{part_day, parts_text}
use Rattle.set_table.proofs.text.parts_text.Given as goal

-- the lines so far, with those of the districts that are left, are all
abbrev pub invariant-loop-i : goal.invariant-loop-i
invariant-loop-i l =
    l.text.items ++ parts_text l.i (map (part_day (day_of l.day)) (drop l.i l.found)) ≡ parts_text 0 (map (part_day (day_of l.day)) l.found)

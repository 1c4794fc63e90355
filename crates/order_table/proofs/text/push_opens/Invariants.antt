use Rattle.std.proofs.Common.{◌≡◌, ◌++◌, map, take}
use Rattle.std.specs.Prelude.{zip}
use Rattle.method_table.specs.Row.{row_of}
use Rattle.order_table.specs.Table.{opens_text}
use Rattle.order_table.proofs.text.push_opens.Given as goal

-- the lines of the entries so far are there
abbrev pub invariant-loop-i : goal.invariant-loop-i
invariant-loop-i l =
    l.text.items ≡ l.fn.text.items ++ opens_text (take l.i (zip (map row_of l.problems) l.entries))

use Rattle.std.proofs.Common.{arith}
use Rattle.std.proofs.lemmas.List.{length-map}
use Rattle.method_table.specs.Row.{row_of}
use Rattle.order_table.specs.Made.{day_of}
use Rattle.order_table.proofs.TextLemmas.{undecided_is}
use Rattle.order_table.proofs.table.write_day.Goals as goal

pub returns-in-Ok-write_all-clause-count : goal.returns-in-Ok-write_all-clause-count
returns-in-Ok-write_all-clause-count g c =
    let seven = c.args.day.now.seven in
    undecided_is (day_of c.args.day.now) c.args.entries.now c.args.night_entries.now c.open_count.result
    (omega (arith, seven, c.told-entries, length-map c.args.day.now.problems row_of)) c.open_count.ensures.value

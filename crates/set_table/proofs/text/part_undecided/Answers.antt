use Rattle.std.proofs.Common.{arith}
use Rattle.std.specs.Prelude.{None}
use Rattle.std.proofs.lemmas.List.{length-map}
use Rattle.method_table.specs.Row.{row_of}
use Rattle.order_table.specs.Made.{day_of}
use Rattle.order_table.proofs.TextLemmas.{undecided_is}
use Rattle.set_table.proofs.text.part_undecided.Goals as goal

pub returns-clause-value : goal.returns-clause-value
returns-clause-value c =
    let seven = c.args.day.now.seven in
    undecided_is (day_of c.args.day.now) c.args.entries.now None c.open_count.result
    (omega (arith, seven, c.told-entries, length-map c.args.day.now.problems row_of)) c.open_count.ensures.value

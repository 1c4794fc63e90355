use Rattle.std.proofs.Common.{map}
use Rattle.method_table.specs.Row.{row_of}
use Rattle.order_table.proofs.TableLemmas.{entries_are}
use Rattle.order_table.proofs.search.day_entries.Goals as goal

pub returns-clause-entries : goal.returns-clause-entries
returns-clause-entries c =
    entries_are _ _ _ _ _ _ (map row_of c.args.day.now.problems) _ _ _ _ _ _ _ c.turn_to.ensures.sun_is c.turn_to.ensures.district_is c.turn_to.ensures.root_is
    c.entry_in.ensures.value c.entry_in-2.ensures.value c.entry_in-3.ensures.value c.entry_in-4.ensures.value
    c.entry_in-5.ensures.value c.entry_in-6.ensures.value c.entry_in-7.ensures.value

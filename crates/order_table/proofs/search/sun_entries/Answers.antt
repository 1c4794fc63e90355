use Rattle.std.proofs.Common.{map}
use Rattle.method_table.specs.Row.{row_of}
use Rattle.order_table.proofs.NightLemmas.{night_entries_are}
use Rattle.order_table.proofs.search.sun_entries.Goals as goal

pub returns-clause-entries : goal.returns-clause-entries
returns-clause-entries c =
    night_entries_are _ _ _ _ _ _ (map row_of c.args.night.now.problems) _ _ c.turn_to.ensures.sun_is c.turn_to.ensures.district_is
    c.turn_to.ensures.root_is c.sun_entry_in.ensures.value c.sun_entry_in-2.ensures.value

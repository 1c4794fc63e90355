use Rattle.std.proofs.Common.{ap, sym, ◌∙◌}
use Rattle.json_value.specs.View.{tree_of}
use Rattle.geo_json.specs.Lookup.{object_in}
use Rattle.geo_json.proofs.LookupLemmas.{entries_in_table}
use Rattle.geo_json.proofs.lookup.object_in.Goals as goal

pub returns-in-Table : goal.returns-in-Table
returns-in-Table c = sym (ap (λ v. object_in (tree_of v)) c.in-Table.is ∙ entries_in_table c.in-Table.table)

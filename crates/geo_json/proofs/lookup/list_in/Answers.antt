use Rattle.std.proofs.Common.{ap, sym, ◌∙◌}
use Rattle.json_value.specs.View.{tree_of}
use Rattle.geo_json.specs.Lookup.{list_in}
use Rattle.geo_json.proofs.LookupLemmas.{items_in_list}
use Rattle.geo_json.proofs.lookup.list_in.Goals as goal

pub returns-in-List : goal.returns-in-List
returns-in-List c = sym (ap (λ v. list_in (tree_of v)) c.in-List.is ∙ items_in_list c.in-List.list)

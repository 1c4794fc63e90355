-- What the code's answers stand for.
use Rattle.json_value.specs.Tree.{Tree}
use Rattle.json_value.specs.View as view
use Rattle.geo_json.specs.Lookup as lookup
use Rattle.geo_json.specs.declared.lookup.Found.{Found}
use Rattle.geo_json.specs.declared.lookup.Found.TheVariants.{Absent, Once, Again}

abbrev pub found_of : Found → lookup.Found
found_of Absent = lookup.absent
found_of (Once value) = lookup.once (view.tree_of value.now)
found_of Again = lookup.again

-- with one more value under the name
abbrev pub with_more : lookup.Found → Tree → lookup.Found
with_more lookup.absent t = lookup.once t
with_more _ t = lookup.again

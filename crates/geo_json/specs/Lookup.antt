-- What a plain tree of JSON holds: a number, a text, a list or an object, and the member of an object with a name.
use Rattle.std.specs.Prelude.{ℕ, cond, List, [], ◌∷◌, Option, Some, None, bytes_eq}
use Rattle.exact_decimal.specs.declared.decimal.Decimal.{Decimal}
use Rattle.json_value.specs.Tree.{Tree, number, text, list, table, Trees, no_item, item, Pairs, no_pair, pair, Entry}

abbrev pub items_in : Trees → List Tree
items_in no_item = []
items_in (item t ts) = t ∷ items_in ts

abbrev pub entries_in : Pairs → List Entry
entries_in no_pair = []
entries_in (pair name t ps) = record { name = name; value = t } ∷ entries_in ps

abbrev pub number_in : Tree → Option Decimal
number_in (number d) = Some d
number_in _ = None

abbrev pub text_in : Tree → Option (List ℕ)
text_in (text s) = Some s
text_in _ = None

abbrev pub list_in : Tree → Option (List Tree)
list_in (list ts) = Some (items_in ts)
list_in _ = None

abbrev pub object_in : Tree → Option (List Entry)
object_in (table ps) = Some (entries_in ps)
object_in _ = None

-- the values of the members with a name
unfoldable pub values_named : List ℕ → List Entry → List Tree
values_named name [] = []
values_named name (e ∷ es) = cond (bytes_eq e.name name) (e.value ∷ values_named name es) (values_named name es)

-- no member, one, or more than one
pub data Found : Type 0 where
  absent : Found
  once : Tree → Found
  again : Found

abbrev pub found_among : List Tree → Found
found_among [] = absent
found_among (t ∷ []) = once t
found_among (t ∷ u ∷ ts) = again

-- what stands under a name
abbrev pub find_member : List ℕ → List Entry → Found
find_member name es = found_among (values_named name es)

-- The plain tree that a value stands for.
use Rattle.std.specs.Prelude.{List}
use Rattle.json_value.specs.Tree.{Tree, null, flag, number, text, Entry, list_of, table_of}
use Rattle.json_value.specs.declared.value.Json.{Json, fold-Json}
use Rattle.json_value.specs.declared.value.Json.TheOpen.{Json-F, Member-F, JsonList-F, JsonTable-F}
use Rattle.json_value.specs.declared.value.JsonList.{JsonList, fold-JsonList}
use Rattle.json_value.specs.declared.value.JsonTable.{JsonTable, fold-JsonTable}
use Rattle.json_value.specs.declared.value.Member.{Member, fold-Member}

-- one level, with each value inside already seen as its tree
abbrev pub tree_step : Json-F Tree (List Tree) (List Entry) Entry → Tree
tree_step Json-F.Null = null
tree_step (Json-F.Flag b) = flag b
tree_step (Json-F.Number d) = number d
tree_step (Json-F.Text s) = text s
tree_step (Json-F.List ts) = list_of ts
tree_step (Json-F.Table es) = table_of es

abbrev pub list_step : JsonList-F Tree (List Tree) (List Entry) Entry → List Tree
list_step l = l.items

abbrev pub table_step : JsonTable-F Tree (List Tree) (List Entry) Entry → List Entry
table_step t = t.members

abbrev pub entry_step : Member-F Tree (List Tree) (List Entry) Entry → Entry
entry_step m = record { name = m.name; value = m.value }

-- the tree of a value, the trees of a list's items, and the pairs of a table
abbrev pub tree_of : Json → Tree
tree_of = fold-Json Tree (List Tree) (List Entry) Entry tree_step list_step table_step entry_step

abbrev pub items_of : JsonList → List Tree
items_of = fold-JsonList Tree (List Tree) (List Entry) Entry tree_step list_step table_step entry_step

abbrev pub entries_of : JsonTable → List Entry
entries_of = fold-JsonTable Tree (List Tree) (List Entry) Entry tree_step list_step table_step entry_step

abbrev pub entry_of : Member → Entry
entry_of = fold-Member Tree (List Tree) (List Entry) Entry tree_step list_step table_step entry_step

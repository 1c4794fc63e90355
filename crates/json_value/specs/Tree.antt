-- The plain tree of a JSON value (RFC 8259, section 3).
use Rattle.std.specs.Prelude.{ℕ, Bool, List, [], ◌∷◌}
use Rattle.exact_decimal.specs.declared.decimal.Decimal.{Decimal}

-- a text is its bytes, a list its values, and a table its pairs of a name and a value, in order
mutual
  pub data Tree : Type 0 where
    null : Tree
    flag : Bool → Tree
    number : Decimal → Tree
    text : List ℕ → Tree
    list : Trees → Tree
    table : Pairs → Tree

  pub data Trees : Type 0 where
    no_item : Trees
    item : Tree → Trees → Trees

  pub data Pairs : Type 0 where
    no_pair : Pairs
    pair : List ℕ → Tree → Pairs → Pairs

-- a pair of a table
pub record Entry : Type 0 where
  pub name : List ℕ
  pub value : Tree

-- the items of a list before those of the tree
abbrev pub items_before : List Tree → Trees → Trees
items_before [] ts = ts
items_before (t ∷ front) ts = item t (items_before front ts)

abbrev pub pairs_before : List Entry → Pairs → Pairs
pairs_before [] ps = ps
pairs_before (e ∷ front) ps = pair e.name e.value (pairs_before front ps)

abbrev pub list_of : List Tree → Tree
list_of ts = list (items_before ts no_item)

abbrev pub table_of : List Entry → Tree
table_of es = table (pairs_before es no_pair)

-- The entries of all districts together.
use Rattle.std.specs.Prelude.{ℕ, List, map, slice_index_or}
use Rattle.cell_split.specs.declared.verdict.Entry.{Entry}
use Rattle.cell_split.specs.declared.verdict.Entry.TheVariants.{Whole}
use Rattle.district_set.specs.Joins.{join_entries}
use Rattle.order_table.specs.Trees.{columns}

-- the entry of this column in each district
abbrev pub column_of : ℕ → List (List Entry) → List Entry
column_of k found = map (λ entries. slice_index_or entries k Whole) found

-- for each column the entry of all districts together
unfoldable pub joined_of : List (List Entry) → List Entry
joined_of found = map (λ k. join_entries (column_of k found)) columns

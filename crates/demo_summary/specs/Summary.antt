-- The summary of a table: how many of its entries are of each kind, and the sum of their minutes.
use Rattle.std.specs.Prelude.{ℕ, ℤ, pos, ◌+ℤ◌, Bool, true, false, List, ◌++◌, codes, count_by, decimal, fold, map, sum_by}
use Rattle.std.specs.Fmt.{signed_decimal}
use Rattle.cell_split.specs.declared.verdict.Entry.{Entry}
use Rattle.cell_split.specs.declared.verdict.Entry.TheVariants.{Minute, Never, Open, Whole}
use Rattle.method_table.specs.Row.{Row}
use Rattle.order_table.specs.Table.{DayTable, entries_in}
use Rattle.order_table.specs.Trees.{table_of_trees}
use Rattle.year_table.specs.Entries.{printed_minute}
use Rattle.demo_summary.specs.Demo.{demo_asked}
use Rattle.demo_summary.specs.declared.tally.Variant.{Variant}
use Rattle.demo_summary.specs.declared.tally.Variant.TheVariants as variants
use Rattle.demo_summary.specs.declared.tally.Tally.{Tally}

abbrev pub is_of : Variant → Entry → Bool
is_of variants.Minute (Minute rank) = true
is_of variants.Whole Whole = true
is_of variants.Never Never = true
is_of variants.Open (Open safe from cell) = true
is_of _ _ = false

-- how many entries of all days are of a variant
abbrev pub counted : Variant → List (List Entry) → ℕ
counted variant days = sum_by (count_by (is_of variant)) days

-- what is printed of an entry's minute, with the shift; no minute counts for nothing
abbrev pub minutes_of : Row × Entry → ℤ
minutes_of (row, Minute rank) = printed_minute row rank
minutes_of (row, entry) = pos 0

abbrev pub total : {A : Type 0} → (A → ℤ) → List A → ℤ
total number xs = fold (λ sum x. sum +ℤ number x) (pos 0) xs

abbrev pub summed : List DayTable → ℤ
summed days = total (λ day. total minutes_of day.found) days

unfoldable pub tally_of : List DayTable → Tally
tally_of days = record {
  minutes = counted variants.Minute (map entries_in days);
  whole = counted variants.Whole (map entries_in days);
  never = counted variants.Never (map entries_in days);
  undecided = counted variants.Open (map entries_in days);
  sum = summed days;
}

abbrev pub head_text : ℕ → List ℕ
head_text number = codes "demo " ++ decimal number ++ codes " positions 65 days 30"

abbrev pub counts_text : Tally → List ℕ
counts_text t =
    codes " minutes " ++ decimal t.minutes ++ codes " whole " ++ decimal t.whole ++ codes " never " ++ decimal t.never
    ++ codes " open " ++ decimal t.undecided

abbrev pub sum_text : ℤ → List ℕ
sum_text sum = codes " sum " ++ signed_decimal sum ++ codes "\n"

abbrev pub line_of : ℕ → Tally → List ℕ
line_of number t = head_text number ++ (counts_text t ++ sum_text t.sum)

-- of the order that the number stands for
unfoldable pub summary_line : ℕ → List ℕ
summary_line number = line_of number (tally_of (table_of_trees (demo_asked number)))

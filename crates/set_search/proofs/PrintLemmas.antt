-- The join of entries that can be printed can be printed.
use Rattle.std.proofs.Common.{◌≡◌, ℕ, ◌<◌, ◌≤◌, ◌==◌, Bool, true, false, cond, List, [], ◌∷◌, Some, None, refl, arith}
use Rattle.std.specs.Prelude.{All, nat_le}
use Rattle.std.specs.List.{AllByRecursion as Every}
use Rattle.std.proofs.lemmas.Bool.Decides.{nat_tests}
use Rattle.std.proofs.lemmas.List.Elements.{recursion_from_All}
use Rattle.cell_split.specs.declared.verdict.Entry.{Entry}
use Rattle.cell_split.specs.declared.verdict.Entry.TheVariants.{Minute, Whole, Never, Open}
use Rattle.cell_split.specs.Entries.{decided}
use Rattle.district_set.specs.Joins.{decided_value, first_open, greatest, join_entries, joined, open_from, open_safe}
use Rattle.order_table.specs.Printing.{IsPrintable}
use Rattle.set_search.specs.Searches.{IsFound}

-- the greatest value is one of the values, or 0
bounded : (value : Entry → ℕ) (n : ℕ) → ((e : Entry) → IsFound e → value e ≤ n) → (es : List Entry) → Every IsFound es → greatest value es ≤ n
bounded value n each [] found = omega arith
bounded value n each (e ∷ es) found =
    let first = each e found.0 in
    let rest = bounded value n each es found.1 in omega (arith, first, rest)

small_value : (e : Entry) → IsFound e → decided_value e ≤ 721
small_value (Minute rank) found = let last = found.1 in omega (arith, last)
small_value Whole found = omega arith
small_value Never found = omega arith
small_value (Open safe from cell) found = omega arith

small_from : (e : Entry) → IsFound e → open_from e ≤ 720
small_from (Minute rank) found = omega arith
small_from Whole found = omega arith
small_from Never found = omega arith
small_from (Open safe from cell) found = found.1.1

small_safe : (e : Entry) → IsFound e → open_safe e ≤ 721
small_safe (Minute rank) found = omega arith
small_safe Whole found = omega arith
small_safe Never found = omega arith
small_safe (Open safe from cell) found = found.1.0

decided_printable : (v : ℕ) → v ≤ 721 → IsPrintable (decided v)
decided_printable v small = by (v == 0) (v == 721) refl refl where
  by : (t u : Bool) → (v == 0) ≡ t → (v == 721) ≡ u → IsPrintable (cond t Whole (cond u Never (Minute v)))
  by true u e f = tt
  by false true e f = tt
  by false false e f = grind (arith, nat_tests, f, small)

-- what is left of entries that can be printed
left_printable : (value from safe : ℕ) → value < 721 → from ≤ 720 → (es : List Entry) → Every IsFound es → IsPrintable (joined value from (first_open safe es))
left_printable value from safe small less [] found = decided_printable value (omega (arith, small))
left_printable value from safe small less (e ∷ es) found =
    by (open_safe e == safe) (left_printable value from safe small less es found.1)
  where
    of_first : (e : Entry) → IsFound e → IsPrintable (joined value from (Some e))
    of_first (Minute rank) is = decided_printable value (omega (arith, small))
    of_first Whole is = decided_printable value (omega (arith, small))
    of_first Never is = decided_printable value (omega (arith, small))
    of_first (Open s f cell) is = (is.1.0, omega (arith, small, less), is.1.2, is.1.3)

    by : (t : Bool) → IsPrintable (joined value from (first_open safe es)) → IsPrintable (joined value from (cond t (Some e) (first_open safe es)))
    by true others = of_first e found.0
    by false others = others

pub join_printable : (es : List Entry) → All IsFound es → IsPrintable (join_entries es)
unfolding join_entries
join_printable es found =
    let each = recursion_from_All IsFound es found in
    let value = greatest decided_value es in
    let safe = greatest open_safe es in
    let v = bounded decided_value 721 small_value es each in
    let f = bounded open_from 720 small_from es each in
    let s = bounded open_safe 721 small_safe es each in
    by es each value safe v s f (nat_le safe value) refl
  where
    by : (es : List Entry) → Every IsFound es → (value safe : ℕ) → value ≤ 721 → safe ≤ 721 → greatest open_from es ≤ 720 → (t : Bool) → nat_le safe value ≡ t →
        IsPrintable (joined value (greatest open_from es) (cond t None (first_open safe es)))
    by es each value safe v s f true e = decided_printable value v
    by es each value safe v s f false e = left_printable value (greatest open_from es) safe (grind (arith, nat_tests, e, s)) f es each

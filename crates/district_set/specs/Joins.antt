-- The entry of districts taken together, from the entries of each.
use Rattle.std.specs.Prelude.{ℕ, ◌≤◌, ◌<◌, ◌==◌, nat_le, max, if◌then◌else◌, List, [], ◌∷◌, Option, Some, None, find}
use Rattle.cell_split.specs.declared.verdict.Entry.{Entry}
use Rattle.cell_split.specs.declared.verdict.Entry.TheVariants.{Minute, Whole, Never, Open}
use Rattle.cell_split.specs.Entries.{decided}

-- the rank from which on a decided entry is safe, 721 for none; an undecided one has 0
abbrev pub decided_value : Entry → ℕ
decided_value (Minute rank) = rank
decided_value Whole = 0
decided_value Never = 721
decided_value (Open safe from cell) = 0

-- the two ranks of an undecided entry; a decided one has 0
abbrev pub open_safe : Entry → ℕ
open_safe (Open safe from cell) = safe
open_safe entry = 0

abbrev pub open_from : Entry → ℕ
open_from (Open safe from cell) = from
open_from entry = 0

-- the greatest value that an entry has
abbrev pub greatest : (Entry → ℕ) → List Entry → ℕ
greatest value [] = 0
greatest value (e ∷ es) = max (value e) (greatest value es)

-- the first undecided entry that is safe from this rank on
abbrev pub first_open : ℕ → List Entry → Option Entry
first_open safe es = find (λ e. open_safe e == safe) es

-- what is said of all, by the greatest decided value, the greatest `from`, and the undecided entry that is left
abbrev pub joined : ℕ → ℕ → Option Entry → Entry
joined value from (Some (Open safe f cell)) = Open safe (max value from) cell
joined value from _ = decided value

-- An undecided entry is left where one is safe only later than every decided one: the first of the latest.
unfoldable pub join_entries : List Entry → Entry
join_entries es = let value = greatest decided_value es in
    let safe = greatest open_safe es in
    joined value (greatest open_from es) (if nat_le safe value then None else first_open safe es)

-- the ranks of an entry are a frame's, and an undecided one's in order
abbrev pub IsInFrame : Entry → Type 0
IsInFrame (Minute rank) = rank ≤ 720
IsInFrame (Open safe from cell) = (from < safe) × (safe ≤ 721)
IsInFrame entry = Unit {0}

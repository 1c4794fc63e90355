-- What a call on a source or a sink does to the bytes that it tells of, and to its count of faults. A source or a
-- sink that tells nothing of its bytes, as a terminal, has `None` for them.
use Rattle.std.specs.Prelude.{◌≡◌, ℕ, ◌+◌, ◌-◌, ◌^◌, ◌<◌, ◌≤◌, min, List, [], ◌++◌, length, take, Option, Some}

-- the count of faults rose; one that stands at the last value of a counter counts as risen
abbrev pub Rose : ℕ → ℕ → Type 0
Rose before now = min (before + 1) (2 ^ 64 - 1) ≤ now

-- these bytes came in behind what was held: a sink that tells after a call told before it
abbrev pub Adds : Option (List ℕ) → Option (List ℕ) → List ℕ → Type 0
Adds old new bytes = (y : List ℕ) → new ≡ Some y → (x : List ℕ) × (old ≡ Some x) × (y ≡ x ++ bytes)

-- the first bytes of a text came in, however many
abbrev pub AddsSome : Option (List ℕ) → Option (List ℕ) → List ℕ → Type 0
AddsSome old new text = (n : ℕ) × Adds old new (take n text)

-- the first bytes of a text came in, but not all of them
abbrev pub AddsPart : Option (List ℕ) → Option (List ℕ) → List ℕ → Type 0
AddsPart old new text = (n : ℕ) × (n < length text) × Adds old new (take n text)

-- these bytes were taken from the front of what was left: a source that told before a call tells after it
abbrev pub Gives : Option (List ℕ) → Option (List ℕ) → List ℕ → Type 0
Gives old new bytes = (x : List ℕ) → old ≡ Some x → (y : List ℕ) × (new ≡ Some y) × (x ≡ bytes ++ y)

-- nothing is left
abbrev pub IsUsedUp : Option (List ℕ) → Type 0
IsUsedUp left = (x : List ℕ) → left ≡ Some x → x ≡ []

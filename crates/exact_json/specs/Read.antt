-- What `read` answers for bytes that are no JSON text within the limits: the shortest front that shows it.
use Rattle.std.specs.Prelude.{◌≡◌, ℕ, ◌+◌, ◌<◌, ◌≤◌, List, ◌++◌, length, take, ◌⊎◌}
use Rattle.exact_json.specs.Grammar.{IsJson, IsJsonBy, BeginsJson, StaysWithin}
use Rattle.exact_json.specs.Limits.{depth_limit, number_limit_before}
use Rattle.json_value.specs.Tree.{Tree}
use Rattle.exact_json.specs.declared.fault.JsonFault.{JsonFault}
use Rattle.exact_json.specs.declared.fault.JsonFault.TheVariants.{NotJson, TooDeep, LongNumber, NoMemory}

-- each front of fewer than `end` bytes begins some JSON text and passes no limit
abbrev pub AllGood : List ℕ → ℕ → Type 0
AllGood bytes end = (k : ℕ) → k < end → BeginsJson (take k bytes) × StaysWithin (take k bytes)

-- the byte at the place is the first with which no JSON text begins, or the bytes end there too early
pub record IsNotJson (bytes : List ℕ) (place : ℕ) : Type 0 where
  pub before : AllGood bytes (place + 1)
  pub «at» : ((place < length bytes) × (BeginsJson (take (place + 1) bytes) → ⊥)) ⊎ ((place ≡ length bytes) × ((t : Tree) → IsJson t bytes → ⊥))

-- the byte at the place opens a list or a table inside 64 others, in each text that begins so
pub record IsTooDeep (bytes : List ℕ) (place : ℕ) : Type 0 where
  pub within : place < length bytes
  pub before : AllGood bytes (place + 1)
  pub begins : BeginsJson (take (place + 1) bytes)
  pub passes : (t : Tree) (more : List ℕ) → IsJsonBy depth_limit t (take (place + 1) bytes ++ more) → ⊥

-- the number that begins at the place has a 65th byte
pub record IsLongNumber (bytes : List ℕ) (place : ℕ) : Type 0 where
  pub within : place + 65 ≤ length bytes
  pub before : AllGood bytes (place + 65)
  pub begins : BeginsJson (take (place + 65) bytes)
  pub passes : (t : Tree) (more : List ℕ) → IsJsonBy (number_limit_before (length more)) t (take (place + 65) bytes ++ more) → ⊥

abbrev pub IsFaultOf : List ℕ → JsonFault → Type 0
IsFaultOf bytes (NotJson place) = IsNotJson bytes place
IsFaultOf bytes (TooDeep place) = IsTooDeep bytes place
IsFaultOf bytes (LongNumber place) = IsLongNumber bytes place
IsFaultOf bytes NoMemory = Unit {0}

-- What one read of a source did, and what reading it to its end did.
use Rattle.std.specs.Prelude.{◌≡◌, ℕ, ◌+◌, ◌<◌, ◌≤◌, List, [], length, take, Option, Some}
use Rattle.source_sink.specs.Outside.{Rose, Gives, IsUsedUp}
use Rattle.source_sink.specs.declared.reading.Got.{Got}
use Rattle.source_sink.specs.declared.reading.Got.TheVariants.{Bytes, End, Failed}

-- the answer: the next bytes at the front of the buffer, or the end, where nothing is left, or a fault that was counted
abbrev pub ReadCase : Option (List ℕ) → Option (List ℕ) → ℕ → ℕ → List ℕ → Got → Type 0
ReadCase old new before now buffer (Bytes n) = (0 < n) × (n ≤ length buffer) × Gives old new (take n buffer)
ReadCase old new before now buffer End = Gives old new [] × IsUsedUp old
ReadCase old new before now buffer Failed = Gives old new [] × Rose before now

-- one read, from the bytes left and the faults counted before it and after it, and the buffer after it
pub record Reads (old new : Option (List ℕ)) (before now : ℕ) (buffer : List ℕ) (result : Got) : Type 0 where
  pub later : before ≤ now
  pub case : ReadCase old new before now buffer result

-- bytes were taken from the front of what was left, at most the limit and one piece more
abbrev pub GivesWithin : ℕ → Option (List ℕ) → Option (List ℕ) → Type 0
GivesWithin limit old new = (bytes : List ℕ) × (length bytes ≤ limit + 65_536) × Gives old new bytes

-- these bytes are all that was left, and nothing is left now
abbrev pub GivesAll : Option (List ℕ) → Option (List ℕ) → List ℕ → Type 0
GivesAll old new bytes = (x : List ℕ) → old ≡ Some x → (new ≡ Some []) × (x ≡ bytes)

-- nothing is left of what was
abbrev pub IsReadToEnd : Option (List ℕ) → Option (List ℕ) → Type 0
IsReadToEnd old new = (x : List ℕ) → old ≡ Some x → new ≡ Some []

-- more bytes are left than the limit
abbrev pub IsLonger : Option (List ℕ) → ℕ → Type 0
IsLonger left limit = (x : List ℕ) → left ≡ Some x → limit < length x

-- What one write to a sink did.
use Rattle.std.specs.Prelude.{ℕ, ◌<◌, ◌≤◌, List, [], length, take, Option}
use Rattle.source_sink.specs.Outside.{Rose, Adds}
use Rattle.source_sink.specs.declared.writing.Put.{Put}
use Rattle.source_sink.specs.declared.writing.Put.TheVariants.{Took, Failed}

-- the answer: the first bytes of the piece came in, at least one, or none did and a fault was counted
abbrev pub WriteCase : Option (List ℕ) → Option (List ℕ) → ℕ → ℕ → List ℕ → Put → Type 0
WriteCase old new before now piece (Took n) = (0 < n) × (n ≤ length piece) × Adds old new (take n piece)
WriteCase old new before now piece Failed = Adds old new [] × Rose before now

-- one write, from the bytes held and the faults counted before it and after it
pub record Writes (old new : Option (List ℕ)) (before now : ℕ) (piece : List ℕ) (result : Put) : Type 0 where
  pub later : before ≤ now
  pub case : WriteCase old new before now piece result

-- A source or a sink as clauses see it.
use Rattle.std.specs.Prelude.{ℕ, List, Option}

-- the bytes that are left or held, where it tells them, and the count of faults
pub record Stream : Type 0 where
  pub bytes : Option (List ℕ)
  pub faults : ℕ

abbrev pub stream : Option (List ℕ) → ℕ → Stream
stream bytes faults = record { bytes = bytes; faults = faults }

-- the streams of a run, before it or after it
pub record Streams : Type 0 where
  pub source : Stream
  pub out : Stream
  pub err : Stream

abbrev pub streams : Stream → Stream → Stream → Streams
streams source out err = record { source = source; out = out; err = err }

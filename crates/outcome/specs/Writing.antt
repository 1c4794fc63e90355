-- What a call that writes a text does to the output.
use Rattle.std.specs.Prelude.{ℕ, ◌≤◌, List, Option, OnOk, IsErrOf, Result}
use Rattle.source_sink.specs.Outside.{Rose, Adds, AddsPart, AddsSome}
use Rattle.outcome.specs.declared.stop.Stop.{Stop}
use Rattle.outcome.specs.declared.stop.Stop.TheVariants.{NoMemory, WriteFault}

-- the whole text, or a part of it where a write failed, or some of it where memory was not found
pub record Writes {X : Type 0} (text : List ℕ) (result : Result X Stop) (out out' : ℕ) (old new : Option (List ℕ)) : Type 0 where
  pub whole : OnOk result (Adds old new text)
  pub part : IsErrOf result WriteFault → Rose out out' × AddsPart old new text
  pub some : IsErrOf result NoMemory → AddsSome old new text
  pub later : out ≤ out'

-- How a run ends: its status, and what the output and the error stream hold in addition.
use Rattle.std.specs.Prelude.{◌≡◌, ℕ, List, [], ◌⊎◌}
use Rattle.source_sink.specs.Outside.{Rose, Adds, AddsSome, AddsPart}
use Rattle.outcome.specs.Answer.{Answer}
use Rattle.outcome.specs.Streams.{Stream}
use Rattle.outcome.specs.declared.status.Status.{Status}
use Rattle.outcome.specs.declared.status.Status.TheVariants.{ReadFault, WriteFault, NoMemory}

-- The status is that of the answer, with its whole text added to the output; or a fault is: a read fault, only where the
-- source's count rose, adds nothing; a write fault, only where the output's count rose, adds a part of the text; and
-- want of memory adds some of it.
unfoldable pub EndsAs : Answer → Status → Stream → Stream → Stream → Stream → Type 0
EndsAs a ReadFault source source' out out' = Rose source.faults source'.faults × Adds out.bytes out'.bytes []
EndsAs a WriteFault source source' out out' = Rose out.faults out'.faults × AddsPart out.bytes out'.bytes a.text
EndsAs a NoMemory source source' out out' = AddsSome out.bytes out'.bytes a.text
EndsAs a status source source' out out' = (status ≡ a.status) × Adds out.bytes out'.bytes a.text

-- the line is added to the error stream, or, only where its count rose, a part of it
abbrev pub Reports : List ℕ → Stream → Stream → Type 0
Reports line err err' = Adds err.bytes err'.bytes line ⊎ (Rose err.faults err'.faults × AddsPart err.bytes err'.bytes line)

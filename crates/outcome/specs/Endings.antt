-- How the pieces of a run end, as the code tells it.
use Rattle.std.specs.Prelude.{◌≡◌, ℕ, List, Result, Ok, Err, string_bytes}
use Rattle.outcome.specs.Answer.{Answer, line_of, line_of_status, status_of_count}
use Rattle.outcome.specs.Ends.{EndsAs}
use Rattle.outcome.specs.Streams.{Stream}
use Rattle.outcome.specs.declared.ending.Ending.{Ending}
use Rattle.outcome.specs.declared.ending.Ending.TheVariants.{Plain, Refused}
use Rattle.outcome.specs.declared.status.Status.{Status}
use Rattle.outcome.specs.declared.status.Status.TheVariants.{NoMemory, WriteFault}
use Rattle.outcome.specs.declared.stop.Stop.{Stop}
use Rattle.outcome.specs.declared.stop.Stop.TheVariants.{NoMemory as StopNoMemory, WriteFault as StopWriteFault}

abbrev pub status_of_ending : Ending → Status
status_of_ending (Plain status) = status
status_of_ending (Refused status line) = status

abbrev pub line_of_ending : Ending → List ℕ
line_of_ending (Plain status) = line_of_status status
line_of_ending (Refused status line) = string_bytes line

-- the words or the input are refused with this status and this line, or memory for the line was not found
abbrev pub IsRefusedBy : Status → List ℕ → Ending → Type 0
IsRefusedBy status line (Plain other) = other ≡ NoMemory
IsRefusedBy status line (Refused other text) = (other ≡ status) × (string_bytes text ≡ line)

-- the run ends by this answer: its status and its line, and what came to the output
pub record EndsBy (a : Answer) (ending : Ending) (source source' out out' : Stream) : Type 0 where
  pub ends : EndsAs a (status_of_ending ending) source source' out out'
  pub line : line_of_ending ending ≡ line_of a (status_of_ending ending)

-- the ending of a text that was written whole, with so many undecided in it, or was not
abbrev pub ending_of : Result ℕ Stop → Ending
ending_of (Ok undecided) = Plain (status_of_count undecided)
ending_of (Err StopNoMemory) = Plain NoMemory
ending_of (Err StopWriteFault) = Plain WriteFault

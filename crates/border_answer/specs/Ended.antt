-- How a run ended, on every stream.
use Rattle.std.specs.Prelude.{◌≡◌, ◌≢◌, ◌⊎◌, ◌≤◌, ℕ, List, [], ◌∷◌, Ok, None}
use Rattle.command_input.specs.Input.{read, too_long}
use Rattle.outcome.specs.Answer.{line_of}
use Rattle.outcome.specs.Endings.{EndsBy, status_of_ending}
use Rattle.outcome.specs.Ends.{EndsAs, Reports}
use Rattle.outcome.specs.Streams.{Stream, Streams}
use Rattle.outcome.specs.declared.ending.Ending.{Ending}
use Rattle.outcome.specs.declared.status.Status.{Status}
use Rattle.outcome.specs.declared.status.Status.TheVariants.{Done, Open, NoMemory, ReadFault}
use Rattle.source_sink.specs.Reading.{GivesWithin, IsReadToEnd}
use Rattle.ring_survey.specs.Faults.{first_fault}
use Rattle.border_check.specs.Borders.{border_fault}
use Rattle.border_input.specs.Requests.{Requested}
use Rattle.border_input.specs.Taken.{Input, IsSpelledBy, request_limit}
use Rattle.border_answer.specs.Answer.{answer_to}

-- both are without a fault
pub record IsSound (r : Requested) : Type 0 where
  pub border : border_fault r.border ≡ None
  pub district : first_fault r.order.district ≡ None

-- what was read is sound
abbrev pub IsSoundInput : Input → Type 0
IsSoundInput (read (Ok r)) = IsSound r
IsSoundInput input = Unit {0}

-- the run ended with a verdict
abbrev pub IsVerdict : Status → Type 0
IsVerdict status = (status ≡ Done) ⊎ (status ≡ Open)

-- The first bytes of the source were taken, at most one piece more than the limit; and all of them, but for a read fault,
-- want of memory, or an input that is too long.
pub record IsTaken (input : Input) (status : Status) (source source' : Stream) : Type 0 where
  pub within : GivesWithin request_limit source.bytes source'.bytes
  pub whole : status ≢ ReadFault → status ≢ NoMemory → input ≢ too_long → IsReadToEnd source.bytes source'.bytes
  pub later : source.faults ≤ source'.faults

-- the source after a run; where there were words, it is as it was
abbrev pub Leaves : List (List ℕ) → Input → Status → Stream → Stream → Type 0
Leaves [] input status source source' = IsTaken input status source source'
Leaves (word ∷ words) input status source source' = (source' ≡ source) × (status ≢ ReadFault)

-- a run answered an input that its source spelled
pub record Answers (words : List (List ℕ)) (ending : Ending) (source source' out out' : Stream) : Type 0 where
  pub input : Input
  pub spelled : IsSpelledBy source.bytes input
  pub sound : IsVerdict (status_of_ending ending) → IsSoundInput input
  pub ends : EndsBy (answer_to words input) ending source source' out out'
  pub leaves : Leaves words input (status_of_ending ending) source source'

pub record Ended (words : List (List ℕ)) (status : Status) (before after : Streams) : Type 0 where
  -- the input, as the source's bytes spell it where it told them
  pub input : Input
  pub spelled : IsSpelledBy before.source.bytes input
  -- the answer's status, with its text added to the output; or a fault that is named, and counted where it is one of a stream
  pub ends : EndsAs (answer_to words input) status before.source after.source before.out after.out
  -- the answer's line, or the fault's, is added to the error stream
  pub reports : Reports (line_of (answer_to words input) status) before.err after.err
  -- what was judged is sound
  pub sound : IsVerdict status → IsSoundInput input
  -- what the source has left
  pub leaves : Leaves words input status before.source after.source

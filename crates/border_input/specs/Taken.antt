-- What reading an order with a border from a source said.
use Rattle.std.specs.Prelude.{◌≡◌, ◌≤◌, ℕ, List, Option, Some, Result}
use Rattle.command_input.specs.Input.{Given, IsGiven}
use Rattle.command_input.specs.Taken.{ReadCase, Refusing}
use Rattle.outcome.specs.Streams.{Stream}
use Rattle.outcome.specs.declared.ending.Ending.{Ending}
use Rattle.outcome.specs.declared.status.Status.TheVariants.{OrderRefused}
use Rattle.source_sink.specs.Reading.{GivesWithin}
use Rattle.border_input.specs.Lines.{long_request, request_line}
use Rattle.border_input.specs.Reads.{ReadsRequest}
use Rattle.border_input.specs.Requests.{Requested, requested_of}
use Rattle.border_input.specs.declared.fault.RequestFault.{RequestFault}
use Rattle.border_input.specs.declared.fault.RequestFault.TheVariants.{NoMemory}
use Rattle.border_input.specs.declared.request.Request.{Request}

-- the most bytes
abbrev pub request_limit : ℕ
request_limit = 268_435_456

-- an order with a border, its first refusal, or too many bytes
abbrev pub Input : Type 0
Input = Given (Result Requested RequestFault)

abbrev pub IsSpelled : List ℕ → Input → Type 0
IsSpelled bytes input = IsGiven request_limit ReadsRequest bytes input

-- the input of a run whose source had these bytes left, where it told them
pub record IsSpelledBy (left : Option (List ℕ)) (input : Input) : Type 0 where
  pub bytes : List ℕ
  pub told : (x : List ℕ) → left ≡ Some x → x ≡ bytes
  pub spelled : IsSpelled bytes input

abbrev pub of_requests : Refusing RequestFault
of_requests = record { status = OrderRefused; long = long_request; line = request_line; no_memory = NoMemory }

-- the source spelled an input, and this is what was said of it
pub record IsRequestTaken (source source' : Stream) (result : Result Request Ending) : Type 0 where
  pub given : Input
  pub spelled : IsSpelledBy source.bytes given
  pub case : ReadCase of_requests requested_of given result source source'
  pub within : GivesWithin request_limit source.bytes source'.bytes
  pub later : source.faults ≤ source'.faults

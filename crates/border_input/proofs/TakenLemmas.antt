-- What was read of a source.
use Rattle.std.proofs.Common.{◌≡◌, ℕ, ◌+◌, ◌<◌, ◌≤◌, ◌⊎◌, inl, inr, List, [], length, Bool, true, false, Option, Some, None, Ok, Err, refl, arith}
use Rattle.std.specs.Prelude.{nat_le, replicate}
use Rattle.std.proofs.lemmas.Bool.{leb-true, leb-false}
use Rattle.std.proofs.lemmas.List.{length-replicate}
use Rattle.command_input.specs.Input.{read, too_long}
use Rattle.command_input.specs.Taken.{IsRefusalOf}
use Rattle.outcome.specs.Endings.{IsRefusedBy}
use Rattle.outcome.specs.Streams.{Stream}
use Rattle.outcome.specs.declared.ending.Ending.{Ending}
use Rattle.outcome.specs.declared.ending.Ending.TheVariants.{Plain, Refused}
use Rattle.outcome.specs.declared.status.Status.{Status}
use Rattle.outcome.specs.declared.status.Status.TheVariants.{NoMemory, ReadFault}
use Rattle.source_sink.specs.Outside.{Rose}
use Rattle.source_sink.specs.Reading.{GivesAll, GivesWithin, IsLonger}
use Rattle.border_input.proofs.ReadLemmas.{every_text_is_a_request_or_refused}
use Rattle.border_input.specs.Requests.{requested_of}
use Rattle.border_input.specs.Taken.{Input, IsRequestTaken, IsSpelled, IsSpelledBy, of_requests, request_limit}
use Rattle.border_input.specs.declared.fault.RequestFault.{RequestFault}
use Rattle.border_input.specs.declared.fault.RequestFault.TheVariants.{NoMemory as RequestNoMemory}
use Rattle.border_input.specs.declared.request.Request.{Request}

some_input : (bytes : List ℕ) → (g : Input) × IsSpelled bytes g
some_input bytes = by (nat_le (length bytes) request_limit) refl where
  by : (t : Bool) → nat_le (length bytes) request_limit ≡ t → (g : Input) × IsSpelled bytes g
  by true few = let x = every_text_is_a_request_or_refused bytes in (read x.0, (leb-true (length bytes) request_limit few, x.1))
  by false many = (too_long, leb-false (length bytes) request_limit many)

told_by : (left : Option (List ℕ)) → (bytes : List ℕ) × ((x : List ℕ) → left ≡ Some x → x ≡ bytes)
told_by None = ([], λ x told. absurd cc)
told_by (Some bytes) = (bytes, λ x told. cc)

-- more bytes than the limit, those left where they are told
long_by : (left : Option (List ℕ)) (limit : ℕ) → IsLonger left limit →
    (bytes : List ℕ) × ((x : List ℕ) → left ≡ Some x → x ≡ bytes) × (limit < length bytes)
long_by None limit longer =
    let zeros : List ℕ = replicate (limit + 1) 0 in
    let count : length zeros ≡ limit + 1 = length-replicate (limit + 1) 0 in
    (zeros, λ x told. absurd cc, omega (arith, count))
long_by (Some bytes) limit longer = (bytes, λ x told. cc, longer bytes refl)

-- a source has an input, whatever it tells
pub some_by : (left : Option (List ℕ)) → (g : Input) × IsSpelledBy left g
some_by left =
    let (bytes, told) = told_by left in
    let (g, is) = some_input bytes in
    (g, record { bytes = bytes; told = told; spelled = is })

-- a fault, or want of memory
pub read_not : (source source' : Stream) (status : Status) → GivesWithin request_limit source.bytes source'.bytes →
    source.faults ≤ source'.faults → (status ≡ NoMemory) ⊎ ((status ≡ ReadFault) × Rose source.faults source'.faults) →
    IsRequestTaken source source' (Err (Plain status))
read_not source source' status within later cause =
    let (g, spelled) = some_by source.bytes in
    record { given = g; spelled = spelled; case = cause; within = within; later = later }

-- the whole
pub read_whole : (source source' : Stream) (bytes : List ℕ) (x : Request) → GivesWithin request_limit source.bytes source'.bytes →
    source.faults ≤ source'.faults → GivesAll source.bytes source'.bytes bytes → IsSpelled bytes (read (Ok (requested_of x))) →
    IsRequestTaken source source' (Ok x)
read_whole source source' bytes x within later gives spelled = record {
  given = read (Ok (requested_of x));
  spelled = record { bytes = bytes; told = λ x told. (gives x told).1; spelled = spelled };
  case = (refl, λ x told. (gives x told).0);
  within = within;
  later = later;
}

-- more bytes than there may be
pub read_long : (source source' : Stream) (ending : Ending) → GivesWithin request_limit source.bytes source'.bytes →
    source.faults ≤ source'.faults → IsLonger source.bytes request_limit → IsRefusedBy of_requests.status of_requests.long ending →
    IsRequestTaken source source' (Err ending)
read_long source source' (Plain status) within later longer is = read_not source source' status within later (inl is)
read_long source source' (Refused status line) within later longer is =
    let (bytes, told, long) = long_by source.bytes request_limit longer in
    record {
      given = too_long;
      spelled = record { bytes = bytes; told = told; spelled = long };
      case = is;
      within = within;
      later = later;
    }

-- what is none
pub read_refused : (source source' : Stream) (bytes : List ℕ) (fault : RequestFault) (ending : Ending) →
    GivesWithin request_limit source.bytes source'.bytes → source.faults ≤ source'.faults →
    GivesAll source.bytes source'.bytes bytes →
    (fault ≡ RequestNoMemory) ⊎ IsSpelled bytes (read (Err fault)) → IsRefusalOf of_requests fault ending →
    IsRequestTaken source source' (Err ending)
read_refused source source' bytes fault (Plain status) within later gives spelled is =
    read_not source source' status within later (inl is)
read_refused source source' bytes fault (Refused status line) within later gives (inl memory) is = absurd (is.2 memory)
read_refused source source' bytes fault (Refused status line) within later gives (inr spelled) is = record {
  given = read (Err fault);
  spelled = record { bytes = bytes; told = λ x told. (gives x told).1; spelled = spelled };
  case = (is.0, is.1, λ x told. (gives x told).0);
  within = within;
  later = later;
}

-- What reading bytes as an order with a border answers: both of the JSON text that they are, or the first refusal.
use Rattle.std.specs.Prelude.{◌≡◌, ℕ, List, Result, Ok, Err}
use Rattle.exact_json.specs.Readings.{Reading}
use Rattle.json_value.specs.Tree.{Tree}
use Rattle.exact_json.specs.declared.fault.JsonFault.{JsonFault}
use Rattle.exact_json.specs.declared.fault.JsonFault.TheVariants.{NoMemory as JsonNoMemory}
use Rattle.order_member.specs.declared.fault.OrderFault.TheVariants.{Json}
use Rattle.border_input.specs.Reading.{request_in}
use Rattle.border_input.specs.Requests.{Requested}
use Rattle.border_input.specs.declared.fault.RequestFault.{RequestFault}
use Rattle.border_input.specs.declared.fault.RequestFault.TheVariants.{Order, NoMemory}

-- the fault of a text that could not be read, as one of an order
abbrev pub json_refusal : JsonFault → RequestFault
json_refusal JsonNoMemory = NoMemory
json_refusal fault = Order (Json fault)

abbrev pub answer_by : Result Tree JsonFault → Result Requested RequestFault
answer_by (Ok t) = request_in t
answer_by (Err fault) = Err (Order (Json fault))

abbrev pub ReadsRequest : List ℕ → Result Requested RequestFault → Type 0
ReadsRequest bytes x = (r : Result Tree JsonFault) × Reading bytes r × (x ≡ answer_by r)

-- bytes are an order with a border in one way, or are refused in one way
abbrev pub RequestReadingsAgree : Type 0
RequestReadingsAgree =
    (bytes : List ℕ) (x y : Result Requested RequestFault) → ReadsRequest bytes x → ReadsRequest bytes y → x ≡ y

-- all bytes are, or are refused
abbrev pub EveryTextIsARequestOrRefused : Type 0
EveryTextIsARequestOrRefused = (bytes : List ℕ) → (x : Result Requested RequestFault) × ReadsRequest bytes x

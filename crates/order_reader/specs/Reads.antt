-- What reading bytes as an order answers: the order of the JSON text that they are, or its first refusal.
use Rattle.std.specs.Prelude.{◌≡◌, ℕ, List, Result, Ok, Err}
use Rattle.exact_json.specs.Readings.{Reading}
use Rattle.json_value.specs.Tree.{Tree}
use Rattle.exact_json.specs.declared.fault.JsonFault.{JsonFault}
use Rattle.exact_json.specs.declared.fault.JsonFault.TheVariants.{NoMemory}
use Rattle.order_reader.specs.Reading.{order_in}
use Rattle.order_member.specs.declared.fault.OrderFault.{OrderFault}
use Rattle.order_member.specs.declared.fault.OrderFault.TheVariants.{Json, NoMemory as OutOfMemory}
use Rattle.order_rule.specs.Asked.{Asked}
use Rattle.order_rule.specs.Rule.{IsOrder}

-- the fault of a text that could not be read, as one of an order
abbrev pub json_refusal : JsonFault → OrderFault
json_refusal NoMemory = OutOfMemory
json_refusal fault = Json fault

-- what bytes answer by a reading of trees
abbrev pub answer_by : {A : Type 0} → (Tree → Result A OrderFault) → Result Tree JsonFault → Result A OrderFault
answer_by reading (Ok t) = reading t
answer_by reading (Err fault) = Err (Json fault)

abbrev pub ReadsBy : {A : Type 0} → (Tree → Result A OrderFault) → List ℕ → Result A OrderFault → Type 0
ReadsBy reading bytes x = (r : Result Tree JsonFault) × Reading bytes r × (x ≡ answer_by reading r)

-- as an order
abbrev pub ReadsOrder : List ℕ → Result Asked OrderFault → Type 0
ReadsOrder = ReadsBy order_in

-- bytes are an order's in one way, or are refused in one way
abbrev pub OrderReadingsAgree : Type 0
OrderReadingsAgree = (bytes : List ℕ) (x y : Result Asked OrderFault) → ReadsOrder bytes x → ReadsOrder bytes y → x ≡ y

-- all bytes are an order's, or are refused
abbrev pub EveryTextIsReadOrRefused : Type 0
EveryTextIsReadOrRefused = (bytes : List ℕ) → (x : Result Asked OrderFault) × ReadsOrder bytes x

-- what is read keeps the rule of every order
abbrev pub OrdersKeepTheRule : Type 0
OrdersKeepTheRule = (bytes : List ℕ) (o : Asked) → ReadsOrder bytes (Ok o) → IsOrder o

-- What reading bytes as a set of districts answers: the set of the JSON text that they are, or its first refusal.
use Rattle.std.specs.Prelude.{◌≡◌, ℕ, List, Result, Ok}
use Rattle.order_reader.specs.Reads.{ReadsBy}
use Rattle.order_member.specs.declared.fault.OrderFault.{OrderFault}
use Rattle.set_reader.specs.Asked.{SetAsked}
use Rattle.set_reader.specs.Reading.{set_in}
use Rattle.set_reader.specs.Rule.{IsSet}

abbrev pub ReadsSet : List ℕ → Result SetAsked OrderFault → Type 0
ReadsSet = ReadsBy set_in

-- bytes are a set in one way, or are refused in one way
abbrev pub SetReadingsAgree : Type 0
SetReadingsAgree = (bytes : List ℕ) (x y : Result SetAsked OrderFault) → ReadsSet bytes x → ReadsSet bytes y → x ≡ y

-- all bytes are a set, or are refused
abbrev pub EveryTextIsASetOrRefused : Type 0
EveryTextIsASetOrRefused = (bytes : List ℕ) → (x : Result SetAsked OrderFault) × ReadsSet bytes x

-- what is read keeps the rule of every set
abbrev pub SetsKeepTheRule : Type 0
SetsKeepTheRule = (bytes : List ℕ) (s : SetAsked) → ReadsSet bytes (Ok s) → IsSet s

-- The input of a command: what the bytes of its source are as what it wants.
use Rattle.std.specs.Prelude.{◌≡◌, ℕ, ◌<◌, ◌≤◌, List, length, Option, Some, Result, Ok, Err}
use Rattle.command_input.specs.Lines.{behind_line, first_line}
use Rattle.ical_text.specs.Laws.{Reads}
use Rattle.ical_text.specs.Lines.{joined_lines}
use Rattle.ical_text.specs.declared.event.Event.{Event}
use Rattle.ical_text.specs.declared.fault.IcalFault.{IcalFault}
use Rattle.order_reader.specs.Reads.{ReadsOrder}
use Rattle.order_member.specs.declared.fault.OrderFault.{OrderFault}
use Rattle.order_rule.specs.Asked.{Asked}
use Rattle.order_text.specs.LineReading.{ReadsLine}
use Rattle.set_reader.specs.Asked.{SetAsked}
use Rattle.set_reader.specs.Reads.{ReadsSet}

-- what a command reads
pub data Wanted : Type 0 where
  nothing : Wanted
  an_order : Wanted
  a_covering : Wanted
  a_calendar : Wanted
  a_set : Wanted

-- the most bytes of it
abbrev pub limit_of : Wanted → ℕ
limit_of nothing = 0
limit_of an_order = 16_777_216
limit_of a_covering = 1_073_741_824
limit_of a_calendar = 16_777_216
limit_of a_set = 16_777_216

-- bytes that were read to their end, or more of them than the limit
pub data Given (X : Type 0) : Type 0 where
  too_long : Given X
  read : X → Given X

-- a covering: the order that its first line spells, and the text behind that line
pub record Covered : Type 0 where
  pub order : Asked
  pub lines : List ℕ

-- the bytes are a covering, or its first line is refused
abbrev pub ReadsCovering : List ℕ → Result Covered OrderFault → Type 0
ReadsCovering bytes (Ok c) = ReadsLine (first_line bytes) (Ok c.order) × (c.lines ≡ behind_line bytes)
ReadsCovering bytes (Err fault) = ReadsLine (first_line bytes) (Err fault)

-- the joined lines of the bytes are a calendar with these events, or their first fault is this
abbrev pub ReadsCalendar : List ℕ → Result (List Event) IcalFault → Type 0
ReadsCalendar bytes = Reads (joined_lines bytes)

pub data Input : Type 0 where
  unread : Input
  -- an order, or its first refusal
  order : Given (Result Asked OrderFault) → Input
  -- a covering, or the first refusal of its first line
  covering : Given (Result Covered OrderFault) → Input
  -- the events of a calendar, or its first fault
  calendar : Given (Result (List Event) IcalFault) → Input
  -- a set of districts, or its first refusal
  set : Given (Result SetAsked OrderFault) → Input

-- what the bytes are by a reading of them, up to a limit
abbrev pub IsGiven : {X : Type 0} → ℕ → (List ℕ → X → Type 0) → List ℕ → Given X → Type 0
IsGiven limit Is bytes too_long = limit < length bytes
IsGiven limit Is bytes (read x) = (length bytes ≤ limit) × Is bytes x

-- what the bytes are as what is wanted
abbrev pub IsSpelled : Wanted → List ℕ → Input → Type 0
IsSpelled nothing bytes unread = Unit {0}
IsSpelled an_order bytes (order given) = IsGiven (limit_of an_order) ReadsOrder bytes given
IsSpelled a_covering bytes (covering given) = IsGiven (limit_of a_covering) ReadsCovering bytes given
IsSpelled a_calendar bytes (calendar given) = IsGiven (limit_of a_calendar) ReadsCalendar bytes given
IsSpelled a_set bytes (set given) = IsGiven (limit_of a_set) ReadsSet bytes given
IsSpelled wanted bytes input = ⊥

-- the input of a run whose source had these bytes left, where it told them
pub record IsSpelledBy (wanted : Wanted) (left : Option (List ℕ)) (input : Input) : Type 0 where
  pub bytes : List ℕ
  pub told : (x : List ℕ) → left ≡ Some x → x ≡ bytes
  pub spelled : IsSpelled wanted bytes input

-- ---- laws

-- all bytes are an input
abbrev pub EveryTextIsAnInput : Type 0
EveryTextIsAnInput = (wanted : Wanted) (bytes : List ℕ) → (input : Input) × IsSpelled wanted bytes input

-- of one kind
abbrev pub InputsAgree : Type 0
InputsAgree =
    (wanted : Wanted) (bytes : List ℕ) (i j : Input) → IsSpelled wanted bytes i → IsSpelled wanted bytes j → i ≡ j

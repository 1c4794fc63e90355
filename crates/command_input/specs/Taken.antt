-- What reading an input from a source said.
use Rattle.std.specs.Prelude.{◌≡◌, ◌≢◌, ◌⊎◌, ◌≤◌, List, ℕ, drop, Result, Ok, Err, string_bytes}
use Rattle.command_input.specs.Input.{Covered, Given, Input, IsSpelledBy, Wanted, a_calendar, a_covering, a_set, an_order, calendar, covering, limit_of, order, read, set, too_long}
use Rattle.command_input.specs.Refusals.{calendar_line, covering_line, long_calendar, long_covering, long_line, refusal_line}
use Rattle.command_input.specs.declared.covering.Covering.{Covering}
use Rattle.ical_text.specs.declared.event.Event.{Event}
use Rattle.ical_text.specs.declared.fault.IcalFault.{IcalFault}
use Rattle.ical_text.specs.declared.fault.IcalFault.TheVariants.{NoMemory as IcalNoMemory}
use Rattle.order_member.specs.declared.fault.OrderFault.{OrderFault}
use Rattle.order_member.specs.declared.fault.OrderFault.TheVariants.{NoMemory as OrderNoMemory}
use Rattle.order_rule.specs.Asked.{asked_of}
use Rattle.order_rule.specs.declared.order.Order.{Order}
use Rattle.outcome.specs.Streams.{Stream}
use Rattle.outcome.specs.declared.ending.Ending.{Ending}
use Rattle.outcome.specs.declared.ending.Ending.TheVariants.{Plain, Refused}
use Rattle.outcome.specs.declared.status.Status.{Status}
use Rattle.outcome.specs.declared.status.Status.TheVariants.{CoverRefused, IcalRefused, NoMemory, OrderRefused, ReadFault}
use Rattle.set_reader.specs.Asked as set_asked
use Rattle.set_reader.specs.declared.set.SetOrder.{SetOrder}
use Rattle.source_sink.specs.Outside.{Rose}
use Rattle.source_sink.specs.Reading.{GivesWithin, IsReadToEnd}

-- how a kind of input is refused: the status, the lines of too many bytes and of a first refusal, and the one that is want of memory
pub record Refusing (F : Type 0) : Type 0 where
  pub status : Status
  pub long : List ℕ
  pub line : F → List ℕ
  pub no_memory : F

abbrev pub of_orders : Refusing OrderFault
of_orders = record { status = OrderRefused; long = long_line; line = refusal_line; no_memory = OrderNoMemory }

abbrev pub of_coverings : Refusing OrderFault
of_coverings = record { status = CoverRefused; long = long_covering; line = covering_line; no_memory = OrderNoMemory }

abbrev pub of_calendars : Refusing IcalFault
of_calendars = record { status = IcalRefused; long = long_calendar; line = calendar_line; no_memory = IcalNoMemory }

-- the ending of a first refusal, or want of memory
abbrev pub IsRefusalOf : {F : Type 0} → Refusing F → F → Ending → Type 0
IsRefusalOf how fault (Plain status) = status ≡ NoMemory
IsRefusalOf how fault (Refused status line) =
    (status ≡ how.status) × (string_bytes line ≡ how.line fault) × (fault ≢ how.no_memory)

-- what was read, or a fault, or the line that refuses the input
abbrev pub ReadCase : {X A F : Type 0} → Refusing F → (X → A) → Given (Result A F) → Result X Ending → Stream → Stream → Type 0
ReadCase how view given (Ok x) source source' = (given ≡ read (Ok (view x))) × IsReadToEnd source.bytes source'.bytes
ReadCase how view given (Err (Plain status)) source source' =
    (status ≡ NoMemory) ⊎ ((status ≡ ReadFault) × Rose source.faults source'.faults)
ReadCase how view too_long (Err (Refused status line)) source source' = (status ≡ how.status) × (string_bytes line ≡ how.long)
ReadCase how view (read (Err fault)) (Err (Refused status line)) source source' =
    (status ≡ how.status) × (string_bytes line ≡ how.line fault) × IsReadToEnd source.bytes source'.bytes
ReadCase how view (read (Ok a)) (Err (Refused status line)) source source' = ⊥

-- the source spelled an input of this kind, and this is what was said of it
pub record IsTakenAs {X A F : Type 0} (wanted : Wanted) (input : Given (Result A F) → Input) (how : Refusing F) (view : X → A)
    (source source' : Stream) (result : Result X Ending) : Type 0 where
  pub given : Given (Result A F)
  pub spelled : IsSpelledBy wanted source.bytes (input given)
  pub case : ReadCase how view given result source source'
  pub within : GivesWithin (limit_of wanted) source.bytes source'.bytes
  pub later : source.faults ≤ source'.faults

-- an order
abbrev pub IsReadAs : Stream → Stream → Result Order Ending → Type 0
IsReadAs source source' result = IsTakenAs an_order order of_orders asked_of source source' result

-- a covering, as the code keeps it
abbrev pub covered_of : Covering → Covered
covered_of c = record { order = asked_of c.order; lines = drop c.from c.text.items }

abbrev pub IsCoveringReadAs : Stream → Stream → Result Covering Ending → Type 0
IsCoveringReadAs source source' result = IsTakenAs a_covering covering of_coverings covered_of source source' result

-- a calendar, as its events
abbrev pub IsCalendarReadAs : Stream → Stream → Result (List Event) Ending → Type 0
IsCalendarReadAs source source' result = IsTakenAs a_calendar calendar of_calendars (λ events. events) source source' result

-- a set, which is refused as an order is
abbrev pub IsSetReadAs : Stream → Stream → Result SetOrder Ending → Type 0
IsSetReadAs source source' result = IsTakenAs a_set set of_orders set_asked.asked_of source source' result

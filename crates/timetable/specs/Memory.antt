-- What the laws say of a run over bytes in memory, where no fault is counted.
use Rattle.std.specs.Prelude.{◌≡◌, ◌≢◌, ◌⊎◌, ℕ, List, Ok}
use Rattle.command_input.specs.Input.{Input, IsSpelled, an_order, order, read}
use Rattle.order_rule.specs.Asked.{Asked}
use Rattle.order_table.specs.RightTable.{IsRightTable}
use Rattle.outcome.specs.Streams.{Streams}
use Rattle.outcome.specs.declared.status.Status.{Status}
use Rattle.outcome.specs.declared.status.Status.TheVariants.{Done, Open, Usage, OrderRefused, NoMemory, IcalRefused}
use Rattle.timetable.specs.Answer.{wanted_by}
use Rattle.timetable.specs.Laws.{EndedBy, IsACalendar, IsACovering, IsAnOrder, IsFinished, IsNoCalendar, IsNoOrder, IsRefused, IsUsage, ReadsACalendar, ReadsACovering, ReadsAnOrder}
use Rattle.command_words.specs.declared.command.Command.{Command}
use Rattle.command_words.specs.declared.command.Command.TheVariants.{Unknown}

-- a law each
pub record KeepsTheLaws (command : Command) (bytes : List ℕ) (status : Status) (before after : Streams) : Type 0 where
  pub usage : status ≡ Usage → command ≡ Unknown
  pub wrong_words : command ≡ Unknown → IsUsage status before after
  pub refused : status ≡ OrderRefused → (input : Input) → IsSpelled (wanted_by command) bytes input → IsRefused command input before after
  pub wrong_order : ReadsAnOrder command → (input : Input) → IsSpelled (wanted_by command) bytes input → IsNoOrder input →
      (status ≡ OrderRefused) ⊎ (status ≡ NoMemory)
  pub wrong_calendar : ReadsACalendar command → (input : Input) → IsSpelled (wanted_by command) bytes input → IsNoCalendar input →
      (status ≡ IcalRefused) ⊎ (status ≡ NoMemory)
  pub answered : command ≢ Unknown → (input : Input) → IsSpelled (wanted_by command) bytes input → (ReadsAnOrder command → IsAnOrder input) →
      (ReadsACovering command → IsACovering input) → (ReadsACalendar command → IsACalendar input) →
      (status ≡ Done) ⊎ (status ≡ Open) ⊎ (status ≡ NoMemory)
  pub finished : (status ≡ Done) ⊎ (status ≡ Open) → (input : Input) → IsSpelled (wanted_by command) bytes input →
      IsFinished command status input before after
  pub told : (input : Input) → IsSpelled (wanted_by command) bytes input → EndedBy command status input before after
  pub right : (o : Asked) → IsSpelled an_order bytes (order (read (Ok o))) → IsRightTable o

-- What follows from a run's ending for its words, its input and its streams.
use Rattle.std.specs.Prelude.{◌≡◌, ◌≢◌, ◌⊎◌, ◌≤◌, ℕ, List, [], length, Some, None, Ok, Err}
use Rattle.command_input.specs.Input.{Input, IsSpelled, ReadsCalendar, Wanted, a_calendar, a_covering, a_set, an_order, calendar, covering, limit_of, nothing, order, read, set, too_long}
use Rattle.order_calendar.specs.Calendar.{calendar_of, events_of}
use Rattle.order_covering.specs.Covering.{covering_of}
use Rattle.order_covering.specs.declared.form.Form.{Form}
use Rattle.order_reader.specs.Reads.{ReadsOrder}
use Rattle.order_rule.specs.Asked.{Asked}
use Rattle.outcome.specs.Answer.{line_of}
use Rattle.outcome.specs.Ends.{EndsAs, Reports}
use Rattle.outcome.specs.Streams.{Streams}
use Rattle.outcome.specs.declared.status.Status.{Status}
use Rattle.outcome.specs.declared.status.Status.TheVariants.{Done, Open, Usage, OrderRefused, ReadFault, WriteFault, NoMemory, CoverRefused, IcalRefused}
use Rattle.source_sink.specs.Outside.{Rose, Adds}
use Rattle.source_sink.specs.Reading.{IsReadToEnd}
use Rattle.demo_summary.specs.Demo.{demo_asked}
use Rattle.order_table.specs.Table.{days_undecided}
use Rattle.set_reader.specs.Asked.{SetAsked}
use Rattle.set_reader.specs.Reads.{ReadsSet}
use Rattle.set_table.specs.RightSet.{IsRightSet}
use Rattle.set_table.specs.Trees.{undecided as set_undecided}
use Rattle.shown_table.specs.Shown.{shown_table}
use Rattle.sun_verdict.specs.Line.{undecided_in}
use Rattle.timetable.specs.Answer.{answer_to, wanted_by}
use Rattle.timetable.specs.Ended.{Ended}
use Rattle.order_table.specs.RightTable.{IsRightTable}
use Rattle.order_table.specs.Trees.{table_of, undecided}
use Rattle.command_words.specs.declared.command.Command.{Command}
use Rattle.command_words.specs.declared.command.Command.TheVariants.{Unknown, Sun, Plain, Table, Cover, Check, Demo, Ical, Set}

-- ---- words and inputs

abbrev pub ReadsItsSource : Command → Type 0
ReadsItsSource command = wanted_by command ≢ nothing

-- an order of one district, or of a set of them
abbrev pub IsOfOrders : Wanted → Type 0
IsOfOrders an_order = Unit {0}
IsOfOrders a_set = Unit {0}
IsOfOrders wanted = ⊥

abbrev pub ReadsAnOrder : Command → Type 0
ReadsAnOrder command = IsOfOrders (wanted_by command)

abbrev pub ReadsACovering : Command → Type 0
ReadsACovering command = wanted_by command ≡ a_covering

abbrev pub ReadsACalendar : Command → Type 0
ReadsACalendar command = wanted_by command ≡ a_calendar

-- the input is an order, of one district or of a set of them
abbrev pub IsAnOrder : Input → Type 0
IsAnOrder (order (read (Ok o))) = Unit {0}
IsAnOrder (set (read (Ok s))) = Unit {0}
IsAnOrder input = ⊥

-- the input is no order, or too long for one
abbrev pub IsNoOrder : Input → Type 0
IsNoOrder (order too_long) = Unit {0}
IsNoOrder (order (read (Err fault))) = Unit {0}
IsNoOrder (set too_long) = Unit {0}
IsNoOrder (set (read (Err fault))) = Unit {0}
IsNoOrder input = ⊥

-- the input is a covering without a bad line
abbrev pub IsACovering : Input → Type 0
IsACovering (covering (read (Ok c))) = (shown_table c.order c.lines).bad ≡ None
IsACovering input = ⊥

-- the input has a bad line, the first one or a later one, or is too long for a covering
abbrev pub IsNoCovering : Input → Type 0
IsNoCovering (covering too_long) = Unit {0}
IsNoCovering (covering (read (Err fault))) = Unit {0}
IsNoCovering (covering (read (Ok c))) = (shown_table c.order c.lines).bad ≢ None
IsNoCovering input = ⊥

-- the input is a calendar
abbrev pub IsACalendar : Input → Type 0
IsACalendar (calendar (read (Ok events))) = Unit {0}
IsACalendar input = ⊥

-- the input is no calendar, or too long for one
abbrev pub IsNoCalendar : Input → Type 0
IsNoCalendar (calendar too_long) = Unit {0}
IsNoCalendar (calendar (read (Err fault))) = Unit {0}
IsNoCalendar input = ⊥

-- how many entries or verdicts of the answer are undecided
abbrev pub undecided_by : Command → Input → ℕ
undecided_by (Sun r) input = undecided_in r
undecided_by Plain (order (read (Ok o))) = undecided o
undecided_by (Table workers) (order (read (Ok o))) = undecided o
undecided_by (Cover workers form) (order (read (Ok o))) = undecided o
undecided_by Check (covering (read (Ok c))) = days_undecided (shown_table c.order c.lines).days
undecided_by (Demo number workers) input = undecided (demo_asked number)
undecided_by (Ical workers) (order (read (Ok o))) = undecided o
undecided_by (Set workers) (set (read (Ok s))) = set_undecided s
undecided_by command input = 0

-- ---- laws

-- Usage is answered only where the words are wrong.
abbrev pub UsageIsForWrongWords : Type 0
UsageIsForWrongWords = (command : Command) (before after : Streams) → Ended command Usage before after → command ≡ Unknown

-- Wrong words are answered by Usage, want of memory aside; nothing is read and nothing is written.
pub record IsUsage (status : Status) (before after : Streams) : Type 0 where
  pub answered : (status ≡ Usage) ⊎ (status ≡ NoMemory)
  pub unread : after.source ≡ before.source
  pub unwritten : Adds before.out.bytes after.out.bytes []

abbrev pub WrongWordsAreRefused : Type 0
WrongWordsAreRefused = (status : Status) (before after : Streams) → Ended Unknown status before after → IsUsage status before after

-- OrderRefused is answered only by a command that reads an order, to an input that is none, and nothing is written.
pub record IsRefused (command : Command) (input : Input) (before after : Streams) : Type 0 where
  pub reads : ReadsAnOrder command
  pub cause : IsNoOrder input
  pub unwritten : Adds before.out.bytes after.out.bytes []

abbrev pub OrdersAreRefusedForCause : Type 0
OrdersAreRefusedForCause =
    (command : Command) (before after : Streams) → (run : Ended command OrderRefused before after) → IsRefused command run.input before after

-- Such a command answers OrderRefused to each input that is no order, a read fault that was counted and want of memory aside.
abbrev pub WrongOrdersAreRefused : Type 0
WrongOrdersAreRefused =
    (command : Command) (status : Status) (before after : Streams) → (run : Ended command status before after) →
    ReadsAnOrder command → IsNoOrder run.input →
    (status ≡ OrderRefused) ⊎ ((status ≡ ReadFault) × Rose before.source.faults after.source.faults) ⊎ (status ≡ NoMemory)

-- CoverRefused is answered only by a command that reads a covering, to an input that is none; what its lines before the bad one
-- show is written.
pub record IsCoverRefused (command : Command) (input : Input) (before after : Streams) : Type 0 where
  pub reads : ReadsACovering command
  pub cause : IsNoCovering input
  pub written : Adds before.out.bytes after.out.bytes (answer_to command input).text

abbrev pub CoveringsAreRefusedForCause : Type 0
CoveringsAreRefusedForCause =
    (command : Command) (before after : Streams) → (run : Ended command CoverRefused before after) → IsCoverRefused command run.input before after

-- Such a command answers CoverRefused to each input that is no covering, faults that were counted and want of memory aside.
abbrev pub WrongCoveringsAreRefused : Type 0
WrongCoveringsAreRefused =
    (command : Command) (status : Status) (before after : Streams) → (run : Ended command status before after) →
    ReadsACovering command → IsNoCovering run.input →
    (status ≡ CoverRefused) ⊎ ((status ≡ ReadFault) × Rose before.source.faults after.source.faults)
    ⊎ ((status ≡ WriteFault) × Rose before.out.faults after.out.faults) ⊎ (status ≡ NoMemory)

-- IcalRefused is answered only by a command that reads a calendar, to an input that is none, and nothing is written.
pub record IsIcalRefused (command : Command) (input : Input) (before after : Streams) : Type 0 where
  pub reads : ReadsACalendar command
  pub cause : IsNoCalendar input
  pub unwritten : Adds before.out.bytes after.out.bytes []

abbrev pub CalendarsAreRefusedForCause : Type 0
CalendarsAreRefusedForCause =
    (command : Command) (before after : Streams) → (run : Ended command IcalRefused before after) → IsIcalRefused command run.input before after

-- Such a command answers IcalRefused to each input that is no calendar, a read fault that was counted and want of memory aside.
abbrev pub WrongCalendarsAreRefused : Type 0
WrongCalendarsAreRefused =
    (command : Command) (status : Status) (before after : Streams) → (run : Ended command status before after) →
    ReadsACalendar command → IsNoCalendar run.input →
    (status ≡ IcalRefused) ⊎ ((status ≡ ReadFault) × Rose before.source.faults after.source.faults) ⊎ (status ≡ NoMemory)

-- Right words, and an order, a covering or a calendar where the command reads one, are answered where no fault was counted, want of
-- memory aside.
abbrev pub RightWordsAreAnswered : Type 0
RightWordsAreAnswered =
    (command : Command) (status : Status) (before after : Streams) → (run : Ended command status before after) →
    command ≢ Unknown → (ReadsAnOrder command → IsAnOrder run.input) → (ReadsACovering command → IsACovering run.input) →
    (ReadsACalendar command → IsACalendar run.input) →
    (Rose before.source.faults after.source.faults → ⊥) → (Rose before.out.faults after.out.faults → ⊥) →
    (status ≡ Done) ⊎ (status ≡ Open) ⊎ (status ≡ NoMemory)

-- A run that is Done or Open took right words, read its source to the end and an order, a covering or a calendar there where its
-- command reads one, and wrote the whole text; it is Done exactly where nothing in it is undecided.
pub record IsFinished (command : Command) (status : Status) (input : Input) (before after : Streams) : Type 0 where
  pub words : command ≢ Unknown
  pub read_through : ReadsItsSource command → IsReadToEnd before.source.bytes after.source.bytes
  pub accepted : ReadsAnOrder command → IsAnOrder input
  pub shown : ReadsACovering command → IsACovering input
  pub listed : ReadsACalendar command → IsACalendar input
  pub written : Adds before.out.bytes after.out.bytes (answer_to command input).text
  pub decided : status ≡ Done → undecided_by command input ≡ 0
  pub undecided : status ≡ Open → undecided_by command input ≢ 0

abbrev pub FinishedRunsWroteTheAnswer : Type 0
FinishedRunsWroteTheAnswer =
    (command : Command) (status : Status) (before after : Streams) → (run : Ended command status before after) →
    (status ≡ Done) ⊎ (status ≡ Open) → IsFinished command status run.input before after

-- A run whose source told its bytes ended so by every input that they spell.
pub record EndedBy (command : Command) (status : Status) (input : Input) (before after : Streams) : Type 0 where
  pub ends : EndsAs (answer_to command input) status before.source after.source before.out after.out
  pub reports : Reports (line_of (answer_to command input) status) before.err after.err

abbrev pub ToldBytesDecide : Type 0
ToldBytesDecide =
    (command : Command) (status : Status) (before after : Streams) (bytes : List ℕ) (input : Input) → Ended command status before after →
    before.source.bytes ≡ Some bytes → IsSpelled (wanted_by command) bytes input → EndedBy command status input before after

-- The table of every order is right.
abbrev pub TablesAreRight : Type 0
TablesAreRight = (bytes : List ℕ) (o : Asked) → ReadsOrder bytes (Ok o) → IsRightTable o

-- The table of every set is right.
abbrev pub SetsAreRight : Type 0
SetsAreRight = (bytes : List ℕ) (s : SetAsked) → ReadsSet bytes (Ok s) → IsRightSet s

-- The calendar that is written for an order is read as exactly the minutes of the order's table, in order, each with its moment, its
-- column's word and its UID.
abbrev pub CalendarsAreReadAgain : Type 0
CalendarsAreReadAgain = (bytes : List ℕ) (o : Asked) → ReadsOrder bytes (Ok o) → ReadsCalendar (calendar_of o) (Ok (events_of o))

-- A run of `check` over exactly the covering of an order ended by the order's table, as `plain` does over the order itself: Done or
-- Open with the table written, counted faults and want of memory aside.
pub record IsShownAgain (o : Asked) (status : Status) (before after : Streams) : Type 0 where
  pub answered : (Rose before.source.faults after.source.faults → ⊥) → (Rose before.out.faults after.out.faults → ⊥) →
      (status ≡ Done) ⊎ (status ≡ Open) ⊎ (status ≡ NoMemory)
  pub written : (status ≡ Done) ⊎ (status ≡ Open) → Adds before.out.bytes after.out.bytes (table_of o)
  pub decided : status ≡ Done → undecided o ≡ 0
  pub undecided : status ≡ Open → undecided o ≢ 0

-- The covering that is written for an order, in either form, where a covering may be so long.
abbrev pub CoveringsAreShownAgain : Type 0
CoveringsAreShownAgain =
    (bytes : List ℕ) (o : Asked) → ReadsOrder bytes (Ok o) → (form : Form) → length (covering_of form o) ≤ limit_of a_covering →
    (status : Status) (before after : Streams) → Ended Check status before after → before.source.bytes ≡ Some (covering_of form o) →
    IsShownAgain o status before after

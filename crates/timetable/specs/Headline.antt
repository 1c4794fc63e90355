-- What a printed table is, a written calendar, the table of a set, and a shown table: the main sentences of the program, in its own words.
use Rattle.std.specs.Prelude.{◌≡◌, ◌≢◌, ◌⊎◌, ℕ, List, None, Ok}
use Rattle.command_input.specs.Input.{IsSpelledBy, ReadsCalendar, a_covering, a_set, an_order, covering, order, read, set}
use Rattle.command_words.specs.declared.command.Command.{Command}
use Rattle.command_words.specs.declared.command.Command.TheVariants.{Check, Ical, Plain, Set, Table}
use Rattle.order_calendar.specs.Calendar.{calendar_of, events_of}
use Rattle.order_rule.specs.Asked.{Asked}
use Rattle.order_table.specs.RightTable.{IsRightFor, IsRightTable}
use Rattle.order_table.specs.Table.{days_undecided, table_text}
use Rattle.order_table.specs.Trees.{table_of, undecided}
use Rattle.outcome.specs.Streams.{Streams}
use Rattle.outcome.specs.declared.status.Status.{Status}
use Rattle.outcome.specs.declared.status.Status.TheVariants.{Done, Open}
use Rattle.set_reader.specs.Asked.{SetAsked}
use Rattle.set_table.specs.RightSet.{IsRightSet}
use Rattle.set_table.specs.Trees as sets
use Rattle.shown_table.specs.Shown.{shown_table}
use Rattle.source_sink.specs.Outside.{Adds}
use Rattle.source_sink.specs.Reading.{IsReadToEnd}

-- the commands that print a table
abbrev pub PrintsATable : Command → Type 0
PrintsATable Plain = Unit {0}
PrintsATable (Table workers) = Unit {0}
PrintsATable command = ⊥

-- The source was read to its end and spelled an order. The output has that order's table alone in addition, and each entry of
-- it is right: a minute that begins is the least from which the condition holds at every rational place of the district, at every
-- minute to the end of its frame, one that ends the greatest; an open entry names a smallest cell with a place within the tolerance.
pub record PrintedARightTable (status : Status) (before after : Streams) : Type 0 where
  pub asked : Asked
  pub spelled : IsSpelledBy an_order before.source.bytes (order (read (Ok asked)))
  pub read_through : IsReadToEnd before.source.bytes after.source.bytes
  pub printed : Adds before.out.bytes after.out.bytes (table_of asked)
  pub right : IsRightTable asked
  -- nothing in it is undecided, exactly where the run is Done
  pub decided : status ≡ Done → undecided asked ≡ 0
  pub undecided : status ≡ Open → undecided asked ≢ 0

-- whatever a run was asked, however many workers searched in whatever order
abbrev pub Headline : Command → Status → Streams → Streams → Type 0
Headline command status before after =
    PrintsATable command → (status ≡ Done) ⊎ (status ≡ Open) → PrintedARightTable status before after

-- ---- a calendar

abbrev pub WritesACalendar : Command → Type 0
WritesACalendar (Ical workers) = Unit {0}
WritesACalendar command = ⊥

-- The source was read to its end and spelled an order. The output has that order's calendar alone in addition. Each entry of the
-- order's table is right, and the calendar is read as exactly its minutes, in order, each with its moment, its column's word and its UID.
pub record WroteARightCalendar (status : Status) (before after : Streams) : Type 0 where
  pub asked : Asked
  pub spelled : IsSpelledBy an_order before.source.bytes (order (read (Ok asked)))
  pub read_through : IsReadToEnd before.source.bytes after.source.bytes
  pub written : Adds before.out.bytes after.out.bytes (calendar_of asked)
  pub right : IsRightTable asked
  pub again : ReadsCalendar (calendar_of asked) (Ok (events_of asked))
  pub decided : status ≡ Done → undecided asked ≡ 0
  pub undecided : status ≡ Open → undecided asked ≢ 0

abbrev pub Published : Command → Status → Streams → Streams → Type 0
Published command status before after =
    WritesACalendar command → (status ≡ Done) ⊎ (status ≡ Open) → WroteARightCalendar status before after

-- ---- the table of a set of districts

abbrev pub PrintsASet : Command → Type 0
PrintsASet (Set workers) = Unit {0}
PrintsASet command = ⊥

-- The source was read to its end and spelled a set. The output has that set's table alone in addition. Each entry of a district is
-- right for it, and each of all districts together is right at every rational place of every one of them.
pub record PrintedARightSet (status : Status) (before after : Streams) : Type 0 where
  pub asked : SetAsked
  pub spelled : IsSpelledBy a_set before.source.bytes (set (read (Ok asked)))
  pub read_through : IsReadToEnd before.source.bytes after.source.bytes
  pub printed : Adds before.out.bytes after.out.bytes (sets.table_of asked)
  pub right : IsRightSet asked
  pub decided : status ≡ Done → sets.undecided asked ≡ 0
  pub undecided : status ≡ Open → sets.undecided asked ≢ 0

abbrev pub Together : Command → Status → Streams → Streams → Type 0
Together command status before after =
    PrintsASet command → (status ≡ Done) ⊎ (status ≡ Open) → PrintedARightSet status before after

-- ---- a table that a covering shows

abbrev pub ShowsATable : Command → Type 0
ShowsATable Check = Unit {0}
ShowsATable command = ⊥

-- The source was read to its end, and no line of the covering that it spelled is bad. The output has in addition the table that
-- its lines show, for the order that its first line spells, and each entry of that table is right, whoever made the covering.
pub record PrintedAShownTable (status : Status) (before after : Streams) : Type 0 where
  pub asked : Asked
  pub lines : List ℕ
  pub spelled : IsSpelledBy a_covering before.source.bytes (covering (read (Ok (record { order = asked; lines = lines }))))
  pub read_through : IsReadToEnd before.source.bytes after.source.bytes
  pub accepted : (shown_table asked lines).bad ≡ None
  pub printed : Adds before.out.bytes after.out.bytes (table_text asked (shown_table asked lines).days)
  pub right : IsRightFor asked (shown_table asked lines).days
  pub decided : status ≡ Done → days_undecided (shown_table asked lines).days ≡ 0
  pub undecided : status ≡ Open → days_undecided (shown_table asked lines).days ≢ 0

abbrev pub Checked : Command → Status → Streams → Streams → Type 0
Checked command status before after =
    ShowsATable command → (status ≡ Done) ⊎ (status ≡ Open) → PrintedAShownTable status before after

-- A run that prints a table, writes its calendar, or shows one, writes a right one.
use Rattle.std.proofs.Common.{◌≡◌, ◌≢◌, ◌⊎◌, ℕ, List, None, Ok, Err, refl, sym, ap, ◌∙◌, subst}
use Rattle.command_input.specs.Input.{Covered, Input, IsSpelled, IsSpelledBy, Wanted, a_covering, a_set, an_order, calendar, covering, nothing, order, read, set, too_long, unread}
use Rattle.command_input.specs.Lines.{first_line}
use Rattle.command_words.specs.declared.command.Command.{Command}
use Rattle.command_words.specs.declared.command.Command.TheVariants.{Unknown, Sun, Order, Plain, Table, Cover, Check, Demo, Ical, Agenda, Set}
use Rattle.order_calendar.specs.Calendar.{calendar_of}
use Rattle.order_rule.specs.Asked.{Asked}
use Rattle.order_table.specs.Trees.{table_of, undecided}
use Rattle.outcome.specs.Answer.{Answer, finished}
use Rattle.outcome.specs.Streams.{Streams}
use Rattle.outcome.specs.declared.status.Status.{Status}
use Rattle.outcome.specs.declared.status.Status.TheVariants.{Done}
use Rattle.outcome.specs.declared.status.Status.TheVariants.{Open as StatusOpen}
use Rattle.order_text.proofs.LineKept.{lines_keep_the_rule}
use Rattle.order_table.specs.Table.{table_text}
use Rattle.set_reader.specs.Asked.{SetAsked}
use Rattle.set_table.specs.Trees as sets
use Rattle.shown_table.proofs.OrderLemmas.{shown_tables_are_right}
use Rattle.shown_table.specs.Shown.{answer_before, shown_answer, shown_table}
use Rattle.source_sink.specs.Outside.{Adds}
use Rattle.source_sink.specs.Reading.{IsReadToEnd}
use Rattle.timetable.specs.Answer.{answer_to, wanted_by}
use Rattle.timetable.specs.Ended.{Ended}
use Rattle.timetable.specs.Headline.{Checked, Headline, PrintsASet, PrintsATable, Published, Together, WritesACalendar}
use Rattle.timetable.specs.Laws.{IsACovering, IsAnOrder, IsOfOrders, undecided_by}
use Rattle.timetable.proofs.LawLemmas.{calendars_are_read_again, finished_runs_wrote_the_answer, sets_are_right, tables_are_right}

-- the command reads an order and answers a text of its table
record Prints (text : Asked → List ℕ) (command : Command) : Type 0 where
  pub wants : wanted_by command ≡ an_order
  pub answers : (o : Asked) → answer_to command (order (read (Ok o))) ≡ finished (undecided o) (text o)
  pub counts : (o : Asked) → undecided_by command (order (read (Ok o))) ≡ undecided o

prints_by : (command : Command) → PrintsATable command → Prints table_of command
prints_by Unknown it = absurd it
prints_by (Sun r) it = absurd it
prints_by Order it = absurd it
prints_by (Cover workers form) it = absurd it
prints_by Check it = absurd it
prints_by (Demo number workers) it = absurd it
prints_by (Ical workers) it = absurd it
prints_by Agenda it = absurd it
prints_by (Set workers) it = absurd it
prints_by Plain it = record { wants = refl; answers = λ o. refl; counts = λ o. refl }
prints_by (Table workers) it = record { wants = refl; answers = λ o. refl; counts = λ o. refl }

writes_by : (command : Command) → WritesACalendar command → Prints calendar_of command
writes_by Unknown it = absurd it
writes_by (Sun r) it = absurd it
writes_by Order it = absurd it
writes_by (Cover workers form) it = absurd it
writes_by Check it = absurd it
writes_by (Demo number workers) it = absurd it
writes_by Plain it = absurd it
writes_by (Table workers) it = absurd it
writes_by Agenda it = absurd it
writes_by (Set workers) it = absurd it
writes_by (Ical workers) it = record { wants = refl; answers = λ o. refl; counts = λ o. refl }

order_in : (bytes : List ℕ) (input : Input) → IsSpelled an_order bytes input → IsAnOrder input → (o : Asked) × (input ≡ order (read (Ok o)))
order_in bytes unread spelled is = absurd is
order_in bytes (covering given) spelled is = absurd is
order_in bytes (calendar given) spelled is = absurd is
order_in bytes (set given) spelled is = absurd spelled
order_in bytes (order too_long) spelled is = absurd is
order_in bytes (order (read (Err fault))) spelled is = absurd is
order_in bytes (order (read (Ok o))) spelled is = (o, refl)

no_order_is_nothing : an_order ≡ nothing → ⊥
no_order_is_nothing same = cc

-- the order that was read, and what was written of it
record Printed (text : Asked → List ℕ) (status : Status) (before after : Streams) : Type 0 where
  pub asked : Asked
  pub spelled : IsSpelledBy an_order before.source.bytes (order (read (Ok asked)))
  pub read_through : IsReadToEnd before.source.bytes after.source.bytes
  pub added : Adds before.out.bytes after.out.bytes (text asked)
  pub decided : status ≡ Done → undecided asked ≡ 0
  pub undecided : status ≡ StatusOpen → undecided asked ≢ 0

printed_by : (text : Asked → List ℕ) (command : Command) (status : Status) (before after : Streams) → Prints text command →
    Ended command status before after → (status ≡ Done) ⊎ (status ≡ StatusOpen) → Printed text status before after
printed_by text command status before after prints run is =
    let whole = finished_runs_wrote_the_answer command status before after run is in
    let by_wanted : IsSpelledBy an_order before.source.bytes run.input =
    subst (λ (w : Wanted). IsSpelledBy w before.source.bytes run.input) prints.wants run.spelled in
    let (o, same) = order_in by_wanted.bytes run.input by_wanted.spelled (whole.accepted (subst IsOfOrders (sym prints.wants) tt)) in
    let spelled : IsSpelledBy an_order before.source.bytes (order (read (Ok o))) =
    subst (λ (i : Input). IsSpelledBy an_order before.source.bytes i) same by_wanted in
    let count : undecided_by command run.input ≡ undecided o = ap (undecided_by command) same ∙ prints.counts o in
    record {
      asked = o;
      spelled = spelled;
      read_through = whole.read_through (λ none. no_order_is_nothing (sym prints.wants ∙ none));
      added = subst (λ (a : Answer). Adds before.out.bytes after.out.bytes a.text) (ap (answer_to command) same ∙ prints.answers o) whole.written;
      decided = λ done. sym count ∙ whole.decided done;
      undecided = λ left zero. whole.undecided left (count ∙ zero);
    }

pub headline : (command : Command) (status : Status) (before after : Streams) → Ended command status before after → Headline command status before after
headline command status before after run it is =
    let printed = printed_by table_of command status before after (prints_by command it) run is in
    record {
      asked = printed.asked;
      spelled = printed.spelled;
      read_through = printed.read_through;
      printed = printed.added;
      right = tables_are_right printed.spelled.bytes printed.asked printed.spelled.spelled.1;
      decided = printed.decided;
      undecided = printed.undecided;
    }

pub published : (command : Command) (status : Status) (before after : Streams) → Ended command status before after → Published command status before after
published command status before after run it is =
    let written = printed_by calendar_of command status before after (writes_by command it) run is in
    record {
      asked = written.asked;
      spelled = written.spelled;
      read_through = written.read_through;
      written = written.added;
      right = tables_are_right written.spelled.bytes written.asked written.spelled.spelled.1;
      again = calendars_are_read_again written.spelled.bytes written.asked written.spelled.spelled.1;
      decided = written.decided;
      undecided = written.undecided;
    }

-- ---- a set of districts

set_in : (bytes : List ℕ) (input : Input) → IsSpelled a_set bytes input → IsAnOrder input → (s : SetAsked) × (input ≡ set (read (Ok s)))
set_in bytes unread spelled is = absurd is
set_in bytes (order given) spelled is = absurd spelled
set_in bytes (covering given) spelled is = absurd is
set_in bytes (calendar given) spelled is = absurd is
set_in bytes (set too_long) spelled is = absurd is
set_in bytes (set (read (Err fault))) spelled is = absurd is
set_in bytes (set (read (Ok s))) spelled is = (s, refl)

printed_set : (workers : ℕ) (status : Status) (before after : Streams) → Ended (Set workers) status before after →
    Together (Set workers) status before after
printed_set workers status before after run it is =
    let whole = finished_runs_wrote_the_answer (Set workers) status before after run is in
    let (s, same) = set_in run.spelled.bytes run.input run.spelled.spelled (whole.accepted tt) in
    let spelled : IsSpelledBy a_set before.source.bytes (set (read (Ok s))) =
    subst (λ (i : Input). IsSpelledBy a_set before.source.bytes i) same run.spelled in
    let count : undecided_by (Set workers) run.input ≡ sets.undecided s = ap (undecided_by (Set workers)) same in
    record {
      asked = s;
      spelled = spelled;
      read_through = whole.read_through (λ none. cc);
      printed = subst (λ (i : Input). Adds before.out.bytes after.out.bytes (answer_to (Set workers) i).text) same whole.written;
      right = sets_are_right spelled.bytes s spelled.spelled.1;
      decided = λ done. sym count ∙ whole.decided done;
      undecided = λ left zero. whole.undecided left (count ∙ zero);
    }

pub together : (command : Command) (status : Status) (before after : Streams) → Ended command status before after → Together command status before after
together Unknown status before after run it = absurd it
together (Sun r) status before after run it = absurd it
together Order status before after run it = absurd it
together Plain status before after run it = absurd it
together (Table workers) status before after run it = absurd it
together (Cover workers form) status before after run it = absurd it
together Check status before after run it = absurd it
together (Demo number workers) status before after run it = absurd it
together (Ical workers) status before after run it = absurd it
together Agenda status before after run it = absurd it
together (Set workers) status before after run it = printed_set workers status before after run it

-- ---- a covering

covering_in : (input : Input) → IsACovering input → (c : Covered) × (input ≡ covering (read (Ok c))) × ((shown_table c.order c.lines).bad ≡ None)
covering_in unread is = absurd is
covering_in (order given) is = absurd is
covering_in (calendar given) is = absurd is
covering_in (set given) is = absurd is
covering_in (covering too_long) is = absurd is
covering_in (covering (read (Err fault))) is = absurd is
covering_in (covering (read (Ok c))) is = (c, refl, is)

-- the answer to lines of which none is bad
shown_whole : (o : Asked) (lines : List ℕ) → (shown_table o lines).bad ≡ None →
    (answer_to Check (covering (read (Ok (record { order = o; lines = lines }))))).text ≡ table_text o (shown_table o lines).days
unfolding shown_answer
shown_whole o lines none = ap (λ bad. (answer_before o (shown_table o lines).days bad).text) none

checked_table : (status : Status) (before after : Streams) → Ended Check status before after → Checked Check status before after
checked_table status before after run it is =
    let whole = finished_runs_wrote_the_answer Check status before after run is in
    let (c, same, none) = covering_in run.input (whole.shown refl) in
    let spelled : IsSpelledBy a_covering before.source.bytes (covering (read (Ok c))) =
    subst (λ (i : Input). IsSpelledBy a_covering before.source.bytes i) same run.spelled in
    let written = subst (λ (i : Input). Adds before.out.bytes after.out.bytes (answer_to Check i).text) same whole.written in
    record {
      asked = c.order;
      lines = c.lines;
      spelled = spelled;
      read_through = whole.read_through (λ reads. cc);
      accepted = none;
      printed = subst (Adds before.out.bytes after.out.bytes) (shown_whole c.order c.lines none) written;
      right = (shown_tables_are_right c.order (lines_keep_the_rule (first_line spelled.bytes) c.order spelled.spelled.1.0) c.lines).whole none;
      decided = λ done. sym (ap (undecided_by Check) same) ∙ whole.decided done;
      undecided = λ left zero. whole.undecided left (ap (undecided_by Check) same ∙ zero);
    }

pub checked : (command : Command) (status : Status) (before after : Streams) → Ended command status before after → Checked command status before after
checked Unknown status before after run it = absurd it
checked (Sun r) status before after run it = absurd it
checked Order status before after run it = absurd it
checked Plain status before after run it = absurd it
checked (Table workers) status before after run it = absurd it
checked (Cover workers form) status before after run it = absurd it
checked (Demo number workers) status before after run it = absurd it
checked (Ical workers) status before after run it = absurd it
checked Agenda status before after run it = absurd it
checked (Set workers) status before after run it = absurd it
checked Check status before after run it = checked_table status before after run it

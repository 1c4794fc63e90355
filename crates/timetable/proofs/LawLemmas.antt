-- What the words and the input say of a run's ending.
use Rattle.std.proofs.Common.{◌≡◌, ℕ, List, ◌⊎◌, inl, inr, Option, Some, None, Ok, Err, refl, sym, ap, ◌∙◌, subst}
use Rattle.std.specs.Prelude.{◌≢◌}
use Rattle.command_input.proofs.InputLemmas.{inputs_agree}
use Rattle.command_input.specs.Answers.{IsTooLong, Leaves, answer_by}
use Rattle.command_input.specs.Input.{Input, IsSpelled, Wanted, a_calendar, a_covering, a_set, an_order, calendar, covering, nothing, order, read, set, too_long, unread}
use Rattle.order_table.proofs.RightLemmas.{tables_are_right as all_tables_are_right}
use Rattle.order_reader.proofs.RuleKept.{orders_keep_the_rule}
use Rattle.outcome.proofs.EndsLemmas.{done_none, done_or_open, no_part, none_added, open_some, IsWhole, Ways, ways}
use Rattle.outcome.specs.Answer.{Answer, finished, refusal, status_of_count}
use Rattle.outcome.specs.Ends.{EndsAs}
use Rattle.outcome.specs.Streams.{Stream, Streams}
use Rattle.outcome.specs.declared.status.Status.{Status}
use Rattle.outcome.specs.declared.status.Status.TheVariants.{Done, Usage, OrderRefused, ReadFault, WriteFault, NoMemory, CoverRefused, IcalRefused}
use Rattle.outcome.specs.declared.status.Status.TheVariants.{Open as StatusOpen}
use Rattle.source_sink.specs.Outside.{Adds, Rose}
use Rattle.source_sink.specs.Reading.{IsReadToEnd}
use Rattle.agenda_list.specs.Agenda.{agenda_text}
use Rattle.order_calendar.proofs.AgainLemmas.{calendars_are_read_again as all_are_read_again}
use Rattle.order_calendar.specs.Calendar.{calendar_of}
use Rattle.order_covering.specs.Covering.{covering_of}
use Rattle.order_rule.specs.Asked.{Asked}
use Rattle.order_text.specs.Line.{order_line}
use Rattle.order_table.specs.Table.{front_text, table_text}
use Rattle.order_table.specs.Trees.{table_of, undecided}
use Rattle.set_reader.proofs.SetLaws.{sets_keep_the_rule}
use Rattle.set_table.proofs.RightLemmas.{sets_are_right as all_sets_are_right}
use Rattle.set_table.specs.Trees as sets
use Rattle.shown_table.specs.Shown.{answer_before, bad_text, shown_answer, shown_table}
use Rattle.shown_table.specs.declared.bad.BadLine.{BadLine}
use Rattle.timetable.specs.Answer.{answer_to, calendar_answer, covering_answer, order_answer, set_answer, table_answer, wanted_by}
use Rattle.timetable.specs.Ended.{Ended}
use Rattle.timetable.specs.Laws.{CalendarsAreReadAgain, CalendarsAreRefusedForCause, CoveringsAreRefusedForCause, IsACalendar, IsIcalRefused, IsNoCalendar, ReadsACalendar, WrongCalendarsAreRefused, EndedBy, IsACovering, IsCoverRefused, IsNoCovering, ReadsACovering, WrongCoveringsAreRefused, FinishedRunsWroteTheAnswer, IsAnOrder, IsFinished, IsNoOrder, IsOfOrders, IsRefused, IsUsage, OrdersAreRefusedForCause, ReadsAnOrder, RightWordsAreAnswered, SetsAreRight, TablesAreRight, ToldBytesDecide, UsageIsForWrongWords, WrongOrdersAreRefused, WrongWordsAreRefused, undecided_by}
use Rattle.command_words.specs.Usage.{usage_line}
use Rattle.command_words.specs.declared.command.Command.{Command}
use Rattle.command_words.specs.declared.command.Command.TheVariants.{Unknown, Sun, Order, Plain, Table, Cover, Check, Demo, Ical, Agenda, Set}

-- ---- the five answers there are, by the command and its input

-- wrong words
record IsWrong (command : Command) (input : Input) : Type 0 where
  pub words : command ≡ Unknown
  pub answer : answer_to command input ≡ refusal Usage usage_line

-- no order, where one is read
record IsNone (command : Command) (input : Input) : Type 0 where
  pub words : command ≢ Unknown
  pub reads : ReadsAnOrder command
  pub cause : IsNoOrder input
  pub line : List ℕ
  pub answer : answer_to command input ≡ refusal OrderRefused line

-- no covering, where one is read: what was shown before the bad line, and why it is bad
abbrev cover_refusal : List ℕ → List ℕ → Answer
cover_refusal text line = record { status = CoverRefused; text = text; line = line }

record IsBad (command : Command) (input : Input) : Type 0 where
  pub words : command ≢ Unknown
  pub reads : ReadsACovering command
  pub cause : IsNoCovering input
  pub text : List ℕ
  pub line : List ℕ
  pub answer : answer_to command input ≡ cover_refusal text line

-- no calendar, where one is read
record IsUnlisted (command : Command) (input : Input) : Type 0 where
  pub words : command ≢ Unknown
  pub reads : ReadsACalendar command
  pub cause : IsNoCalendar input
  pub line : List ℕ
  pub answer : answer_to command input ≡ refusal IcalRefused line

-- a whole text
record IsText (command : Command) (input : Input) : Type 0 where
  pub words : command ≢ Unknown
  pub accepted : ReadsAnOrder command → IsAnOrder input
  pub shown : ReadsACovering command → IsACovering input
  pub listed : ReadsACalendar command → IsACalendar input
  pub short : IsTooLong input → ⊥
  pub text : List ℕ
  pub answer : answer_to command input ≡ finished (undecided_by command input) text

abbrev Kinds : Command → Input → Type 0
Kinds command input = IsWrong command input ⊎ (IsNone command input ⊎ (IsBad command input ⊎ (IsUnlisted command input ⊎ IsText command input)))

text_of : (command : Command) (input : Input) (text : List ℕ) → command ≢ Unknown → (ReadsAnOrder command → IsAnOrder input) →
    (ReadsACovering command → IsACovering input) → (ReadsACalendar command → IsACalendar input) → (IsTooLong input → ⊥) →
    answer_to command input ≡ finished (undecided_by command input) text → Kinds command input
text_of command input text known accepted shown listed short same =
    inr (inr (inr (inr (record { words = known; accepted = accepted; shown = shown; listed = listed; short = short; text = text; answer = same }))))

none_of : (command : Command) (input : Input) (line : List ℕ) → command ≢ Unknown → ReadsAnOrder command → IsNoOrder input →
    answer_to command input ≡ refusal OrderRefused line → Kinds command input
none_of command input line known reads cause same =
    inr (inl (record { words = known; reads = reads; cause = cause; line = line; answer = same }))

bad_of : (command : Command) (input : Input) (text line : List ℕ) → command ≢ Unknown → ReadsACovering command → IsNoCovering input →
    answer_to command input ≡ cover_refusal text line → Kinds command input
bad_of command input text line known reads cause same =
    inr (inr (inl (record { words = known; reads = reads; cause = cause; text = text; line = line; answer = same })))

unlisted_of : (command : Command) (input : Input) (line : List ℕ) → command ≢ Unknown → ReadsACalendar command → IsNoCalendar input →
    answer_to command input ≡ refusal IcalRefused line → Kinds command input
unlisted_of command input line known reads cause same =
    inr (inr (inr (inl (record { words = known; reads = reads; cause = cause; line = line; answer = same }))))

-- a command that reads an order and answers it so
by_order : (command : Command) (answer : Asked → Answer) (count : Asked → ℕ) (text : Asked → List ℕ) → command ≢ Unknown → wanted_by command ≡ an_order →
    ((input : Input) → answer_to command input ≡ answer_by answer input) → ((o : Asked) → answer o ≡ finished (count o) (text o)) →
    ((o : Asked) → undecided_by command (order (read (Ok o))) ≡ count o) →
    (bytes : List ℕ) (input : Input) → IsSpelled (wanted_by command) bytes input → Kinds command input
by_order command answer count text known wants answers finishes counts bytes input spelled = by input (subst (λ (w : Wanted). IsSpelled w bytes input) wants spelled) where
  reads_it : ReadsAnOrder command
  reads_it = subst IsOfOrders (sym wants) tt

  reads_none : ReadsACovering command → ⊥
  reads_none reads = let same : an_order ≡ a_covering = sym wants ∙ reads in cc

  lists_none : ReadsACalendar command → ⊥
  lists_none reads = let same : an_order ≡ a_calendar = sym wants ∙ reads in cc

  by : (input : Input) → IsSpelled an_order bytes input → Kinds command input
  by unread spelled = absurd spelled
  by (covering given) spelled = absurd spelled
  by (calendar given) spelled = absurd spelled
  by (set given) spelled = absurd spelled
  by (order too_long) spelled = none_of command (order too_long) _ known reads_it tt (answers (order too_long))
  by (order (read (Err fault))) spelled = none_of command (order (read (Err fault))) _ known reads_it tt (answers (order (read (Err fault))))
  by (order (read (Ok o))) spelled =
      text_of command (order (read (Ok o))) (text o) known (λ reads. tt) (λ reads. absurd (reads_none reads))
      (λ reads. absurd (lists_none reads)) (λ long. long)
      (answers (order (read (Ok o))) ∙ finishes o ∙ ap (λ n. finished n (text o)) (sym (counts o)))

-- the covering that was read, by its first bad line
by_lines : (o : Asked) (lines : List ℕ) → Kinds Check (covering (read (Ok (record { order = o; lines = lines }))))
unfolding shown_answer
by_lines o lines = by (shown_table o lines).bad refl where
  input : Input
  input = covering (read (Ok (record { order = o; lines = lines })))

  by : (bad : Option BadLine) → (shown_table o lines).bad ≡ bad → Kinds Check input
  by None none =
      text_of Check input (table_text o (shown_table o lines).days) (λ same. cc) (λ none. absurd none) (λ reads. none) (λ same. absurd cc) (λ long. long)
      (ap (answer_before o (shown_table o lines).days) none)
  by (Some bad) some =
      bad_of Check input (front_text o (shown_table o lines).days) (bad_text bad) (λ same. cc) refl
      (λ none. let same : None ≡ Some bad = sym none ∙ some in cc) (ap (answer_before o (shown_table o lines).days) some)

kinds : (command : Command) (bytes : List ℕ) (input : Input) → IsSpelled (wanted_by command) bytes input → Kinds command input
kinds Unknown bytes input spelled = inl (record { words = refl; answer = refl })
kinds (Sun r) bytes unread spelled = text_of (Sun r) unread _ (λ same. cc) (λ none. absurd none) (λ same. absurd cc) (λ same. absurd cc) (λ long. long) refl
kinds (Sun r) bytes (order given) spelled = absurd spelled
kinds (Sun r) bytes (covering given) spelled = absurd spelled
kinds (Sun r) bytes (calendar given) spelled = absurd spelled
kinds (Sun r) bytes (set given) spelled = absurd spelled
kinds Order bytes input spelled = by_order Order order_answer (λ o. 0) order_line (λ same. cc) refl (λ i. refl) (λ o. refl) (λ o. refl) bytes input spelled
kinds Plain bytes input spelled = by_order Plain table_answer undecided table_of (λ same. cc) refl (λ i. refl) (λ o. refl) (λ o. refl) bytes input spelled
kinds (Table workers) bytes input spelled =
    by_order (Table workers) table_answer undecided table_of (λ same. cc) refl (λ i. refl) (λ o. refl) (λ o. refl) bytes input spelled
kinds (Cover workers form) bytes input spelled =
    by_order (Cover workers form) (covering_answer form) undecided (covering_of form) (λ same. cc) refl (λ i. refl) (λ o. refl) (λ o. refl) bytes input spelled
kinds Check bytes unread spelled = absurd spelled
kinds Check bytes (order given) spelled = absurd spelled
kinds Check bytes (calendar given) spelled = absurd spelled
kinds Check bytes (set given) spelled = absurd spelled
kinds Check bytes (covering too_long) spelled = bad_of Check (covering too_long) _ _ (λ same. cc) refl tt refl
kinds Check bytes (covering (read (Err fault))) spelled = bad_of Check (covering (read (Err fault))) _ _ (λ same. cc) refl tt refl
kinds Check bytes (covering (read (Ok c))) spelled = by_lines c.order c.lines
kinds (Demo number workers) bytes unread spelled =
    text_of (Demo number workers) unread _ (λ same. cc) (λ none. absurd none) (λ same. absurd cc) (λ same. absurd cc) (λ long. long) refl
kinds (Demo number workers) bytes (order given) spelled = absurd spelled
kinds (Demo number workers) bytes (covering given) spelled = absurd spelled
kinds (Demo number workers) bytes (calendar given) spelled = absurd spelled
kinds (Demo number workers) bytes (set given) spelled = absurd spelled
kinds (Ical workers) bytes input spelled =
    by_order (Ical workers) calendar_answer undecided calendar_of (λ same. cc) refl (λ i. refl) (λ o. refl) (λ o. refl) bytes input spelled
kinds Agenda bytes unread spelled = absurd spelled
kinds Agenda bytes (order given) spelled = absurd spelled
kinds Agenda bytes (covering given) spelled = absurd spelled
kinds Agenda bytes (set given) spelled = absurd spelled
kinds Agenda bytes (calendar too_long) spelled = unlisted_of Agenda (calendar too_long) _ (λ same. cc) refl tt refl
kinds Agenda bytes (calendar (read (Err fault))) spelled = unlisted_of Agenda (calendar (read (Err fault))) _ (λ same. cc) refl tt refl
kinds Agenda bytes (calendar (read (Ok events))) spelled =
    text_of Agenda (calendar (read (Ok events))) (agenda_text events) (λ same. cc) (λ none. absurd none) (λ same. absurd cc) (λ reads. tt) (λ long. long) refl
kinds (Set workers) bytes unread spelled = absurd spelled
kinds (Set workers) bytes (order given) spelled = absurd spelled
kinds (Set workers) bytes (covering given) spelled = absurd spelled
kinds (Set workers) bytes (calendar given) spelled = absurd spelled
kinds (Set workers) bytes (set too_long) spelled = none_of (Set workers) (set too_long) _ (λ same. cc) tt tt refl
kinds (Set workers) bytes (set (read (Err fault))) spelled = none_of (Set workers) (set (read (Err fault))) _ (λ same. cc) tt tt refl
kinds (Set workers) bytes (set (read (Ok s))) spelled =
    text_of (Set workers) (set (read (Ok s))) (sets.table_of s) (λ same. cc) (λ reads. tt) (λ same. absurd cc) (λ same. absurd cc) (λ long. long) refl

kind_of : {command : Command} {status : Status} {before after : Streams} → (run : Ended command status before after) → Kinds command run.input
kind_of {command = command} run = kinds command run.spelled.bytes run.input run.spelled.spelled

-- ---- how each ends

ends_as : {command : Command} {status : Status} {before after : Streams} (run : Ended command status before after) (a : Answer) →
    answer_to command run.input ≡ a → EndsAs a status before.source after.source before.out after.out
ends_as {status = status} {before = before} {after = after} run a same =
    let P : Answer → Type 0 = λ b. EndsAs b status before.source after.source before.out after.out in subst P same run.ends

no_text_count : (n : ℕ) (status : Status) → status ≢ Done → status ≢ StatusOpen → status ≢ status_of_count n
no_text_count n status not_done not_open same = elim (done_or_open n) [ inl done ↦ not_done (same ∙ done) | inr undecided ↦ not_open (same ∙ undecided) ]

pub usage_is_for_wrong_words : UsageIsForWrongWords
unfolding EndsAs
usage_is_for_wrong_words command before after run = by (kind_of run) where
  by : Kinds command run.input → command ≡ Unknown
  by (inl wrong) = wrong.words
  by (inr (inl none)) = let same = (ends_as run (refusal OrderRefused none.line) none.answer).0 in absurd cc
  by (inr (inr (inl bad))) = let same = (ends_as run (cover_refusal bad.text bad.line) bad.answer).0 in absurd cc
  by (inr (inr (inr (inl list)))) = let same = (ends_as run (refusal IcalRefused list.line) list.answer).0 in absurd cc
  by (inr (inr (inr (inr text)))) =
      absurd (no_text_count (undecided_by command run.input) Usage (λ e. cc) (λ e. cc)
      (ends_as run (finished (undecided_by command run.input) text.text) text.answer).0)

pub wrong_words_are_refused : WrongWordsAreRefused
wrong_words_are_refused status before after run =
    by (ways (refusal Usage usage_line) status before.source after.source before.out after.out run.ends)
  where
    by : Ways (refusal Usage usage_line) status before.source after.source before.out after.out → IsUsage status before after
    by (inl whole) = record { answered = inl whole.is; unread = run.leaves.0; unwritten = whole.added }
    by (inr (inl no_read)) = absurd (run.leaves.1 no_read.is)
    by (inr (inr (inl cut))) = absurd (no_part before.out after.out cut.added)
    by (inr (inr (inr dry))) =
        record { answered = inr dry.is; unread = run.leaves.0; unwritten = none_added before.out after.out dry.added }

pub orders_are_refused_for_cause : OrdersAreRefusedForCause
unfolding EndsAs
orders_are_refused_for_cause command before after run = by (kind_of run) where
  by : Kinds command run.input → IsRefused command run.input before after
  by (inl wrong) = let same = (ends_as run (refusal Usage usage_line) wrong.answer).0 in absurd cc
  by (inr (inl none)) = record {
    reads = none.reads;
    cause = none.cause;
    unwritten = (ends_as run (refusal OrderRefused none.line) none.answer).1;
  }
  by (inr (inr (inl bad))) = let same = (ends_as run (cover_refusal bad.text bad.line) bad.answer).0 in absurd cc
  by (inr (inr (inr (inl list)))) = let same = (ends_as run (refusal IcalRefused list.line) list.answer).0 in absurd cc
  by (inr (inr (inr (inr text)))) =
      absurd (no_text_count (undecided_by command run.input) OrderRefused (λ e. cc) (λ e. cc)
      (ends_as run (finished (undecided_by command run.input) text.text) text.answer).0)

not_both : (input : Input) → IsAnOrder input → IsNoOrder input → ⊥
not_both unread is wrong = is
not_both (order too_long) is wrong = is
not_both (order (read (Err fault))) is wrong = is
not_both (order (read (Ok o))) is wrong = wrong
not_both (covering given) is wrong = is
not_both (calendar given) is wrong = is
not_both (set too_long) is wrong = is
not_both (set (read (Err fault))) is wrong = is
not_both (set (read (Ok s))) is wrong = wrong

unknown_reads_none : (command : Command) → command ≡ Unknown → ReadsAnOrder command → ⊥
unknown_reads_none command is reads = subst ReadsAnOrder is reads

one_input : (command : Command) → ReadsAnOrder command → ReadsACovering command → ⊥
one_input command order' covering' = subst IsOfOrders covering' order'

order_or_calendar : (command : Command) → ReadsAnOrder command → ReadsACalendar command → ⊥
order_or_calendar command order' calendar' = subst IsOfOrders calendar' order'

covering_or_calendar : (command : Command) → ReadsACovering command → ReadsACalendar command → ⊥
covering_or_calendar command covering' calendar' = let same : a_covering ≡ a_calendar = sym covering' ∙ calendar' in cc

pub wrong_orders_are_refused : WrongOrdersAreRefused
wrong_orders_are_refused command status before after run reads wrong = by (kind_of run) where
  by_line : (line : List ℕ) → Ways (refusal OrderRefused line) status before.source after.source before.out after.out →
      (status ≡ OrderRefused) ⊎ ((status ≡ ReadFault) × Rose before.source.faults after.source.faults) ⊎ (status ≡ NoMemory)
  by_line line (inl whole) = inl whole.is
  by_line line (inr (inl no_read)) = inr (inl (no_read.is, no_read.rose))
  by_line line (inr (inr (inl cut))) = absurd (no_part before.out after.out cut.added)
  by_line line (inr (inr (inr dry))) = inr (inr dry.is)

  by : Kinds command run.input →
      (status ≡ OrderRefused) ⊎ ((status ≡ ReadFault) × Rose before.source.faults after.source.faults) ⊎ (status ≡ NoMemory)
  by (inl unknown) = absurd (unknown_reads_none command unknown.words reads)
  by (inr (inl none)) =
      by_line none.line (ways (refusal OrderRefused none.line) status _ _ _ _ (ends_as run (refusal OrderRefused none.line) none.answer))
  by (inr (inr (inl bad))) = absurd (one_input command reads bad.reads)
  by (inr (inr (inr (inl list)))) = absurd (order_or_calendar command reads list.reads)
  by (inr (inr (inr (inr text)))) = absurd (not_both run.input (text.accepted reads) wrong)

pub coverings_are_refused_for_cause : CoveringsAreRefusedForCause
unfolding EndsAs
coverings_are_refused_for_cause command before after run = by (kind_of run) where
  by : Kinds command run.input → IsCoverRefused command run.input before after
  by (inl wrong) = let same = (ends_as run (refusal Usage usage_line) wrong.answer).0 in absurd cc
  by (inr (inl none)) = let same = (ends_as run (refusal OrderRefused none.line) none.answer).0 in absurd cc
  by (inr (inr (inl bad))) = record {
    reads = bad.reads;
    cause = bad.cause;
    written = subst (λ (a : Answer). Adds before.out.bytes after.out.bytes a.text) (sym bad.answer)
        (ends_as run (cover_refusal bad.text bad.line) bad.answer).1;
  }
  by (inr (inr (inr (inl list)))) = let same = (ends_as run (refusal IcalRefused list.line) list.answer).0 in absurd cc
  by (inr (inr (inr (inr text)))) =
      absurd (no_text_count (undecided_by command run.input) CoverRefused (λ e. cc) (λ e. cc)
      (ends_as run (finished (undecided_by command run.input) text.text) text.answer).0)

not_shown : (input : Input) → IsACovering input → IsNoCovering input → ⊥
not_shown unread is wrong = is
not_shown (order given) is wrong = is
not_shown (calendar given) is wrong = is
not_shown (set given) is wrong = is
not_shown (covering too_long) is wrong = is
not_shown (covering (read (Err fault))) is wrong = is
not_shown (covering (read (Ok c))) is wrong = wrong is

unknown_shows_none : (command : Command) → command ≡ Unknown → ReadsACovering command → ⊥
unknown_shows_none command is reads = let same : nothing ≡ a_covering = subst ReadsACovering is reads in cc

pub wrong_coverings_are_refused : WrongCoveringsAreRefused
wrong_coverings_are_refused command status before after run reads wrong = by (kind_of run) where
  by_line : (text line : List ℕ) → Ways (cover_refusal text line) status before.source after.source before.out after.out →
      (status ≡ CoverRefused) ⊎ ((status ≡ ReadFault) × Rose before.source.faults after.source.faults)
      ⊎ ((status ≡ WriteFault) × Rose before.out.faults after.out.faults) ⊎ (status ≡ NoMemory)
  by_line text line (inl whole) = inl whole.is
  by_line text line (inr (inl no_read)) = inr (inl (no_read.is, no_read.rose))
  by_line text line (inr (inr (inl cut))) = inr (inr (inl (cut.is, cut.rose)))
  by_line text line (inr (inr (inr dry))) = inr (inr (inr dry.is))

  by : Kinds command run.input → (status ≡ CoverRefused) ⊎ ((status ≡ ReadFault) × Rose before.source.faults after.source.faults)
      ⊎ ((status ≡ WriteFault) × Rose before.out.faults after.out.faults) ⊎ (status ≡ NoMemory)
  by (inl unknown) = absurd (unknown_shows_none command unknown.words reads)
  by (inr (inl none)) = absurd (one_input command none.reads reads)
  by (inr (inr (inl bad))) =
      by_line bad.text bad.line (ways (cover_refusal bad.text bad.line) status _ _ _ _ (ends_as run (cover_refusal bad.text bad.line) bad.answer))
  by (inr (inr (inr (inl list)))) = absurd (covering_or_calendar command reads list.reads)
  by (inr (inr (inr (inr text)))) = absurd (not_shown run.input (text.shown reads) wrong)

pub calendars_are_refused_for_cause : CalendarsAreRefusedForCause
unfolding EndsAs
calendars_are_refused_for_cause command before after run = by (kind_of run) where
  by : Kinds command run.input → IsIcalRefused command run.input before after
  by (inl wrong) = let same = (ends_as run (refusal Usage usage_line) wrong.answer).0 in absurd cc
  by (inr (inl none)) = let same = (ends_as run (refusal OrderRefused none.line) none.answer).0 in absurd cc
  by (inr (inr (inl bad))) = let same = (ends_as run (cover_refusal bad.text bad.line) bad.answer).0 in absurd cc
  by (inr (inr (inr (inl list)))) = record {
    reads = list.reads;
    cause = list.cause;
    unwritten = (ends_as run (refusal IcalRefused list.line) list.answer).1;
  }
  by (inr (inr (inr (inr text)))) =
      absurd (no_text_count (undecided_by command run.input) IcalRefused (λ e. cc) (λ e. cc)
      (ends_as run (finished (undecided_by command run.input) text.text) text.answer).0)

not_listed : (input : Input) → IsACalendar input → IsNoCalendar input → ⊥
not_listed unread is wrong = is
not_listed (order given) is wrong = is
not_listed (covering given) is wrong = is
not_listed (set given) is wrong = is
not_listed (calendar too_long) is wrong = is
not_listed (calendar (read (Err fault))) is wrong = is
not_listed (calendar (read (Ok events))) is wrong = wrong

unknown_lists_none : (command : Command) → command ≡ Unknown → ReadsACalendar command → ⊥
unknown_lists_none command is reads = let same : nothing ≡ a_calendar = subst ReadsACalendar is reads in cc

pub wrong_calendars_are_refused : WrongCalendarsAreRefused
wrong_calendars_are_refused command status before after run reads wrong = by (kind_of run) where
  by_line : (line : List ℕ) → Ways (refusal IcalRefused line) status before.source after.source before.out after.out →
      (status ≡ IcalRefused) ⊎ ((status ≡ ReadFault) × Rose before.source.faults after.source.faults) ⊎ (status ≡ NoMemory)
  by_line line (inl whole) = inl whole.is
  by_line line (inr (inl no_read)) = inr (inl (no_read.is, no_read.rose))
  by_line line (inr (inr (inl cut))) = absurd (no_part before.out after.out cut.added)
  by_line line (inr (inr (inr dry))) = inr (inr dry.is)

  by : Kinds command run.input →
      (status ≡ IcalRefused) ⊎ ((status ≡ ReadFault) × Rose before.source.faults after.source.faults) ⊎ (status ≡ NoMemory)
  by (inl unknown) = absurd (unknown_lists_none command unknown.words reads)
  by (inr (inl none)) = absurd (order_or_calendar command none.reads reads)
  by (inr (inr (inl bad))) = absurd (covering_or_calendar command bad.reads reads)
  by (inr (inr (inr (inl list)))) =
      by_line list.line (ways (refusal IcalRefused list.line) status _ _ _ _ (ends_as run (refusal IcalRefused list.line) list.answer))
  by (inr (inr (inr (inr text)))) = absurd (not_listed run.input (text.listed reads) wrong)

-- how a run ends whose answer is a text, where no fault was counted
pub answered_whole : (n : ℕ) (text : List ℕ) (status : Status) (before after : Streams) →
    (Rose before.source.faults after.source.faults → ⊥) → (Rose before.out.faults after.out.faults → ⊥) →
    Ways (finished n text) status before.source after.source before.out after.out → (status ≡ Done) ⊎ (status ≡ StatusOpen) ⊎ (status ≡ NoMemory)
answered_whole n text status before after no_rise no_rise_out (inl whole) =
    elim (done_or_open n) [ inl done ↦ inl (whole.is ∙ done) | inr undecided ↦ inr (inl (whole.is ∙ undecided)) ]
answered_whole n text status before after no_rise no_rise_out (inr (inl no_read)) = absurd (no_rise no_read.rose)
answered_whole n text status before after no_rise no_rise_out (inr (inr (inl cut))) = absurd (no_rise_out cut.rose)
answered_whole n text status before after no_rise no_rise_out (inr (inr (inr dry))) = inr (inr dry.is)

pub right_words_are_answered : RightWordsAreAnswered
right_words_are_answered command status before after run known accepted shown listed no_rise no_rise_out = by (kind_of run) where
  by : Kinds command run.input → (status ≡ Done) ⊎ (status ≡ StatusOpen) ⊎ (status ≡ NoMemory)
  by (inl unknown) = absurd (known unknown.words)
  by (inr (inl none)) = absurd (not_both run.input (accepted none.reads) none.cause)
  by (inr (inr (inl bad))) = absurd (not_shown run.input (shown bad.reads) bad.cause)
  by (inr (inr (inr (inl list)))) = absurd (not_listed run.input (listed list.reads) list.cause)
  by (inr (inr (inr (inr text)))) =
      answered_whole (undecided_by command run.input) text.text status before after no_rise no_rise_out
      (ways (finished (undecided_by command run.input) text.text) status _ _ _ _
      (ends_as run (finished (undecided_by command run.input) text.text) text.answer))

-- a status that is neither Done nor Open
is_no_other : (status other : Status) → (status ≡ Done) ⊎ (status ≡ StatusOpen) → other ≢ Done → other ≢ StatusOpen → status ≢ other
is_no_other status other (inl done) not_done not_open same = not_done (sym same ∙ done)
is_no_other status other (inr undecided) not_done not_open same = not_open (sym same ∙ undecided)

pub finished_is_whole : (a : Answer) (status : Status) (source source' out out' : Stream) → (status ≡ Done) ⊎ (status ≡ StatusOpen) →
    Ways a status source source' out out' → IsWhole a status out out'
finished_is_whole a status source source' out out' is (inl whole) = whole
finished_is_whole a status source source' out out' is (inr (inl no_read)) = absurd (is_no_other status ReadFault is (λ e. cc) (λ e. cc) no_read.is)
finished_is_whole a status source source' out out' is (inr (inr (inl cut))) = absurd (is_no_other status WriteFault is (λ e. cc) (λ e. cc) cut.is)
finished_is_whole a status source source' out out' is (inr (inr (inr dry))) = absurd (is_no_other status NoMemory is (λ e. cc) (λ e. cc) dry.is)

read_to_end : (wanted : Wanted) (input : Input) (status : Status) (source source' : Stream) → Leaves wanted input status source source' →
    wanted ≢ nothing → status ≢ ReadFault → status ≢ NoMemory → (IsTooLong input → ⊥) → IsReadToEnd source.bytes source'.bytes
read_to_end nothing input status source source' leaves wants not_read not_memory short = absurd (wants refl)
read_to_end an_order input status source source' leaves wants not_read not_memory short = leaves.whole not_read not_memory short
read_to_end a_covering input status source source' leaves wants not_read not_memory short = leaves.whole not_read not_memory short
read_to_end a_calendar input status source source' leaves wants not_read not_memory short = leaves.whole not_read not_memory short
read_to_end a_set input status source source' leaves wants not_read not_memory short = leaves.whole not_read not_memory short

pub finished_runs_wrote_the_answer : FinishedRunsWroteTheAnswer
finished_runs_wrote_the_answer command status before after run is = by (kind_of run) where
  whole_as : (a : Answer) → answer_to command run.input ≡ a → IsWhole a status before.out after.out
  whole_as a same = finished_is_whole a status _ _ _ _ is (ways a status _ _ _ _ (ends_as run a same))

  by : Kinds command run.input → IsFinished command status run.input before after
  by (inl unknown) = absurd (is_no_other status Usage is (λ e. cc) (λ e. cc) (whole_as (refusal Usage usage_line) unknown.answer).is)
  by (inr (inl none)) =
      absurd (is_no_other status OrderRefused is (λ e. cc) (λ e. cc) (whole_as (refusal OrderRefused none.line) none.answer).is)
  by (inr (inr (inl bad))) =
      absurd (is_no_other status CoverRefused is (λ e. cc) (λ e. cc) (whole_as (cover_refusal bad.text bad.line) bad.answer).is)
  by (inr (inr (inr (inl list)))) =
      absurd (is_no_other status IcalRefused is (λ e. cc) (λ e. cc) (whole_as (refusal IcalRefused list.line) list.answer).is)
  by (inr (inr (inr (inr text)))) =
      let n = undecided_by command run.input in
      let whole = whole_as (finished n text.text) text.answer in
      let P : Answer → Type 0 = λ a. Adds before.out.bytes after.out.bytes a.text in
      record {
        words = text.words;
        read_through = λ reads. read_to_end (wanted_by command) run.input status before.source after.source run.leaves reads
            (is_no_other status ReadFault is (λ e. cc) (λ e. cc)) (is_no_other status NoMemory is (λ e. cc) (λ e. cc)) text.short;
        accepted = text.accepted;
        shown = text.shown;
        listed = text.listed;
        written = subst P (sym text.answer) whole.added;
        decided = λ is_done. done_none n (sym is_done ∙ whole.is);
        undecided = λ is_open. open_some n (sym is_open ∙ whole.is);
      }

pub told_bytes_decide : ToldBytesDecide
told_bytes_decide command status before after bytes input run told spelled =
    let P : List ℕ → Type 0 = λ b. IsSpelled (wanted_by command) b input in
    let too : P run.spelled.bytes = subst P (run.spelled.told bytes told) spelled in
    let same : run.input ≡ input = inputs_agree (wanted_by command) run.spelled.bytes run.input input run.spelled.spelled too in
    subst (λ (i : Input). EndedBy command status i before after) same (record { ends = run.ends; reports = run.reports })

pub tables_are_right : TablesAreRight
tables_are_right bytes o reads = all_tables_are_right o (orders_keep_the_rule bytes o reads)

pub sets_are_right : SetsAreRight
sets_are_right bytes s reads = all_sets_are_right s (sets_keep_the_rule bytes s reads)

pub calendars_are_read_again : CalendarsAreReadAgain
calendars_are_read_again bytes o reads = all_are_read_again o (orders_keep_the_rule bytes o reads)

-- How the answer to each command is made.
use Rattle.std.proofs.Common.{◌≡◌, ℕ, List, [], Bool, true, false, cond, Ok, Err, Result, refl, sym, subst, arith}
use Rattle.std.specs.Prelude.{◌≢◌, ◌==◌, IfOk}
use Rattle.agenda_list.specs.Agenda.{agenda_answer, agenda_text}
use Rattle.command_input.proofs.AnswerLemmas.{answers_calendar, answers_covering, answers_no_calendar, answers_no_covering, answers_no_set, answers_order, answers_refused, answers_set, answers_unread}
use Rattle.command_input.proofs.InputLemmas.{every_text_is_an_input, told_by}
use Rattle.command_input.specs.Answers.{Answers, IsTaken, Leaves, answer_by}
use Rattle.command_input.specs.Input.{Input, Wanted, a_calendar, a_covering, a_set, an_order, limit_of, nothing}
use Rattle.command_input.specs.Taken.{IsCalendarReadAs, IsCoveringReadAs, IsReadAs, IsSetReadAs, covered_of}
use Rattle.command_input.specs.declared.covering.Covering.{Covering}
use Rattle.demo_summary.specs.Demo.{demo_asked}
use Rattle.demo_summary.specs.Summary.{summary_line}
use Rattle.ical_text.specs.declared.event.Event.{Event}
use Rattle.order_rule.specs.Asked.{Asked, asked_of}
use Rattle.order_table.specs.Trees.{undecided}
use Rattle.order_rule.specs.declared.order.Order.{Order as OrderRead}
use Rattle.outcome.proofs.Endings.{given_up, refused, text_ending}
use Rattle.outcome.specs.Answer.{Answer, finished}
use Rattle.outcome.specs.Endings.{EndsBy, IsRefusedBy, ending_of, line_of_ending, status_of_ending}
use Rattle.outcome.specs.Ends.{Reports}
use Rattle.outcome.specs.Streams.{Stream, Streams}
use Rattle.outcome.specs.Writing.{Writes}
use Rattle.outcome.specs.declared.ending.Ending.{Ending}
use Rattle.outcome.specs.declared.ending.Ending.TheVariants.{Plain, Refused}
use Rattle.outcome.specs.declared.status.Status.{Status}
use Rattle.outcome.specs.declared.status.Status.TheVariants.{Done, NoMemory, Usage, ReadFault}
use Rattle.outcome.specs.declared.status.Status.TheVariants.{Open as StatusOpen}
use Rattle.outcome.specs.declared.stop.Stop.{Stop}
use Rattle.outcome.specs.declared.stop.Stop.TheVariants.{NoMemory as StopNoMemory, WriteFault as StopWriteFault}
use Rattle.shown_table.specs.Shown.{shown_answer}
use Rattle.sun_verdict.specs.Line.{undecided_in, verdict_line}
use Rattle.sun_verdict.specs.declared.request.Request.{Request}
use Rattle.set_reader.specs.Asked as set_asked
use Rattle.set_reader.specs.declared.set.SetOrder.{SetOrder}
use Rattle.set_table.specs.Trees as sets
use Rattle.timetable.specs.Answer.{answer_to, set_answer, wanted_by}
use Rattle.timetable.specs.Ended.{Ended}
use Rattle.command_words.specs.Usage.{usage_line}
use Rattle.command_words.specs.declared.command.Command.{Command}
use Rattle.command_words.specs.declared.command.Command.TheVariants.{Unknown, Sun, Check, Demo, Agenda, Set}

-- the answer to a command, where it is this one
abbrev pub AnswersTo : Command → Ending → Stream → Stream → Stream → Stream → Type 0
AnswersTo command ending source source' out out' = Answers (wanted_by command) (answer_to command) ending source source' out out'

-- a text that was written ends with no read fault
no_read_fault : (w : Result ℕ Stop) → status_of_ending (ending_of w) ≢ ReadFault
no_read_fault (Ok n) same = by (n == 0) same where
  by : (t : Bool) → cond t Done StatusOpen ≢ ReadFault
  by true same = cc
  by false same = cc
no_read_fault (Err StopNoMemory) same = cc
no_read_fault (Err StopWriteFault) same = cc

-- words that are refused end with no read fault
no_read_fault_by : (line : List ℕ) (ending : Ending) → IsRefusedBy Usage line ending → status_of_ending ending ≢ ReadFault
no_read_fault_by line (Plain status) is same = cc
no_read_fault_by line (Refused status text) is same = let usage = is.0 in cc

pub unknown_answers : (command : Command) (ending : Ending) (source out : Stream) → command ≡ Unknown → IsRefusedBy Usage usage_line ending →
    AnswersTo command ending source source out out
unknown_answers command ending source out is said =
    subst (λ (c : Command). AnswersTo c ending source source out out) (sym is)
    (answers_unread (answer_to Unknown) ending source out out (refused Usage tt usage_line ending source source out said) (no_read_fault_by usage_line ending said))

pub demo_answers : (command : Command) (number workers : ℕ) (w : Result ℕ Stop) (ending : Ending) (source out out' : Stream) →
    command ≡ Demo number workers → Writes {X = ℕ} (summary_line number) w out.faults out'.faults out.bytes out'.bytes →
    IfOk w (λ count. count ≡ undecided (demo_asked number)) → ending ≡ ending_of w → AnswersTo command ending source source out out'
demo_answers command number workers w ending source out out' is writes count same =
    rw (is, same) (answers_unread (answer_to (Demo number workers)) (ending_of w) source out out'
    (text_ending (summary_line number) (undecided (demo_asked number)) w source source out out' writes count) (no_read_fault w))

pub sun_answers : (command : Command) (r : Request) (w : Result ℕ Stop) (ending : Ending) (source out out' : Stream) →
    command ≡ Sun r → Writes {X = ℕ} (verdict_line r) w out.faults out'.faults out.bytes out'.bytes →
    IfOk w (λ count. count ≡ undecided_in r) → ending ≡ ending_of w → AnswersTo command ending source source out out'
sun_answers command r w ending source out out' is writes count same =
    rw (is, same) (answers_unread (answer_to (Sun r)) (ending_of w) source out out'
    (text_ending (verdict_line r) (undecided_in r) w source source out out' writes count) (no_read_fault w))

-- memory for reading the words was not found
pub dry_answers : (command : Command) (source out : Stream) → AnswersTo command (Plain NoMemory) source source out out
dry_answers command source out =
    let (bytes, told) = told_by source.bytes in
    let (input, spelled) = every_text_is_an_input (wanted_by command) bytes in
    record {
      input = input;
      spelled = record { bytes = bytes; told = told; spelled = spelled };
      ends = given_up (answer_to command input) source source out;
      leaves = left (wanted_by command) input;
    }
  where
    untaken : (limit : ℕ) (input : Input) → IsTaken limit input NoMemory source source
    untaken limit input = record {
      within = ([], omega arith, λ x told. (x, told, refl));
      whole = λ no_read memory short. absurd (memory refl);
      later = omega arith;
    }

    left : (wanted : Wanted) (input : Input) → Leaves wanted input NoMemory source source
    left nothing input = (refl, λ same. cc)
    left an_order input = untaken (limit_of an_order) input
    left a_covering input = untaken (limit_of a_covering) input
    left a_calendar input = untaken (limit_of a_calendar) input
    left a_set input = untaken (limit_of a_set) input

-- what is written for an order that was read, where the command answers it so
pub read_answers : (which : Command) (answer : Asked → Answer) → wanted_by which ≡ an_order → answer_to which ≡ answer_by answer →
    (command : Command) (o : OrderRead) (text : List ℕ) (undecided : ℕ) (w : Result ℕ Stop) (ending : Ending) (source source' out out' : Stream) →
    command ≡ which → IsReadAs source source' (Ok o) → answer (asked_of o) ≡ finished undecided text →
    Writes {X = ℕ} text w out.faults out'.faults out.bytes out'.bytes → IfOk w (λ count. count ≡ undecided) →
    ending ≡ ending_of w → AnswersTo command ending source source' out out'
read_answers which answer wants answers command o text undecided w ending source source' out out' is was_read made writes count same =
    rw (is, same, wants, answers) (answers_order answer o (ending_of w) source source' out out' was_read
    (subst (λ (a : Answer). EndsBy a (ending_of w) source source' out out') (sym made)
    (text_ending text undecided w source source' out out' writes count)))

-- what is no order
pub read_refuses : (which : Command) (answer : Asked → Answer) → wanted_by which ≡ an_order → answer_to which ≡ answer_by answer →
    (command : Command) (ending : Ending) (source source' out : Stream) → command ≡ which →
    IsReadAs source source' (Err ending) → AnswersTo command ending source source' out out
read_refuses which answer wants answers command ending source source' out is was_read =
    rw (is, wants, answers) (answers_refused answer ending source source' out was_read)

-- what is shown of a covering that was read
pub check_answers : (command : Command) (c : Covering) (ending : Ending) (source source' out out' : Stream) → command ≡ Check →
    IsCoveringReadAs source source' (Ok c) → EndsBy (shown_answer (covered_of c).order (covered_of c).lines) ending source source' out out' →
    AnswersTo command ending source source' out out'
check_answers command c ending source source' out out' is was_read ends = rw is (answers_covering shown_answer c ending source source' out out' was_read ends)

pub check_refuses : (command : Command) (ending : Ending) (source source' out : Stream) → command ≡ Check →
    IsCoveringReadAs source source' (Err ending) → AnswersTo command ending source source' out out
check_refuses command ending source source' out is was_read = rw is (answers_no_covering shown_answer ending source source' out was_read)

-- the agenda of a calendar that was read
pub agenda_answers : (command : Command) (events : List Event) (w : Result ℕ Stop) (ending : Ending) (source source' out out' : Stream) →
    command ≡ Agenda → IsCalendarReadAs source source' (Ok events) →
    Writes {X = ℕ} (agenda_text events) w out.faults out'.faults out.bytes out'.bytes → IfOk w (λ count. count ≡ 0) → ending ≡ ending_of w →
    AnswersTo command ending source source' out out'
agenda_answers command events w ending source source' out out' is was_read writes count same =
    rw (is, same) (answers_calendar agenda_answer events (ending_of w) source source' out out' was_read
    (text_ending (agenda_text events) 0 w source source' out out' writes count))

pub agenda_refuses : (command : Command) (ending : Ending) (source source' out : Stream) → command ≡ Agenda →
    IsCalendarReadAs source source' (Err ending) → AnswersTo command ending source source' out out
agenda_refuses command ending source source' out is was_read = rw is (answers_no_calendar agenda_answer ending source source' out was_read)

-- the table of a set that was read
pub set_answers : (command : Command) (workers : ℕ) (s : SetOrder) (w : Result ℕ Stop) (ending : Ending) (source source' out out' : Stream) →
    command ≡ Set workers → IsSetReadAs source source' (Ok s) →
    Writes {X = ℕ} (sets.table_of (set_asked.asked_of s)) w out.faults out'.faults out.bytes out'.bytes →
    IfOk w (λ count. count ≡ sets.undecided (set_asked.asked_of s)) → ending ≡ ending_of w → AnswersTo command ending source source' out out'
set_answers command workers s w ending source source' out out' is was_read writes count same =
    rw (is, same) (answers_set set_answer s (ending_of w) source source' out out' was_read
    (text_ending (sets.table_of (set_asked.asked_of s)) (sets.undecided (set_asked.asked_of s)) w source source' out out' writes count))

pub set_refuses : (command : Command) (workers : ℕ) (ending : Ending) (source source' out : Stream) → command ≡ Set workers →
    IsSetReadAs source source' (Err ending) → AnswersTo command ending source source' out out
set_refuses command workers ending source source' out is was_read = rw is (answers_no_set set_answer ending source source' out was_read)

-- what was answered, with the line that was reported
pub ended_by : (command : Command) (ending : Ending) (status : Status) (line : List ℕ) (before after : Streams) →
    AnswersTo command ending before.source after.source before.out after.out → status ≡ status_of_ending ending →
    line ≡ line_of_ending ending → Reports line before.err after.err → Ended command status before after
ended_by command ending status line before after answers is_status is_line reports = rw is_status (record {
  input = answers.input;
  spelled = answers.spelled;
  ends = answers.ends.ends;
  reports = rw (← answers.ends.line, ← is_line) reports;
  leaves = answers.leaves;
})

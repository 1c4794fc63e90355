-- What the program answers to its words and its input.
use Rattle.std.specs.Prelude.{ℕ, List}
use Rattle.agenda_list.specs.Agenda.{agenda_answer}
use Rattle.command_input.specs.Answers.{answer_by, answer_listed, answer_shown, answer_together}
use Rattle.command_input.specs.Input.{Input, Wanted, a_calendar, a_covering, a_set, an_order, nothing}
use Rattle.command_words.specs.Usage.{usage_line}
use Rattle.command_words.specs.Words.{command_of}
use Rattle.command_words.specs.declared.command.Command.{Command}
use Rattle.command_words.specs.declared.command.Command.TheVariants.{Unknown, Sun, Order, Plain, Table, Cover, Check, Demo, Ical, Agenda, Set}
use Rattle.demo_summary.specs.Demo.{demo_asked}
use Rattle.demo_summary.specs.Summary.{summary_line}
use Rattle.order_calendar.specs.Calendar.{calendar_of}
use Rattle.order_covering.specs.Covering.{covering_of}
use Rattle.order_covering.specs.declared.form.Form.{Form}
use Rattle.order_rule.specs.Asked.{Asked}
use Rattle.order_text.specs.Line.{order_line}
use Rattle.order_table.specs.Trees.{table_of, undecided}
use Rattle.outcome.specs.Answer.{Answer, finished, refusal}
use Rattle.outcome.specs.declared.status.Status.TheVariants.{Usage}
use Rattle.set_reader.specs.Asked.{SetAsked}
use Rattle.set_table.specs.Trees as sets
use Rattle.shown_table.specs.Shown.{shown_answer}
use Rattle.sun_verdict.specs.Line.{undecided_in, verdict_line}
use Rattle.sun_verdict.specs.declared.request.Request.{Request}

-- what a command reads
abbrev pub wanted_by : Command → Wanted
wanted_by Order = an_order
wanted_by Plain = an_order
wanted_by (Table workers) = an_order
wanted_by (Cover workers form) = an_order
wanted_by (Ical workers) = an_order
wanted_by Check = a_covering
wanted_by Agenda = a_calendar
wanted_by (Set workers) = a_set
wanted_by command = nothing

-- the line of the verdict
abbrev pub sun_answer : Request → Answer
sun_answer r = finished (undecided_in r) (verdict_line r)

-- the canonical line
abbrev pub order_answer : Asked → Answer
order_answer o = finished 0 (order_line o)

-- the table, whoever searches it
abbrev pub table_answer : Asked → Answer
table_answer o = finished (undecided o) (table_of o)

-- the covering, whoever searches it
abbrev pub covering_answer : Form → Asked → Answer
covering_answer form o = finished (undecided o) (covering_of form o)

-- the calendar, whoever searches it
abbrev pub calendar_answer : Asked → Answer
calendar_answer o = finished (undecided o) (calendar_of o)

-- the table of a set, whoever searches it
abbrev pub set_answer : SetAsked → Answer
set_answer s = finished (sets.undecided s) (sets.table_of s)

-- the summary of the order that is made of a number
abbrev pub demo_answer : ℕ → Answer
demo_answer number = finished (undecided (demo_asked number)) (summary_line number)

abbrev pub answer_to : Command → Input → Answer
answer_to Unknown input = refusal Usage usage_line
answer_to (Sun r) input = sun_answer r
answer_to Order input = answer_by order_answer input
answer_to Plain input = answer_by table_answer input
answer_to (Table workers) input = answer_by table_answer input
answer_to (Cover workers form) input = answer_by (covering_answer form) input
answer_to Check input = answer_shown shown_answer input
answer_to (Demo number workers) input = demo_answer number
answer_to (Ical workers) input = answer_by calendar_answer input
answer_to Agenda input = answer_listed agenda_answer input
answer_to (Set workers) input = answer_together set_answer input

-- the answer to the words behind the program's name and to the input
abbrev pub answer_of : List (List ℕ) → Input → Answer
answer_of words input = answer_to (command_of words) input

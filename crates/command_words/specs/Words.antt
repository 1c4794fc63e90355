-- Which command the words behind the program's name ask for.
use Rattle.std.specs.Prelude.{ℕ, ◌≤◌, nat_le, ◌&&◌, if◌then◌else◌, List, [], ◌∷◌, codes, bytes_eq, Option, Some, None}
use Rattle.clap.specs.Faults.{fault_of}
use Rattle.clap.specs.Simple.{App, matches_of}
use Rattle.clap.specs.Walk.{first_of, is_empty}
use Rattle.order_covering.specs.declared.form.Form.{Form}
use Rattle.order_covering.specs.declared.form.Form.TheVariants.{Letters, Runs}
use Rattle.sun_verdict.specs.Request.{IsInRange, request_in}
use Rattle.sun_verdict.specs.declared.request.Request.{Request}
use Rattle.command_words.specs.Numbers.{number_in}
use Rattle.command_words.specs.Options.{cover_app, demo_app, ical_app, set_app, table_app}
use Rattle.command_words.specs.declared.command.Command.{Command}
use Rattle.command_words.specs.declared.command.Command.TheVariants.{Unknown, Sun, Order, Plain, Table, Cover, Check, Demo, Ical, Agenda, Set}

-- a command that takes no further word
abbrev pub alone : List (List ℕ) → Command → Command
alone [] command = command
alone words command = Unknown

abbrev pub asking : Option Request → Command
asking (Some r) = Sun r
asking None = Unknown

-- four words, each in its spelling and its range
unfoldable pub sun_command : List (List ℕ) → Command
sun_command words = asking (request_in words)

-- ---- options

-- from 1 to 16
abbrev pub few : Option ℕ → Option ℕ
few None = None
few (Some n) = if nat_le 1 n && nat_le n 16 then Some n else None

-- how many workers: 4, or what `--workers` says
unfoldable pub workers_in : Option (List ℕ) → Option ℕ
workers_in None = Some 4
workers_in (Some text) = few (number_in text)

-- the form of a covering: the second, or what `--form` says
unfoldable pub form_in : Option (List ℕ) → Option Form
form_in None = Some Runs
form_in (Some text) = if bytes_eq text (codes "1") then Some Letters else if bytes_eq text (codes "2") then Some Runs else None

-- which order is made: 1, or what `--number` says
unfoldable pub order_number_in : Option (List ℕ) → Option ℕ
order_number_in None = Some 1
order_number_in (Some text) = number_in text

abbrev pub table_of : Option ℕ → Command
table_of (Some workers) = Table workers
table_of None = Unknown

abbrev pub cover_of : Option ℕ → Option Form → Command
cover_of (Some workers) (Some form) = Cover workers form
cover_of workers form = Unknown

abbrev pub demo_of : Option ℕ → Option ℕ → Command
demo_of (Some number) (Some workers) = Demo number workers
demo_of number workers = Unknown

abbrev pub ical_of : Option ℕ → Command
ical_of (Some workers) = Ical workers
ical_of None = Unknown

abbrev pub set_of : Option ℕ → Command
set_of (Some workers) = Set workers
set_of None = Unknown

-- the text of an option, where it stands among words that `clap` takes
abbrev pub option_in : App → List (List ℕ) → List ℕ → Option (List ℕ)
option_in app words option = first_of option (matches_of app words)

-- the command where `clap` takes the words
abbrev pub taken : App → List (List ℕ) → Command → Command
taken app words command = if is_empty (fault_of app words) then command else Unknown

unfoldable pub table_command : List (List ℕ) → Command
table_command words = taken table_app words (table_of (workers_in (option_in table_app words (codes "workers"))))

unfoldable pub cover_command : List (List ℕ) → Command
cover_command words =
    taken cover_app words
    (cover_of (workers_in (option_in cover_app words (codes "workers"))) (form_in (option_in cover_app words (codes "form"))))

unfoldable pub demo_command : List (List ℕ) → Command
demo_command words =
    taken demo_app words
    (demo_of (order_number_in (option_in demo_app words (codes "number"))) (workers_in (option_in demo_app words (codes "workers"))))

unfoldable pub ical_command : List (List ℕ) → Command
ical_command words = taken ical_app words (ical_of (workers_in (option_in ical_app words (codes "workers"))))

unfoldable pub set_command : List (List ℕ) → Command
set_command words = taken set_app words (set_of (workers_in (option_in set_app words (codes "workers"))))

-- ---- all words

unfoldable pub command_of : List (List ℕ) → Command
command_of [] = Unknown
command_of (name ∷ words) =
    if bytes_eq name (codes "sun") then sun_command words
    else if bytes_eq name (codes "order") then alone words Order
    else if bytes_eq name (codes "plain") then alone words Plain
    else if bytes_eq name (codes "table") then table_command words
    else if bytes_eq name (codes "cover") then cover_command words
    else if bytes_eq name (codes "check") then alone words Check
    else if bytes_eq name (codes "demo") then demo_command words
    else if bytes_eq name (codes "ical") then ical_command words
    else if bytes_eq name (codes "agenda") then alone words Agenda
    else if bytes_eq name (codes "set") then set_command words
    else Unknown

-- what is known of a command that words ask for
abbrev pub IsCommand : Command → Type 0
IsCommand (Sun r) = IsInRange r
IsCommand (Table workers) = (1 ≤ workers) × (workers ≤ 16)
IsCommand (Cover workers form) = (1 ≤ workers) × (workers ≤ 16)
IsCommand (Demo number workers) = (1 ≤ workers) × (workers ≤ 16)
IsCommand (Ical workers) = (1 ≤ workers) × (workers ≤ 16)
IsCommand (Set workers) = (1 ≤ workers) × (workers ≤ 16)
IsCommand command = Unit {0}

-- the command where one thread does the work: those that need more are none there
abbrev pub without_workers : Command → Command
without_workers (Table workers) = Unknown
without_workers (Cover workers form) = Unknown
without_workers (Demo number workers) = Unknown
without_workers (Ical workers) = Unknown
without_workers (Set workers) = Unknown
without_workers command = command

-- The options of a command, each with one text, as `clap` reads them: a simple command without a positional word and without help.
use Rattle.std.specs.Prelude.{◌≡◌, ◌≢◌, ℕ, true, List, [], codes, Option, Some, None}
use Rattle.clap.specs.Faults.{fault_of}
use Rattle.clap.specs.Matches.{found_of}
use Rattle.clap.specs.Simple.{App, matches_of, new_app, new_rule, on_top, with_rule}
use Rattle.clap.specs.Walk.{Rule, rows_of}
use Rattle.clap.specs.declared.builder.action.ArgAction.TheVariants.{Set}
use Rattle.clap.specs.declared.parser.matches.ArgMatches.{ArgMatches}

-- a command of this name with no option so far
abbrev pub plain_app : List ℕ → App
plain_app name = on_top (λ s. record s { no_binary_name = true; disable_help_flag = true }) (new_app name)

-- the option `--name TEXT`
abbrev pub option_rule : List ℕ → Rule
option_rule name = record (new_rule name) { long = Some name; action = Some Set }

-- a command of this name with an option of this name
abbrev pub app_with_1 : List ℕ → List ℕ → App
app_with_1 name option = with_rule (plain_app name) (option_rule option)

-- with two options
abbrev pub app_with_2 : List ℕ → List ℕ → List ℕ → App
app_with_2 name first second = with_rule (app_with_1 name first) (option_rule second)

-- the commands that have options
abbrev pub table_app : App
table_app = app_with_1 (codes "table") (codes "workers")

abbrev pub cover_app : App
cover_app = app_with_2 (codes "cover") (codes "workers") (codes "form")

abbrev pub demo_app : App
demo_app = app_with_2 (codes "demo") (codes "number") (codes "workers")

abbrev pub ical_app : App
ical_app = app_with_1 (codes "ical") (codes "workers")

abbrev pub set_app : App
set_app = app_with_1 (codes "set") (codes "workers")

-- what `clap` makes of the words: none where it refuses them
abbrev pub IsReadBy : App → List (List ℕ) → Option ArgMatches → Type 0
IsReadBy app words None = fault_of app words ≢ []
IsReadBy app words (Some m) = (fault_of app words ≡ []) × (rows_of (found_of m) ≡ matches_of app words)

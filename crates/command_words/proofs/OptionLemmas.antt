-- The commands with options are simple ones to `clap`, and what is made of their texts.
use Rattle.std.proofs.Common.{◌≡◌, ℕ, true, List, Option, Some, codes, refl, subst}
use Rattle.clap.specs.Faults.{is_simple_and_free}
use Rattle.clap.specs.Matches.{found_of}
use Rattle.clap.specs.Simple.{App, is_simple}
use Rattle.clap.specs.Walk.{first_of, rows_of}
use Rattle.clap.specs.declared.parser.matches.ArgMatches.{ArgMatches}
use Rattle.clap.proofs.OnLiterals.{clap_on_literals}
use Rattle.order_covering.specs.declared.form.Form.{Form}
use Rattle.command_words.specs.Options.{IsReadBy, cover_app, demo_app, ical_app, set_app, table_app}
use Rattle.command_words.specs.Words.{cover_command, cover_of, demo_command, demo_of, form_in, order_number_in, workers_in}
use Rattle.command_words.specs.declared.command.Command.{Command}

pub table_is_simple : is_simple table_app ≡ true
unfolding clap_on_literals
table_is_simple = refl

pub table_is_free : is_simple_and_free table_app ≡ true
unfolding clap_on_literals
table_is_free = refl

pub cover_is_simple : is_simple cover_app ≡ true
unfolding clap_on_literals
cover_is_simple = refl

pub cover_is_free : is_simple_and_free cover_app ≡ true
unfolding clap_on_literals
cover_is_free = refl

pub demo_is_simple : is_simple demo_app ≡ true
unfolding clap_on_literals
demo_is_simple = refl

pub demo_is_free : is_simple_and_free demo_app ≡ true
unfolding clap_on_literals
demo_is_free = refl

pub ical_is_simple : is_simple ical_app ≡ true
unfolding clap_on_literals
ical_is_simple = refl

pub ical_is_free : is_simple_and_free ical_app ≡ true
unfolding clap_on_literals
ical_is_free = refl

pub set_is_simple : is_simple set_app ≡ true
unfolding clap_on_literals
set_is_simple = refl

pub set_is_free : is_simple_and_free set_app ≡ true
unfolding clap_on_literals
set_is_free = refl

-- what `clap` found, where the command is this one
read_by : (app other : App) (words : List (List ℕ)) (found : Option ArgMatches) (m : ArgMatches) → app ≡ other → IsReadBy app words found →
    found ≡ Some m → IsReadBy other words (Some m)
read_by app other words found m same reads some = subst (λ a. IsReadBy a words (Some m)) same (subst (IsReadBy app words) some reads)

-- the commands that two texts make which `clap` found
pub cover_read : (app : App) (words : List (List ℕ)) (found : Option ArgMatches) (m : ArgMatches) (workers : Option ℕ) (form : Option Form) (command : Command) →
    app ≡ cover_app → IsReadBy app words found → found ≡ Some m →
    workers ≡ workers_in (first_of (codes "workers") (rows_of (found_of m))) → form ≡ form_in (first_of (codes "form") (rows_of (found_of m))) →
    command ≡ cover_of workers form → command ≡ cover_command words
unfolding cover_command
cover_read app words found m workers form command same reads some are_workers is_form is =
    let read = read_by app cover_app words found m same reads some in
    rw (is, are_workers, is_form, read.1, read.0) refl

pub demo_read : (app : App) (words : List (List ℕ)) (found : Option ArgMatches) (m : ArgMatches) (number workers : Option ℕ) (command : Command) →
    app ≡ demo_app → IsReadBy app words found → found ≡ Some m →
    number ≡ order_number_in (first_of (codes "number") (rows_of (found_of m))) → workers ≡ workers_in (first_of (codes "workers") (rows_of (found_of m))) →
    command ≡ demo_of number workers → command ≡ demo_command words
unfolding demo_command
demo_read app words found m number workers command same reads some is_number are_workers is =
    let read = read_by app demo_app words found m same reads some in
    rw (is, is_number, are_workers, read.1, read.0) refl

-- What words ask for is in its range.
use Rattle.std.proofs.Common.{ℕ, Bool, true, false, cond, ◌≤◌, List, [], ◌∷◌, Option, Some, None, codes, refl, arith, ◌≡◌, ◌&&◌}
use Rattle.std.specs.Prelude.{IfSome, bytes_eq, nat_le}
use Rattle.std.proofs.lemmas.Bool.{and_parts, leb-true}
use Rattle.clap.specs.Faults.{fault_of}
use Rattle.clap.specs.Simple.{App}
use Rattle.order_covering.specs.declared.form.Form.{Form}
use Rattle.clap.specs.Walk.{is_empty}
use Rattle.sun_verdict.specs.Request.{IsInRange, request_in}
use Rattle.sun_verdict.specs.declared.request.Request.{Request}
use Rattle.sun_verdict.proofs.RangeLemmas.{requests_are_in_range}
use Rattle.command_words.specs.Numbers.{number_in}
use Rattle.command_words.specs.Options.{cover_app, demo_app, ical_app, set_app, table_app}
use Rattle.command_words.specs.Words.{IsCommand, alone, asking, command_of, cover_command, cover_of, demo_command, demo_of, few, form_in, ical_command, ical_of, option_in, order_number_in, set_command, set_of, sun_command, table_command, table_of, taken, workers_in}
use Rattle.command_words.specs.declared.command.Command.{Command}
use Rattle.command_words.specs.declared.command.Command.TheVariants.{Unknown, Sun, Order, Plain, Table, Check, Agenda}

either : (test : Bool) (x y : Command) → IsCommand x → IsCommand y → IsCommand (cond test x y)
either true x y h k = h
either false x y h k = k

of_request : (o : Option Request) → IfSome o IsInRange → IsCommand (asking o)
of_request None h = tt
of_request (Some r) h = h

without_words : (words : List (List ℕ)) (command : Command) → IsCommand command → IsCommand (alone words command)
without_words [] command h = h
without_words (word ∷ words) command h = tt

few_of : (o : Option ℕ) → IsCommand (table_of (few o))
few_of None = tt
few_of (Some n) = by (nat_le 1 n && nat_le n 16) refl where
  by : (test : Bool) → (nat_le 1 n && nat_le n 16) ≡ test → IsCommand (table_of (cond test (Some n) None))
  by true within = let parts = and_parts (nat_le 1 n) (nat_le n 16) within in (leb-true 1 n parts.0, leb-true n 16 parts.1)
  by false beyond = tt

by_workers : (text : Option (List ℕ)) → IsCommand (table_of (workers_in text))
unfolding workers_in
by_workers None = (omega arith, omega arith)
by_workers (Some text) = few_of (number_in text)

cover_by : (o : Option ℕ) (form : Option Form) → IsCommand (table_of o) → IsCommand (cover_of o form)
cover_by None form h = tt
cover_by (Some workers) None h = tt
cover_by (Some workers) (Some form) h = h

demo_by : (number o : Option ℕ) → IsCommand (table_of o) → IsCommand (demo_of number o)
demo_by None o h = tt
demo_by (Some number) None h = tt
demo_by (Some number) (Some workers) h = h

ical_by : (o : Option ℕ) → IsCommand (table_of o) → IsCommand (ical_of o)
ical_by None h = tt
ical_by (Some workers) h = h

set_by : (o : Option ℕ) → IsCommand (table_of o) → IsCommand (set_of o)
set_by None h = tt
set_by (Some workers) h = h

taken_by : (app : App) (words : List (List ℕ)) (command : Command) → IsCommand command → IsCommand (taken app words command)
taken_by app words command h = either (is_empty (fault_of app words)) command Unknown h tt

table_in : (words : List (List ℕ)) → IsCommand (table_command words)
unfolding table_command
table_in words = taken_by table_app words _ (by_workers (option_in table_app words (codes "workers")))

cover_in : (words : List (List ℕ)) → IsCommand (cover_command words)
unfolding cover_command
cover_in words =
    taken_by cover_app words _ (cover_by _ (form_in (option_in cover_app words (codes "form"))) (by_workers (option_in cover_app words (codes "workers"))))

demo_in : (words : List (List ℕ)) → IsCommand (demo_command words)
unfolding demo_command
demo_in words =
    taken_by demo_app words _ (demo_by (order_number_in (option_in demo_app words (codes "number"))) _ (by_workers (option_in demo_app words (codes "workers"))))

ical_in : (words : List (List ℕ)) → IsCommand (ical_command words)
unfolding ical_command
ical_in words = taken_by ical_app words _ (ical_by _ (by_workers (option_in ical_app words (codes "workers"))))

set_in : (words : List (List ℕ)) → IsCommand (set_command words)
unfolding set_command
set_in words = taken_by set_app words _ (set_by _ (by_workers (option_in set_app words (codes "workers"))))

sun_in : (words : List (List ℕ)) → IsCommand (sun_command words)
unfolding sun_command
sun_in words = of_request (request_in words) (requests_are_in_range words)

pub commands_are_in_range : (words : List (List ℕ)) → IsCommand (command_of words)
unfolding command_of
commands_are_in_range [] = tt
commands_are_in_range (name ∷ words) =
    let is : List ℕ → Bool = bytes_eq name in
    let set = cond (is (codes "set")) (set_command words) Unknown in
    let agenda = cond (is (codes "agenda")) (alone words Agenda) set in
    let ical = cond (is (codes "ical")) (ical_command words) agenda in
    let demo = cond (is (codes "demo")) (demo_command words) ical in
    let check = cond (is (codes "check")) (alone words Check) demo in
    let cover = cond (is (codes "cover")) (cover_command words) check in
    let table = cond (is (codes "table")) (table_command words) cover in
    let plain = cond (is (codes "plain")) (alone words Plain) table in
    let order = cond (is (codes "order")) (alone words Order) plain in
    either (is (codes "sun")) (sun_command words) order (sun_in words)
    (either (is (codes "order")) (alone words Order) plain (without_words words Order tt)
    (either (is (codes "plain")) (alone words Plain) table (without_words words Plain tt)
    (either (is (codes "table")) (table_command words) cover (table_in words)
    (either (is (codes "cover")) (cover_command words) check (cover_in words)
    (either (is (codes "check")) (alone words Check) demo (without_words words Check tt)
    (either (is (codes "demo")) (demo_command words) ical (demo_in words)
    (either (is (codes "ical")) (ical_command words) agenda (ical_in words)
    (either (is (codes "agenda")) (alone words Agenda) set (without_words words Agenda tt)
    (either (is (codes "set")) (set_command words) Unknown (set_in words) tt)))))))))

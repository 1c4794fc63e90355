-- What the words of examples ask for, and what the laws say of them.
use Rattle.std.proofs.Common.{◌≡◌, ℕ, ◌<◌, ◌≤◌, ◌⊎◌, List, [], ◌∷◌, Ok, arith, codes, inl, inr, length, refl, subst}
use Rattle.std.specs.Prelude.{pos}
use Rattle.command_input.specs.Input.{IsSpelled, a_calendar, an_order, calendar, limit_of, order, read, too_long, unread}
use Rattle.order_table.specs.RightTable.{IsRightTable}
use Rattle.order_table.specs.Trees.{table_of}
use Rattle.order_text.specs.Line.{order_line}
use Rattle.outcome.specs.Streams.{Streams}
use Rattle.outcome.specs.declared.status.Status.{Status}
use Rattle.outcome.specs.declared.status.Status.TheVariants.{Done, OrderRefused, NoMemory, IcalRefused}
use Rattle.outcome.specs.declared.status.Status.TheVariants.{Open as StatusOpen}
use Rattle.source_sink.specs.Outside.{Adds}
use Rattle.method_table.specs.declared.sun.SunChoice.TheVariants.{Usno}
use Rattle.digit_text.specs.Digits.{digits_in}
use Rattle.sun_verdict.specs.Decimals.{millionths_in}
use Rattle.sun_verdict.specs.Request.{angle_in, asked_of, coordinate_in, minute_in, question_in, request_in}
use Rattle.sun_verdict.specs.declared.request.Question.TheVariants.{Altitude}
use Rattle.sun_verdict.specs.declared.request.Request.{Request}
use Rattle.timetable.proofs.LawLemmas.{tables_are_right}
use Rattle.timetable.proofs.OrderExample.{first_order_is_read}
use Rattle.timetable.specs.Examples.{first_asked, first_order}
use Rattle.timetable.specs.Memory.{KeepsTheLaws}
use Rattle.command_words.specs.Words.{command_of, sun_command, without_workers}
use Rattle.command_words.specs.declared.command.Command.{Command}
use Rattle.command_words.specs.declared.command.Command.TheVariants.{Unknown, Sun, Order, Plain, Agenda}

pub no_words_are_wrong : (words : List (List ℕ)) → words ≡ [] → without_workers (command_of words) ≡ Unknown
unfolding command_of
no_words_are_wrong words is = rw is refl

pub order_alone : (word : List ℕ) → word ≡ codes "order" → without_workers (command_of (word ∷ [])) ≡ Order
unfolding command_of
order_alone word is = rw is refl

pub plain_alone : (word : List ℕ) → word ≡ codes "plain" → without_workers (command_of (word ∷ [])) ≡ Plain
unfolding command_of
plain_alone word is = rw is refl

pub agenda_alone : (word : List ℕ) → word ≡ codes "agenda" → without_workers (command_of (word ∷ [])) ≡ Agenda
unfolding command_of
agenda_alone word is = rw is refl

pub first_request : Request
first_request = record { minute = pos 0; lon = pos 0; lat = pos 0; question = Altitude (pos 0); sun = Usno }

pub sun_with_four : (name minute lon lat what : List ℕ) → name ≡ codes "sun" → minute ≡ codes "0" → lon ≡ codes "0" → lat ≡ codes "0" →
    what ≡ codes "0" → without_workers (command_of (name ∷ minute ∷ lon ∷ lat ∷ what ∷ [])) ≡ Sun first_request
unfolding command_of sun_command request_in asked_of minute_in coordinate_in question_in angle_in millionths_in digits_in first_request
sun_with_four name minute lon lat what is_name is_minute is_lon is_lat is_what = rw (is_name, is_minute, is_lon, is_lat, is_what) refl

module _ (command : Command) (bytes : List ℕ) (status : Status) (before after : Streams) (keeps : KeepsTheLaws command bytes status before after) where
  pub long_is_refused : command ≡ Order → limit_of an_order < length bytes → (status ≡ OrderRefused) ⊎ (status ≡ NoMemory)
  long_is_refused is long =
      let k = subst (λ (it : Command). KeepsTheLaws it bytes status before after) is keeps in
      k.wrong_order tt (order too_long) long tt

  pub long_is_no_calendar : command ≡ Agenda → limit_of a_calendar < length bytes → (status ≡ IcalRefused) ⊎ (status ≡ NoMemory)
  long_is_no_calendar is long =
      let k = subst (λ (it : Command). KeepsTheLaws it bytes status before after) is keeps in
      k.wrong_calendar refl (calendar too_long) long tt

  pub sun_is_answered : (r : Request) → command ≡ Sun r → (status ≡ Done) ⊎ (status ≡ StatusOpen) ⊎ (status ≡ NoMemory)
  sun_is_answered r is =
      let k = subst (λ (it : Command). KeepsTheLaws it bytes status before after) is keeps in
      k.answered (λ same. cc) unread tt (λ reads. absurd reads) (λ reads. absurd cc) (λ reads. absurd cc)

-- ---- of the examples' order

first_input : IsSpelled an_order first_order (order (read (Ok first_asked)))
unfolding first_order
first_input = (omega arith, first_order_is_read)

pub first_is_right : IsRightTable first_asked
first_is_right = tables_are_right first_order first_asked first_order_is_read

module _ (command : Command) (bytes : List ℕ) (status : Status) (before after : Streams) (keeps : KeepsTheLaws command bytes status before after)
    (told : bytes ≡ first_order) where
  keeps_of : (which : Command) → command ≡ which → KeepsTheLaws which first_order status before after
  keeps_of which is =
      subst (λ (it : Command). KeepsTheLaws it first_order status before after) is
      (subst (λ (bs : List ℕ). KeepsTheLaws command bs status before after) told keeps)

  pub line_is_written : command ≡ Order → status ≡ Done → Adds before.out.bytes after.out.bytes (order_line first_asked)
  line_is_written is done = ((keeps_of Order is).finished (inl done) (order (read (Ok first_asked))) first_input).written

  pub line_is_done : command ≡ Order → (status ≡ Done) ⊎ (status ≡ NoMemory)
  line_is_done is =
      let k = keeps_of Order is in
      elim (k.answered (λ same. cc) (order (read (Ok first_asked))) first_input (λ reads. tt) (λ reads. absurd cc) (λ reads. absurd cc)) [
        | inl done ↦ inl done
        | inr more ↦ elim more [
          | inl undecided ↦
              absurd ((k.finished (inr undecided) (order (read (Ok first_asked))) first_input).undecided undecided refl)
          | inr dry ↦ inr dry
        ]
      ]

  pub table_is_written : command ≡ Plain → (status ≡ Done) ⊎ (status ≡ StatusOpen) → Adds before.out.bytes after.out.bytes (table_of first_asked)
  table_is_written is finished = ((keeps_of Plain is).finished finished (order (read (Ok first_asked))) first_input).written

  pub table_is_answered : command ≡ Plain → (status ≡ Done) ⊎ (status ≡ StatusOpen) ⊎ (status ≡ NoMemory)
  table_is_answered is =
      (keeps_of Plain is).answered (λ same. cc) (order (read (Ok first_asked))) first_input (λ reads. tt) (λ reads. absurd cc) (λ reads. absurd cc)

-- How a run answers what it read.
use Rattle.std.proofs.Common.{◌≡◌, ◌⊎◌, ℕ, Global, List, Ok, Err, Result, inl, inr, refl, sym, subst}
use Rattle.std.specs.Prelude.{◌≢◌, String, string_bytes}
use Rattle.command_input.specs.Answers.{Answers, IsTaken, IsTooLong, Leaves, answer_by, answer_listed, answer_shown, answer_together}
use Rattle.command_input.specs.Input.{Given, Input, Wanted, a_calendar, a_covering, a_set, an_order, calendar, covering, limit_of, nothing, order, read, set, too_long, unread}
use Rattle.command_input.specs.Taken.{IsCalendarReadAs, IsCoveringReadAs, IsReadAs, IsSetReadAs, IsTakenAs, ReadCase, Refusing, covered_of, of_calendars, of_coverings, of_orders}
use Rattle.command_input.specs.declared.covering.Covering.{Covering}
use Rattle.command_input.proofs.InputLemmas.{told_by}
use Rattle.ical_text.specs.declared.event.Event.{Event}
use Rattle.order_rule.specs.Asked.{Asked, asked_of}
use Rattle.order_rule.specs.declared.order.Order.{Order}
use Rattle.outcome.proofs.Endings.{given_up, refused}
use Rattle.outcome.proofs.Endings.{unread as read_failed}
use Rattle.outcome.proofs.Streams.{adds_nothing}
use Rattle.outcome.specs.Answer.{Answer, line_of, refusal}
use Rattle.outcome.specs.Endings.{EndsBy, IsRefusedBy, status_of_ending}
use Rattle.outcome.specs.Ends.{EndsAs}
use Rattle.outcome.specs.Streams.{Stream}
use Rattle.outcome.specs.declared.ending.Ending.{Ending}
use Rattle.outcome.specs.declared.ending.Ending.TheVariants.{Plain, Refused}
use Rattle.outcome.specs.declared.status.Status.{Status}
use Rattle.outcome.specs.declared.status.Status.TheVariants.{CoverRefused, IcalRefused, NoMemory, OrderRefused, ReadFault}
use Rattle.set_reader.specs.Asked as set_asked
use Rattle.set_reader.specs.declared.set.SetOrder.{SetOrder}
use Rattle.source_sink.specs.Outside.{Rose}
use Rattle.source_sink.specs.Reading.{IsReadToEnd}

-- a run that read nothing
pub answers_unread : (answer : Input → Answer) (ending : Ending) (source out out' : Stream) →
    EndsBy (answer unread) ending source source out out' → status_of_ending ending ≢ ReadFault →
    Answers nothing answer ending source source out out'
answers_unread answer ending source out out' ends no_read =
    let (bytes, told) = told_by source.bytes in
    record {
      input = unread;
      spelled = record { bytes = bytes; told = told; spelled = tt };
      ends = ends;
      leaves = (refl, no_read);
    }

-- ---- an input of one kind

-- what is taken of the source is what a run by such an input leaves of it
abbrev IsTakenWhole : Wanted → Type 0
IsTakenWhole wanted = (input : Input) (status : Status) (source source' : Stream) →
    IsTaken (limit_of wanted) input status source source' → Leaves wanted input status source source'

-- the answer to what is none is its refusal
record IsRefusedAs {A F : Type 0} (input : Given (Result A F) → Input) (how : Refusing F) (answer : Input → Answer) : Type 0 where
  long : answer (input too_long) ≡ refusal how.status how.long
  is_long : IsTooLong (input too_long)
  fault : (e : F) → answer (input (read (Err e))) ≡ refusal how.status (how.line e)
  ends : (line : List ℕ) (ending : Ending) (source source' out : Stream) → IsRefusedBy how.status line ending →
      EndsBy (refusal how.status line) ending source source' out out

module _ {X A F : Type 0} (wanted : Wanted) (input : Given (Result A F) → Input) (how : Refusing F) (view : X → A) (answer : Input → Answer)
    (whole : IsTakenWhole wanted) where
  -- that was read
  answers_read : (x : X) (ending : Ending) (source source' out out' : Stream) → IsTakenAs wanted input how view source source' (Ok x) →
      EndsBy (answer (input (read (Ok (view x))))) ending source source' out out' → Answers wanted answer ending source source' out out'
  answers_read x ending source source' out out' is ends = record {
    input = input is.given;
    spelled = is.spelled;
    ends = subst (λ (g : Given (Result A F)). EndsBy (answer (input g)) ending source source' out out') (sym is.case.0) ends;
    leaves = whole (input is.given) (status_of_ending ending) source source'
        (record { within = is.within; whole = λ no_read memory short. is.case.1; later = is.later });
  }

  -- that was not read
  answers_unfit : (ending : Ending) (source source' out : Stream) → IsRefusedAs input how answer →
      IsTakenAs wanted input how view source source' (Err ending) → Answers wanted answer ending source source' out out
  answers_unfit (Plain status) source source' out refused is = by is.case where
    by : (status ≡ NoMemory) ⊎ ((status ≡ ReadFault) × Rose source.faults source'.faults) →
        Answers wanted answer (Plain status) source source' out out
    by (inl memory) = record {
      input = input is.given;
      spelled = is.spelled;
      ends = subst (λ (s : Status). EndsBy (answer (input is.given)) (Plain s) source source' out out) (sym memory)
          (given_up (answer (input is.given)) source source' out);
      leaves = whole (input is.given) status source source'
          (record { within = is.within; whole = λ no_read no_memory short. absurd (no_memory memory); later = is.later });
    }
    by (inr (read_fault, rose)) = record {
      input = input is.given;
      spelled = is.spelled;
      ends = subst (λ (s : Status). EndsBy (answer (input is.given)) (Plain s) source source' out out) (sym read_fault)
          (read_failed (answer (input is.given)) source source' out rose);
      leaves = whole (input is.given) status source source'
          (record { within = is.within; whole = λ no_read no_memory short. absurd (no_read read_fault); later = is.later });
    }
  answers_unfit (Refused status line) source source' out refused is =
      let (ends, all) = by is.given is.case in
      record {
        input = input is.given;
        spelled = is.spelled;
        ends = ends;
        leaves = whole (input is.given) status source source'
            (record { within = is.within; whole = λ no_read no_memory. all; later = is.later });
      }
    where
      by : (g : Given (Result A F)) → ReadCase how view g (Err (Refused status line)) source source' →
          EndsBy (answer (input g)) (Refused status line) source source' out out ×
          ((IsTooLong (input g) → ⊥) → IsReadToEnd source.bytes source'.bytes)
      by too_long (is_status, is_line) = (
        subst (λ (a : Answer). EndsBy a (Refused status line) source source' out out) (sym refused.long)
            (refused.ends how.long (Refused status line) source source' out (is_status, is_line)),
        λ short. absurd (short refused.is_long),
      )
      by (read (Err fault)) (is_status, is_line, all) = (
        subst (λ (a : Answer). EndsBy a (Refused status line) source source' out out) (sym (refused.fault fault))
            (refused.ends (how.line fault) (Refused status line) source source' out (is_status, is_line)),
        λ short. all,
      )
      by (read (Ok a)) case = absurd case

-- ---- an order

-- that was read
pub answers_order : (f : Asked → Answer) (o : Order) (ending : Ending) (source source' out out' : Stream) →
    IsReadAs source source' (Ok o) → EndsBy (f (asked_of o)) ending source source' out out' →
    Answers an_order (answer_by f) ending source source' out out'
answers_order f = answers_read an_order order of_orders asked_of (answer_by f) (λ input status source source' taken. taken)

-- an input that was not read as an order
pub answers_refused : (f : Asked → Answer) (ending : Ending) (source source' out : Stream) → IsReadAs source source' (Err ending) →
    Answers an_order (answer_by f) ending source source' out out
answers_refused f ending source source' out =
    answers_unfit {X = Order} an_order order of_orders asked_of (answer_by f) (λ input status source source' taken. taken) ending source source' out
    (record { long = refl; is_long = tt; fault = λ e. refl; ends = refused OrderRefused tt })

-- ---- a covering

-- that was read
pub answers_covering : (f : Asked → List ℕ → Answer) (c : Covering) (ending : Ending) (source source' out out' : Stream) →
    IsCoveringReadAs source source' (Ok c) → EndsBy (f (covered_of c).order (covered_of c).lines) ending source source' out out' →
    Answers a_covering (answer_shown f) ending source source' out out'
answers_covering f = answers_read a_covering covering of_coverings covered_of (answer_shown f) (λ input status source source' taken. taken)

-- an input that was not read as a covering
pub answers_no_covering : (f : Asked → List ℕ → Answer) (ending : Ending) (source source' out : Stream) → IsCoveringReadAs source source' (Err ending) →
    Answers a_covering (answer_shown f) ending source source' out out
answers_no_covering f ending source source' out =
    answers_unfit {X = Covering} a_covering covering of_coverings covered_of (answer_shown f) (λ input status source source' taken. taken) ending source source' out
    (record { long = refl; is_long = tt; fault = λ e. refl; ends = refused CoverRefused tt })

-- ---- a calendar

-- that was read
pub answers_calendar : (f : List Event → Answer) (events : List Event) (ending : Ending) (source source' out out' : Stream) →
    IsCalendarReadAs source source' (Ok events) → EndsBy (f events) ending source source' out out' →
    Answers a_calendar (answer_listed f) ending source source' out out'
answers_calendar f = answers_read a_calendar calendar of_calendars (λ events. events) (answer_listed f) (λ input status source source' taken. taken)

-- an input that was not read as a calendar
pub answers_no_calendar : (f : List Event → Answer) (ending : Ending) (source source' out : Stream) → IsCalendarReadAs source source' (Err ending) →
    Answers a_calendar (answer_listed f) ending source source' out out
answers_no_calendar f ending source source' out =
    answers_unfit {X = List Event} a_calendar calendar of_calendars (λ events. events) (answer_listed f) (λ input status source source' taken. taken) ending source source' out
    (record { long = refl; is_long = tt; fault = λ e. refl; ends = refused IcalRefused tt })

-- ---- a set of districts

-- that was read
pub answers_set : (f : set_asked.SetAsked → Answer) (s : SetOrder) (ending : Ending) (source source' out out' : Stream) →
    IsSetReadAs source source' (Ok s) → EndsBy (f (set_asked.asked_of s)) ending source source' out out' →
    Answers a_set (answer_together f) ending source source' out out'
answers_set f = answers_read a_set set of_orders set_asked.asked_of (answer_together f) (λ input status source source' taken. taken)

-- an input that was not read as a set
pub answers_no_set : (f : set_asked.SetAsked → Answer) (ending : Ending) (source source' out : Stream) → IsSetReadAs source source' (Err ending) →
    Answers a_set (answer_together f) ending source source' out out
answers_no_set f ending source source' out =
    answers_unfit {X = SetOrder} a_set set of_orders set_asked.asked_of (answer_together f) (λ input status source source' taken. taken) ending source source' out
    (record { long = refl; is_long = tt; fault = λ e. refl; ends = refused OrderRefused tt })

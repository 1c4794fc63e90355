-- How the answer to the words and the input is made.
use Rattle.std.proofs.Common.{◌≡◌, ◌⊎◌, inl, inr, ℕ, Global, List, [], ◌∷◌, length, map, true, false, Ok, Err, Result, refl, sym, subst, ◌∙◌, arith}
use Rattle.std.specs.Prelude.{◌≢◌, ◌<◌, ◌==◌, String, IfOk}
use Rattle.std.proofs.lemmas.Bool.{eqb-true, false≢true}
use Rattle.command_input.specs.Input.{read, too_long}
use Rattle.command_input.specs.Taken.{ReadCase}
use Rattle.outcome.proofs.Endings.{given_up, refused, text_ending}
use Rattle.outcome.proofs.Endings.{unread as read_failed}
use Rattle.outcome.proofs.Streams.{adds_nothing}
use Rattle.outcome.specs.Answer.{line_of, refusal}
use Rattle.outcome.specs.Endings.{EndsBy, IsRefusedBy, ending_of, line_of_ending, status_of_ending}
use Rattle.outcome.specs.Ends.{EndsAs, Reports}
use Rattle.outcome.specs.Streams.{Stream, Streams}
use Rattle.outcome.specs.Writing.{Writes}
use Rattle.outcome.specs.declared.ending.Ending.{Ending}
use Rattle.outcome.specs.declared.ending.Ending.TheVariants.{Plain, Refused}
use Rattle.outcome.specs.declared.status.Status.{Status}
use Rattle.outcome.specs.declared.status.Status.TheVariants.{NoMemory, OrderRefused, ReadFault, Usage}
use Rattle.outcome.specs.declared.stop.Stop.{Stop}
use Rattle.source_sink.specs.Outside.{Rose}
use Rattle.source_sink.specs.Reading.{IsReadToEnd}
use Rattle.border_input.proofs.TakenLemmas.{some_by}
use Rattle.border_input.specs.Requests.{requested_of}
use Rattle.border_input.specs.Taken.{Input, IsRequestTaken, of_requests}
use Rattle.border_input.specs.declared.request.Request.{Request}
use Rattle.border_answer.specs.Answer.{answer_by, usage_line}
use Rattle.border_answer.specs.Ended.{Answers, Ended, IsSound, IsSoundInput, IsVerdict}
use Rattle.border_answer.specs.Verdict.{found_for, named_by, verdict_text}

record NoVerdict (status : Status) : Type 0 where
  not_read : status ≢ ReadFault
  none : IsVerdict status → ⊥

no_verdict : (line : List ℕ) (ending : Ending) → IsRefusedBy Usage line ending → NoVerdict (status_of_ending ending)
no_verdict line (Plain status) is = rw is (record { not_read = λ same. cc; none = λ v. elim v [ inl e ↦ cc | inr e ↦ cc ] })
no_verdict line (Refused status text) is = rw is.0 (record { not_read = λ same. cc; none = λ v. elim v [ inl e ↦ cc | inr e ↦ cc ] })

-- words are refused
pub answers_words : (words : List (List ℕ)) (ending : Ending) (source out : Stream) → 0 < length words →
    IsRefusedBy Usage usage_line ending → Answers words ending source source out out
answers_words [] ending source out some is = absurd (omega (arith, some))
answers_words (word ∷ words) ending source out some is =
    let (g, spelled) = some_by source.bytes in
    let n = no_verdict usage_line ending is in
    record {
      input = g;
      spelled = spelled;
      sound = λ v. absurd (n.none v);
      ends = refused Usage tt usage_line ending source source out is;
      leaves = (refl, n.not_read);
    }

-- an order and a border that were read
pub answers_read : (words : List (List ℕ)) (x : Request) (w : Result ℕ Stop) (ending : Ending) (source source' out out' : Stream) → words ≡ [] →
    IsRequestTaken source source' (Ok x) → IsSound (requested_of x) →
    Writes {X = ℕ} (verdict_text (found_for (requested_of x))) w out.faults out'.faults out.bytes out'.bytes →
    IfOk w (λ count. count ≡ named_by (found_for (requested_of x))) → ending ≡ ending_of w →
    Answers words ending source source' out out'
answers_read words x w ending source source' out out' none is sound writes count same =
    let r = requested_of x in
    rw (none, same) (record {
      input = is.given;
      spelled = is.spelled;
      sound = λ v. subst IsSoundInput (sym is.case.0) sound;
      ends = subst (λ (g : Input). EndsBy (answer_by g) (ending_of w) source source' out out') (sym is.case.0)
          (text_ending (verdict_text (found_for r)) (named_by (found_for r)) w source source' out out' writes count);
      leaves = record { within = is.within; whole = λ no_read memory short. is.case.1; later = is.later };
    })

plain : (given : Input) (status : Status) (source source' : Stream) → (status ≡ NoMemory) ⊎ ((status ≡ ReadFault) × Rose source.faults source'.faults)
    → IsVerdict status → IsSoundInput given
plain given status source source' (inl memory) (inl v) = absurd (let e = sym memory ∙ v in cc)
plain given status source source' (inl memory) (inr v) = absurd (let e = sym memory ∙ v in cc)
plain given status source source' (inr fault) (inl v) = absurd (let e = sym fault.0 ∙ v in cc)
plain given status source source' (inr fault) (inr v) = absurd (let e = sym fault.0 ∙ v in cc)

plain_ends : (given : Input) (status : Status) (source source' out : Stream) → (status ≡ NoMemory) ⊎ ((status ≡ ReadFault) × Rose source.faults source'.faults)
    → EndsBy (answer_by given) (Plain status) source source' out out
plain_ends given status source source' out (inl memory) =
    subst (λ (s : Status). EndsBy (answer_by given) (Plain s) source source' out out) (sym memory) (given_up (answer_by given) source source' out)
plain_ends given status source source' out (inr fault) =
    subst (λ (s : Status). EndsBy (answer_by given) (Plain s) source source' out out) (sym fault.0) (read_failed (answer_by given) source source' out fault.1)

plain_whole : (status : Status) (source source' : Stream) → (status ≡ NoMemory) ⊎ ((status ≡ ReadFault) × Rose source.faults source'.faults)
    → status ≢ ReadFault → status ≢ NoMemory → IsReadToEnd source.bytes source'.bytes
plain_whole status source source' (inl memory) no_read no_memory = absurd (no_memory memory)
plain_whole status source source' (inr fault) no_read no_memory = absurd (no_read fault.0)

record Unfit (given : Input) (ending : Ending) (source source' out : Stream) : Type 0 where
  ends : EndsBy (answer_by given) ending source source' out out
  whole : given ≢ too_long → IsReadToEnd source.bytes source'.bytes
  sound : IsVerdict (status_of_ending ending) → IsSoundInput given

no_refused_verdict : (status : Status) → status ≡ OrderRefused → IsVerdict status → ⊥
no_refused_verdict status is (inl v) = let e = sym is ∙ v in cc
no_refused_verdict status is (inr v) = let e = sym is ∙ v in cc

refused_input : (given : Input) (status : Status) (line : String Global) (source source' out : Stream)
    → ReadCase of_requests requested_of given (Err (Refused status line)) source source' → Unfit given (Refused status line) source source' out
refused_input too_long status line source source' out case = record {
  ends = refused OrderRefused tt of_requests.long (Refused status line) source source' out case;
  whole = λ short. absurd (short refl);
  sound = λ v. absurd (no_refused_verdict status case.0 v);
}
refused_input (read (Err fault)) status line source source' out case = record {
  ends = refused OrderRefused tt (of_requests.line fault) (Refused status line) source source' out (case.0, case.1);
  whole = λ short. case.2;
  sound = λ v. absurd (no_refused_verdict status case.0 v);
}
refused_input (read (Ok r)) status line source source' out case = absurd case

-- what was not read
unfit : (ending : Ending) (source source' out : Stream) → IsRequestTaken source source' (Err ending) → Answers [] ending source source' out out
unfit (Plain status) source source' out is = record {
  input = is.given;
  spelled = is.spelled;
  sound = plain is.given status source source' is.case;
  ends = plain_ends is.given status source source' out is.case;
  leaves = record { within = is.within; whole = λ no_read memory short. plain_whole status source source' is.case no_read memory; later = is.later };
}
unfit (Refused status line) source source' out is =
    let u = refused_input is.given status line source source' out is.case in
    record {
      input = is.given;
      spelled = is.spelled;
      sound = u.sound;
      ends = u.ends;
      leaves = record { within = is.within; whole = λ no_read memory short. u.whole short; later = is.later };
    }

pub answers_unfit : (words : List (List ℕ)) (ending : Ending) (source source' out : Stream) → words ≡ [] →
    IsRequestTaken source source' (Err ending) → Answers words ending source source' out out
answers_unfit words ending source source' out none is = rw none (unfit ending source source' out is)

-- what was answered, with the line that was reported
pub ended_by : (words : List (List ℕ)) (ending : Ending) (status : Status) (line : List ℕ) (before after : Streams) →
    Answers words ending before.source after.source before.out after.out → status ≡ status_of_ending ending →
    line ≡ line_of_ending ending → Reports line before.err after.err → Ended words status before after
ended_by words ending status line before after answers is_status is_line reports = rw is_status (record {
  input = answers.input;
  spelled = answers.spelled;
  ends = answers.ends.ends;
  reports = rw (← answers.ends.line, ← is_line) reports;
  sound = answers.sound;
  leaves = answers.leaves;
})

-- ---- whether there are words

pub no_words : {X Y : Type 0} (f : X → Y) (words : List X) → (length words == 0) ≡ true → map f words ≡ []
no_words f [] none = refl
no_words f (word ∷ words) none = absurd (let e : length (word ∷ words) ≡ 0 = eqb-true (length (word ∷ words)) 0 none in omega (arith, e))

pub some_words : {X Y : Type 0} (f : X → Y) (words : List X) → (length words == 0) ≡ false → 0 < length (map f words)
some_words f [] some = absurd (false≢true (sym some))
some_words f (word ∷ words) some = omega arith

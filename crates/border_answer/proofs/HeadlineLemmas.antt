-- A run that ends with a verdict printed a true one.
use Rattle.std.proofs.Common.{◌≡◌, inl, inr, ℕ, List, [], ◌∷◌, Option, Some, None, Ok, Err, refl, sym, subst, ◌∙◌}
use Rattle.std.specs.Prelude.{◌≢◌}
use Rattle.ring_survey.specs.Polygons.{Polygon}
use Rattle.border_check.specs.Squares.{root}
use Rattle.border_check.specs.declared.squares.Square.{Square}
use Rattle.border_check.proofs.Drawing.{drawn, district_drawn}
use Rattle.border_check.proofs.Trees.{unsettled_is_open}
use Rattle.border_input.specs.Requests.{Requested}
use Rattle.border_input.specs.Taken.{Input, IsSpelledBy}
use Rattle.border_laws.proofs.HeldLemmas.{held_safe, held_within}
use Rattle.border_laws.specs.Held.{IsHeld}
use Rattle.command_input.specs.Input.{read, too_long}
use Rattle.outcome.specs.Answer.{Answer, status_of_count}
use Rattle.outcome.specs.Ends.{EndsAs}
use Rattle.outcome.specs.Streams.{Stream, Streams}
use Rattle.outcome.specs.declared.status.Status.{Status}
use Rattle.outcome.specs.declared.status.Status.TheVariants.{Done, Open, NoMemory, OrderRefused, ReadFault, Usage}
use Rattle.source_sink.specs.Outside.{Adds}
use Rattle.border_answer.specs.Answer.{answer_to}
use Rattle.border_answer.specs.Ended.{Ended, IsSound, IsSoundInput, IsVerdict}
use Rattle.border_answer.specs.Headline.{Headline, Holds, IsNotShown, PrintedATrueVerdict}
use Rattle.border_answer.specs.Verdict.{found_for, named_by}

-- a verdict is an answer's whole text
record Whole (a : Answer) (status : Status) (out out' : Stream) : Type 0 where
  is : status ≡ a.status
  added : Adds out.bytes out'.bytes a.text

whole : (a : Answer) (status : Status) (source source' out out' : Stream) → IsVerdict status → EndsAs a status source source' out out' → Whole a status out out'
unfolding EndsAs
whole a status source source' out out' (inl done) ends =
    subst (λ (s : Status). Whole a s out out') (sym done)
    (let e = subst (λ (s : Status). EndsAs a s source source' out out') done ends in record { is = e.0; added = e.1 })
whole a status source source' out out' (inr undecided) ends =
    subst (λ (s : Status). Whole a s out out') (sym undecided)
    (let e = subst (λ (s : Status). EndsAs a s source source' out out') undecided ends in record { is = e.0; added = e.1 })

no_refusal : (status : Status) → IsVerdict status → status ≡ OrderRefused → ⊥
no_refusal status (inl v) is = let e = sym v ∙ is in cc
no_refusal status (inr v) is = let e = sym v ∙ is in cc

not_a_fault : (status : Status) → IsVerdict status → (status ≢ ReadFault) × (status ≢ NoMemory)
not_a_fault status (inl v) = (λ is. let e = sym v ∙ is in cc, λ is. let e = sym v ∙ is in cc)
not_a_fault status (inr v) = (λ is. let e = sym v ∙ is in cc, λ is. let e = sym v ∙ is in cc)

holds : (r : Requested) → IsSound r → found_for r ≡ None → Holds r
holds r sound none =
    let held : IsHeld r.border r.order.district = record { border_sound = sound.border; district_sound = sound.district; settled = none } in
    record {
      within = held_within r.border r.order.district held;
      safe = λ s same cells e right.
          held_safe s r.border cells e (subst (λ (ps : List Polygon). IsHeld r.border ps) (sym same) held) right;
    }

not_shown : (r : Requested) (s : Square) → IsSound r → found_for r ≡ Some s → IsNotShown r
not_shown r s sound some =
    let o = unsettled_is_open r.border r.order.district root s (drawn r.border sound.border).closed
    (district_drawn r.order.district sound.district).closed some in
    record { square = s; named = some; smallest = o.0; is_open = o.1 }

count_is : (found : Option Square) (status : Status) → status ≡ status_of_count (named_by found)
    → (status ≡ Done → found ≡ None) × (status ≡ Open → (s : Square) × (found ≡ Some s))
count_is None status is = (λ done. refl, λ left. absurd (let e = sym left ∙ is in cc))
count_is (Some s) status is = (λ done. absurd (let e = sym done ∙ is in cc), λ left. (s, refl))

-- a run with a verdict read an order and a border, and printed what is so of them
by_input : (words : List (List ℕ)) (status : Status) (before after : Streams) (run : Ended words status before after) → IsVerdict status
    → (input : Input) → run.input ≡ input → Whole (answer_to words input) status before.out after.out → PrintedATrueVerdict status before after
by_input (word ∷ words) status before after run v input same w = absurd (no_usage status v w.is)
  where
    no_usage : (status : Status) → IsVerdict status → status ≡ Usage → ⊥
    no_usage status (inl v) is = let e = sym v ∙ is in cc
    no_usage status (inr v) is = let e = sym v ∙ is in cc
by_input [] status before after run v too_long same w = absurd (no_refusal status v w.is)
by_input [] status before after run v (read (Err fault)) same w = absurd (no_refusal status v w.is)
by_input [] status before after run v (read (Ok r)) same w =
    let sound : IsSound r = subst IsSoundInput same (run.sound v) in
    let count = count_is (found_for r) status w.is in
    let taken = run.leaves in
    record {
      requested = r;
      spelled = subst (λ (i : Input). IsSpelledBy before.source.bytes i) same run.spelled;
      read_through = taken.whole (not_a_fault status v).0 (not_a_fault status v).1 (λ long. absurd (let e = sym same ∙ long in cc));
      printed = w.added;
      holds = λ done. holds r sound (count.0 done);
      not_shown = λ left. let found = count.1 left in not_shown r found.0 sound found.1;
    }

pub headline : (words : List (List ℕ)) (status : Status) (before after : Streams) → Ended words status before after → Headline status before after
headline words status before after run v =
    by_input words status before after run v run.input refl
    (whole (answer_to words run.input) status before.source after.source before.out after.out v run.ends)

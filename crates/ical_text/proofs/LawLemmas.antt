-- The reader's answer is what the lines are, which is one thing alone.
use Rattle.std.proofs.Common.{◌≡◌, ◌∙◌, ℕ, suc, ◌+◌, ◌<◌, true, false, cond, ltb, List, [], ◌∷◌, ◌++◌, length, get_or, Option, Some, None, Result, Ok, Err, append_assoc, append-nil, length-append, refl, ap, sym, subst, inl, inr, arith, below_more}
use Rattle.std.proofs.lemmas.Bool.{cases_lt}
use Rattle.std.proofs.lemmas.Bool.Decides.{nat_tests}
use Rattle.std.proofs.lemmas.List.{take_all}
use Rattle.std.proofs.Math.Seq.{get_or-append_seam, take-append_seam}
use Rattle.ical_text.specs.declared.event.Event.{Event}
use Rattle.ical_text.specs.declared.fault.IcalFault.{IcalFault}
use Rattle.ical_text.specs.Laws.{LinesDecide, ReadingIsExact, ReadingsAgree, Reads, events_before, fault_at, place_before, place_from, property_in}
use Rattle.ical_text.specs.Lines.{joined_lines}
use Rattle.ical_text.specs.Properties.{property_of}
use Rattle.ical_text.specs.Reading.{Place, after, end_fault, events_of, fault_of, reading, reading_from, start, unless, with_events}

abbrev Lines : Type 0
Lines = List (List ℕ)

place_from-append : (place : Place) (front : Lines) (line : List ℕ) → place_from place (front ++ line ∷ []) ≡ after (place_from place front) (property_of line)
place_from-append place [] line = refl
place_from-append place (l ∷ front) line = place_from-append (after place (property_of l)) front line

-- at a line
module _ (front : Lines) (line : List ℕ) (more : Lines) where
  abbrev lines : Lines
  lines = front ++ line ∷ more

  here_within : ltb (length front) (length lines) ≡ true
  here_within = (let l : length front < length lines = omega (arith, length-append front (line ∷ more)) in grind (arith, nat_tests))

  line_here : get_or lines (length front) [] ≡ line
  line_here = get_or-append_seam front line more []

  pub place_here : place_before lines (length front) ≡ place_from start front
  unfolding place_before
  place_here = ap (place_from start) (take-append_seam front (line ∷ more))

  pub property_here : property_in lines (length front) ≡ property_of line
  unfolding property_in
  property_here = ap property_of line_here

  pub fault_here : fault_at lines (length front) ≡ fault_of (length front) (place_from start front) (property_of line)
  unfolding fault_at
  fault_here =
      ap (λ t. cond t (fault_of (length front) (place_before lines (length front)) (property_in lines (length front))) (end_fault (length front) (place_before lines (length front)))) here_within
      ∙ (ap (λ p. fault_of (length front) p (property_in lines (length front))) place_here ∙ ap (fault_of (length front) (place_from start front)) property_here)

  pub events_here : events_before lines (length front + 1) ≡ events_before lines (length front) ++ events_of (place_from start front) (property_of line)
  unfolding events_before
  events_here =
      ap (events_before lines) add_one_here
      ∙ (ap (λ p. events_before lines (length front) ++ events_of p (property_in lines (length front))) place_here
      ∙ ap (λ o. events_before lines (length front) ++ events_of (place_from start front) o) property_here)
    where
      add_one_here : length front + 1 ≡ suc (length front)
      add_one_here = omega arith

-- at the end
end_here : (lines : Lines) → fault_at lines (length lines) ≡ end_fault (length lines) (place_from start lines)
unfolding fault_at place_before
end_here lines =
    let beyond : ltb (length lines) (length lines) ≡ false = grind (arith, nat_tests) in
    ap (λ t. cond t (fault_of (length lines) (place_before lines (length lines)) (property_in lines (length lines))) (end_fault (length lines) (place_before lines (length lines)))) beyond
    ∙ ap (λ xs. end_fault (length lines) (place_from start xs)) (take_all (length lines) lines (omega arith))

-- no fault so far
abbrev Faultless : Lines → ℕ → Type 0
Faultless lines n = (k : ℕ) → k < n → fault_at lines k ≡ None

ended_by : (lines : Lines) (o : Option IcalFault) → Faultless lines (length lines) → fault_at lines (length lines) ≡ o → Reads lines (with_events (events_before lines (length lines)) (unless o (Ok [])))
ended_by lines None before here = record {
  faultless = λ n h. elim (cases_lt n (length lines)) [ inl less ↦ before n less | inr more ↦ (let same : n ≡ length lines = omega arith in ap (fault_at lines) same ∙ here) ];
  events_are = append-nil (events_before lines (length lines));
}
ended_by lines (Some fault) before here = record { n = length lines; within = omega arith; before = before; here = here }

with_both : (a b : List Event) (r : Result (List Event) IcalFault) → with_events a (with_events b r) ≡ with_events (a ++ b) r
with_both a b (Ok events) = ap (λ xs. Ok xs) (sym (append_assoc a b events))
with_both a b (Err fault) = refl

-- the lines of the front are read, the rest is not
abbrev Goes : Lines → Lines → Type 0
Goes front rest =
    Faultless (front ++ rest) (length front)
    → Reads (front ++ rest) (with_events (events_before (front ++ rest) (length front)) (reading_from (length front) (place_from start front) rest))

end_goes : (front : Lines) → Goes front []
unfolding reading_from
end_goes front before =
    let same : front ++ [] ≡ front = append-nil front in
    let P : Lines → Type 0 =
    λ lines. Faultless lines (length front) → Reads lines (with_events (events_before lines (length front)) (unless (end_fault (length front) (place_from start front)) (Ok []))) in
    subst P (sym same) (λ h. ended_by front (end_fault (length front) (place_from start front)) h (end_here front)) before

line_goes : (front : Lines) (line : List ℕ) (more : Lines) (o : Option IcalFault) → fault_of (length front) (place_from start front) (property_of line) ≡ o → Goes (front ++ line ∷ []) more → Faultless (front ++ line ∷ more) (length front) → Reads (front ++ line ∷ more) (with_events (events_before (front ++ line ∷ more) (length front)) (unless o (with_events (events_of (place_from start front) (property_of line)) (reading_from (length front + 1) (after (place_from start front) (property_of line)) more))))
line_goes front line more (Some fault) e rest before = record {
  n = length front;
  within = omega (arith, length-append front (line ∷ more));
  before = before;
  here = fault_here front line more ∙ e;
}
line_goes front line more None e rest before =
    let lines = front ++ line ∷ more in
    let joined : (front ++ line ∷ []) ++ more ≡ lines = append_assoc front (line ∷ []) more in
    let longer : length (front ++ line ∷ []) ≡ length front + 1 = omega (arith, length-append front (line ∷ [])) in
    let next : place_from start (front ++ line ∷ []) ≡ after (place_from start front) (property_of line) = place_from-append start front line in
    let P : Lines → ℕ → Place → Type 0 = λ all n place. Faultless all n → Reads all (with_events (events_before all n) (reading_from n place more)) in
    let moved : P lines (length front + 1) (after (place_from start front) (property_of line)) =
    subst (λ all. P all (length front + 1) (after (place_from start front) (property_of line))) joined
    (subst (λ n. P ((front ++ line ∷ []) ++ more) n (after (place_from start front) (property_of line))) longer
    (subst (P ((front ++ line ∷ []) ++ more) (length (front ++ line ∷ []))) next rest)) in
    let got = moved (below_more _ _ before (fault_here front line more ∙ e)) in
    let events =
    ap (λ xs. with_events xs (reading_from (length front + 1) (after (place_from start front) (property_of line)) more)) (events_here front line more)
    ∙ sym (with_both (events_before lines (length front)) (events_of (place_from start front) (property_of line)) (reading_from (length front + 1) (after (place_from start front) (property_of line)) more)) in
    subst (Reads lines) events got

goes : (rest front : Lines) → Goes front rest
unfolding reading_from
goes [] front = end_goes front
goes (line ∷ more) front =
    line_goes front line more (fault_of (length front) (place_from start front) (property_of line)) refl (goes more (front ++ line ∷ []))

pub exact : ReadingIsExact
unfolding events_before
exact lines = subst (Reads lines) (none_more (reading lines)) (goes lines [] (λ k h. absurd (omega arith)))
  where
    none_more : (r : Result (List Event) IcalFault) → with_events [] r ≡ r
    none_more (Ok events) = refl
    none_more (Err fault) = refl

both : {A : Type 0} (x y : A) (o : Option A) → o ≡ Some x → o ≡ Some y → x ≡ y
both x y o e f = cc

never : {A : Type 0} (x : A) (o : Option A) → o ≡ Some x → o ≡ None → ⊥
never x o e f = cc

pub agree : ReadingsAgree
agree lines (Ok x) (Ok y) a b = ap (λ xs. Ok xs) (a.events_are ∙ sym b.events_are)
agree lines (Ok x) (Err f) a b = absurd (never f (fault_at lines b.n) b.here (a.faultless b.n b.within))
agree lines (Err f) (Ok y) a b = absurd (never f (fault_at lines a.n) a.here (b.faultless a.n a.within))
agree lines (Err f) (Err g) a b =
    elim (cases_lt a.n b.n) [
      | inl less ↦ absurd (never f (fault_at lines a.n) a.here (b.before a.n less))
      | inr more ↦ elim (cases_lt b.n a.n) [
        | inl less ↦ absurd (never g (fault_at lines b.n) b.here (a.before b.n less))
        | inr same ↦ (let e : a.n ≡ b.n = omega arith in ap (λ x. Err x) (both f g (fault_at lines b.n) (ap (fault_at lines) (sym e) ∙ a.here) b.here))
      ]
    ]

pub decide : LinesDecide
decide a b x y e h k = agree (joined_lines b) x y (subst (λ lines. Reads lines x) e h) k

-- A line more of a calendar.
use Rattle.std.proofs.Common.{◌≡◌, ◌∙◌, ℕ, ◌+◌, ◌<◌, length, List, [], ◌∷◌, ◌++◌, Option, Some, None, Result, Ok, Err, Bool, true, ◌==◌, append_assoc, append-nil, arith, refl, inr, ap, sym}
use Rattle.std.proofs.lemmas.Bool.Decides.{nat_tests}
use Rattle.std.specs.Prelude.{◌⊎◌, IfErr, MatchResult, OnOk}
use Rattle.ical_text.specs.declared.event.Event.{Event}
use Rattle.ical_text.specs.declared.fault.IcalFault.{IcalFault}
use Rattle.ical_text.specs.declared.fault.IcalFault.TheVariants.{NoMemory}
use Rattle.ical_text.specs.declared.reader.Reader.{Reader}
use Rattle.ical_text.specs.Lines.{joined_from, joined_lines, pieces}
use Rattle.ical_text.specs.Held.{place_of, reading_of}
use Rattle.ical_text.specs.Properties.{Property, property_of}
use Rattle.ical_text.specs.Reading.{Place, after, after_name, end_fault, events_by, events_of, fault_by, fault_of, reading_from, unless, with_events}

with_more : (a b : List Event) (r : Result (List Event) IcalFault) → with_events a (with_events b r) ≡ with_events (a ++ b) r
with_more a b (Ok events) = ap (λ xs. Ok xs) (sym (append_assoc a b events))
with_more a b (Err fault) = refl

-- the lines before this one are read
reading_line : (n : ℕ) (place : Place) (line : List ℕ) (more : List (List ℕ)) (o : Option Property) → property_of line ≡ o → reading_from n place (line ∷ more) ≡ unless (fault_of n place o) (with_events (events_of place o) (reading_from (n + 1) (after place o) more))
unfolding reading_from
reading_line n place line more o e =
    ap (λ x. unless (fault_of n place x) (with_events (events_of place x) (reading_from (n + 1) (after place x) more))) e

-- a fault in it
pub refused : (r : Reader) (line : List ℕ) (more : List (List ℕ)) (o : Option Property) (fault : IcalFault) → property_of line ≡ o → fault_of r.lines (place_of r) o ≡ Some fault → reading_of r (line ∷ more) ≡ Err fault
refused r line more o fault e f =
    ap (with_events r.events.items) (reading_line r.lines (place_of r) line more o e ∙ ap (λ x. unless x (with_events (events_of (place_of r) o) (reading_from (r.lines + 1) (after (place_of r) o) more))) f)

-- and none
pub taken : (r s : Reader) (line : List ℕ) (p : Property) → property_of line ≡ Some p → fault_by r.lines (place_of r) p ≡ None → place_of s ≡ after_name p.name (place_of r) p.value → s.events.items ≡ r.events.items ++ events_by (place_of r) p → s.lines ≡ r.lines + 1 → (more : List (List ℕ)) → reading_of r (line ∷ more) ≡ reading_of s more
taken r s line p e f place events lines more =
    ap (with_events r.events.items) (reading_line r.lines (place_of r) line more (Some p) e)
    ∙ (ap (λ x. with_events r.events.items (unless x (with_events (events_by (place_of r) p) (reading_from (r.lines + 1) (after_name p.name (place_of r) p.value) more)))) f
    ∙ (with_more r.events.items (events_by (place_of r) p) (reading_from (r.lines + 1) (after_name p.name (place_of r) p.value) more)
    ∙ (ap (λ xs. with_events xs (reading_from (r.lines + 1) (after_name p.name (place_of r) p.value) more)) (sym events)
    ∙ (ap (λ n. with_events s.events.items (reading_from n (after_name p.name (place_of r) p.value) more)) (sym lines)
    ∙ ap (λ q. with_events s.events.items (reading_from s.lines q more)) (sym place)))))

-- the text ends
reading_end : (n : ℕ) (place : Place) → reading_from n place [] ≡ unless (end_fault n place) (Ok [])
unfolding reading_from
reading_end n place = refl

pub ended : (r : Reader) (o : Option IcalFault) → o ≡ end_fault r.lines (place_of r) → reading_of r [] ≡ with_events r.events.items (unless o (Ok []))
ended r o e = ap (with_events r.events.items) (reading_end r.lines (place_of r) ∙ ap (λ x. unless x (Ok [])) (sym e))

pub whole : (events : List Event) → with_events events (Ok []) ≡ Ok events
whole events = ap (λ xs. Ok xs) (append-nil events)

-- what is read of a text so far: the reader, the line that has begun, and what is left
pub record SoFar (old reader : Reader) (bytes line rest : List ℕ) : Type 0 where
  pub reading : reading_of old (joined_lines bytes) ≡ reading_of reader (joined_from line (pieces rest))
  pub short : reader.lines + length rest < length bytes

pub on_ok : {T E A B : Type 0} (r : Result T E) → (A → B) → OnOk r A → OnOk r B
on_ok (Ok x) f h = f h
on_ok (Err e) f h = tt

pub if_err : {T E : Type 0} {P Q : E → Type 0} (r : Result T E) → ((e : E) → P e → Q e) → IfErr r P → IfErr r Q
if_err (Ok x) f h = tt
if_err (Err e) f h = f e h

empty_of : (xs : List ℕ) → length xs ≡ 0 → xs ≡ []
empty_of [] e = refl
empty_of (x ∷ xs) e = absurd (omega arith)

pub empty_is : (xs : List ℕ) (t : Bool) → t ≡ (length xs == 0) → t ≡ true → xs ≡ []
empty_is xs t e f = empty_of xs (zero_by (length xs) (sym e ∙ f))
  where
    zero_by : (n : ℕ) → (n == 0) ≡ true → n ≡ 0
    zero_by n h = grind (arith, nat_tests)

pub finished : (r x y : Result (List Event) IcalFault) → x ≡ y → MatchResult r (λ events. y ≡ Ok events) (λ fault. y ≡ Err fault) → MatchResult r (λ events. x ≡ Ok events) (λ fault. (fault ≡ NoMemory) ⊎ (x ≡ Err fault))
finished (Ok events) x y e h = e ∙ h
finished (Err fault) x y e h = inr (e ∙ h)

-- The lines of a calendar's events, one after the other.
use Rattle.std.proofs.Common.{◌≡◌, ℕ, zero, suc, ◌+◌, List, [], ◌∷◌, ◌++◌, drop, flat_map, length, Some, append_assoc, append-nil, refl, sym, ap, ◌∙◌, arith}
use Rattle.std.specs.Prelude.{slice_get}
use Rattle.ical_text.specs.declared.event.Event.{Event}
use Rattle.agenda_list.specs.Agenda.{event_line}

-- an event is in front of what follows it
rest_is : (events : List Event) (i : ℕ) (e : Event) → slice_get events i ≡ Some e → drop i events ≡ e ∷ drop (suc i) events
rest_is [] i e found = absurd cc
rest_is (x ∷ events) zero e found = let same : x ≡ e = cc in ap (λ y. y ∷ events) same
rest_is (x ∷ events) (suc i) e found = rest_is events i e found

pub lines_step : (before after all : List ℕ) (events : List Event) (i : ℕ) (e : Event) → slice_get events i ≡ Some e →
    after ≡ before ++ event_line e → before ++ flat_map event_line (drop i events) ≡ all → after ++ flat_map event_line (drop (i + 1) events) ≡ all
lines_step before after all events i e found added so_far =
    let more : i + 1 ≡ suc i = omega arith in
    let rest = flat_map event_line (drop (suc i) events) in
    ap (λ n. after ++ flat_map event_line (drop n events)) more ∙ ap (λ t. t ++ rest) added ∙ append_assoc before (event_line e) rest
    ∙ sym (ap (λ es. before ++ flat_map event_line es) (rest_is events i e found)) ∙ so_far

none_left : (events : List Event) (i : ℕ) → length events ≡ i → drop i events ≡ []
none_left [] zero e = refl
none_left [] (suc i) e = refl
none_left (x ∷ events) zero e = absurd (omega (arith, e))
none_left (x ∷ events) (suc i) e = none_left events i (omega (arith, e))

-- the lines of all
pub lines_all : (before all : List ℕ) (events : List Event) (i : ℕ) → length events ≡ i →
    before ++ flat_map event_line (drop i events) ≡ all → before ≡ all
lines_all before all events i end so_far =
    sym (append-nil before) ∙ sym (ap (λ es. before ++ flat_map event_line es) (none_left events i end)) ∙ so_far

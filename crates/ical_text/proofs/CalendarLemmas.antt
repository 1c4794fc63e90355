-- The lines of a calendar that is written have no fault, and its events are read.
use Rattle.std.proofs.Common.{◌≡◌, ◌∙◌, ℕ, suc, get_or, ◌+◌, ◌<◌, ◌≤◌, true, false, cond, ◌&&◌, ◌||◌, ◌==◌, List, [], ◌∷◌, ◌++◌, length, Option, Some, None, Result, Ok, Err, append_assoc, refl, ap, sym, arith}
use Rattle.std.proofs.lemmas.Bool.Decides.{nat_tests}
use Rattle.std.specs.Prelude.{All, codes, flat_map}
use Rattle.std.proofs.lemmas.Grind.{flat_map-append}
use Rattle.std.specs.List.{list_all}
use Rattle.ical_text.specs.declared.event.Event.{Event}
use Rattle.ical_text.specs.declared.fault.IcalFault.{IcalFault}
use Rattle.ical_text.specs.declared.own.Own.{Own}
use Rattle.ical_text.specs.declared.own.Times.TheVariants.{Never, Once}
use Rattle.ical_text.specs.declared.property.Name.{Name}
use Rattle.ical_text.specs.declared.property.Name.TheVariants.{Begin, End, Uid, Start, Summary, Other}
use Rattle.ical_text.specs.Calendar.{description_line, end_text, event_lines, event_text, head_lines, head_text, calendar_text, stamp_line, start_line, summary_line, uid_line}
use Rattle.ical_text.specs.Laws.{CalendarsAreReadAgain, CanBeRead}
use Rattle.ical_text.specs.Lines.{folded, folded_from, folded_lines, joined_lines}
use Rattle.ical_text.specs.Moments.{moment_text}
use Rattle.ical_text.specs.Properties.{Property, colon_in, is_inner, property_of}
use Rattle.ical_text.specs.Reading.{Place, after_name, ends_event, event_by, events_by, fault_by, fault_of, is_bad, after, events_of, is_misplaced, nothing, reading, reading_from, start, unless, with_events}
use Rattle.ical_text.proofs.FoldLemmas.{ArePlain, none, one, written_again}
use Rattle.ical_text.proofs.MomentLemmas.{moment_plain, moment_read}

-- The properties of the lines that are written.

property : Name → List ℕ → Option Property
property name value = Some (record { name = name; value = value })

uid_read : (uid : List ℕ) → list_all is_inner uid ≡ true → property_of (uid_line uid) ≡ Some (record { name = Uid; value = uid })
unfolding property_of colon_in
uid_read uid h = ap (λ t. cond t (Some (record { name = Uid; value = uid })) None) h

stamp_read : (stamp : List ℕ) → list_all is_inner stamp ≡ true → property_of (stamp_line stamp) ≡ Some (record { name = Other; value = stamp })
unfolding property_of colon_in
stamp_read stamp h = ap (λ t. cond t (Some (record { name = Other; value = stamp })) None) h

start_read : (moment : List ℕ) → list_all is_inner moment ≡ true → property_of (start_line moment) ≡ Some (record { name = Start; value = moment })
unfolding property_of colon_in
start_read moment h = ap (λ t. cond t (Some (record { name = Start; value = moment })) None) h

summary_read : (summary : List ℕ) → list_all is_inner summary ≡ true → property_of (summary_line summary) ≡ Some (record { name = Summary; value = summary })
unfolding property_of colon_in
summary_read summary h = ap (λ t. cond t (Some (record { name = Summary; value = summary })) None) h

description_read : (description : List ℕ) → list_all is_inner description ≡ true → property_of (description_line description) ≡ Some (record { name = Other; value = description })
unfolding property_of colon_in
description_read description h = ap (λ t. cond t (Some (record { name = Other; value = description })) None) h

begin_event_read : property_of (codes "BEGIN:VEVENT") ≡ Some (record { name = Begin; value = codes "VEVENT" })
unfolding property_of colon_in
begin_event_read = refl

end_event_read : property_of (codes "END:VEVENT") ≡ Some (record { name = End; value = codes "VEVENT" })
unfolding property_of colon_in
end_event_read = refl

begin_read : property_of (codes "BEGIN:VCALENDAR") ≡ Some (record { name = Begin; value = codes "VCALENDAR" })
unfolding property_of colon_in
begin_read = refl

end_read : property_of (codes "END:VCALENDAR") ≡ Some (record { name = End; value = codes "VCALENDAR" })
unfolding property_of colon_in
end_read = refl

version_read : property_of (codes "VERSION:2.0") ≡ Some (record { name = Other; value = codes "2.0" })
unfolding property_of colon_in
version_read = refl

program_read : property_of (codes "PRODID:-//district timetables//ical 1//EN") ≡ Some (record { name = Other; value = codes "-//district timetables//ical 1//EN" })
unfolding property_of colon_in
program_read = refl

-- A line after another.

pub none_more : (r : Result (List Event) IcalFault) → with_events [] r ≡ r
none_more (Ok events) = refl
none_more (Err fault) = refl

-- a line without a fault
goes_on : (n : ℕ) (place : Place) (line : List ℕ) (more : List (List ℕ)) (p : Property) → property_of line ≡ Some p → fault_by n place p ≡ None → reading_from n place (line ∷ more) ≡ with_events (events_by place p) (reading_from (n + 1) (after_name p.name place p.value) more)
unfolding reading_from
goes_on n place line more p e f =
    ap (λ o. unless (fault_of n place o) (with_events (events_of place o) (reading_from (n + 1) (after place o) more))) e
    ∙ ap (λ o. unless o (with_events (events_by place p) (reading_from (n + 1) (after_name p.name place p.value) more))) f

-- a line behind the first
later : (n : ℕ) (place : Place) (line : List ℕ) (more : List (List ℕ)) (p : Property) → 1 ≤ n → property_of line ≡ Some p → (length place.names == 0) || is_misplaced p.name place.names p.value ≡ false → ends_event p.name place.names && is_bad place.own ≡ false → reading_from n place (line ∷ more) ≡ with_events (events_by place p) (reading_from (n + 1) (after_name p.name place p.value) more)
later n place line more p some e f g =
    let behind : (n == 0) ≡ false = grind (arith, nat_tests) in
    goes_on n place line more p e (no_fault n place p behind f g)
  where
    no_fault : (n : ℕ) (place : Place) (p : Property) → (n == 0) ≡ false → (length place.names == 0) || is_misplaced p.name place.names p.value ≡ false → ends_event p.name place.names && is_bad place.own ≡ false → fault_by n place p ≡ None
    no_fault n place p a b c = rw (a, b, c) refl

-- a line that ends no event
quiet : (n : ℕ) (place : Place) (line : List ℕ) (more : List (List ℕ)) (p : Property) → 1 ≤ n → property_of line ≡ Some p → (length place.names == 0) || is_misplaced p.name place.names p.value ≡ false → ends_event p.name place.names && is_bad place.own ≡ false → events_by place p ≡ [] → reading_from n place (line ∷ more) ≡ reading_from (n + 1) (after_name p.name place p.value) more
quiet n place line more p some e f g h =
    let next = reading_from (n + 1) (after_name p.name place p.value) more in
    later n place line more p some e f g ∙ (ap (λ events. with_events events next) h ∙ none_more next)

-- in the calendar, and in an event of it
abbrev outer : Place
outer = record { names = codes "VCALENDAR" ∷ []; own = nothing }

abbrev inner : Own → Place
inner own = record { names = codes "VEVENT" ∷ codes "VCALENDAR" ∷ []; own = own }

-- of an event
event_read : (n : ℕ) (stamp description : List ℕ) (e : Event) (more : List (List ℕ)) → 1 ≤ n → list_all is_inner stamp ≡ true → list_all is_inner description ≡ true → CanBeRead e → reading_from n outer (event_lines stamp description e ++ more) ≡ with_events (e ∷ []) (reading_from (n + 1 + 1 + 1 + 1 + 1 + 1 + 1) outer more)
event_read n stamp description e more some s d can =
    let moment = moment_text e.start in
    let plain = moment_plain e.start can.not_early can.not_late in
    let own_1 : Own = record { uid = Once e.uid; start = Never; summary = Never } in
    let own_2 : Own = record { uid = Once e.uid; start = Once moment; summary = Never } in
    let own_3 : Own = record { uid = Once e.uid; start = Once moment; summary = Once e.summary } in
    let tail_6 = codes "END:VEVENT" ∷ more in
    let tail_5 = description_line description ∷ tail_6 in
    let tail_4 = summary_line e.summary ∷ tail_5 in
    let tail_3 = start_line moment ∷ tail_4 in
    let tail_2 = stamp_line stamp ∷ tail_3 in
    let tail_1 = uid_line e.uid ∷ tail_2 in
    let last = reading_from (n + 1 + 1 + 1 + 1 + 1 + 1 + 1) outer more in
    quiet n outer (codes "BEGIN:VEVENT") tail_1 (record { name = Begin; value = codes "VEVENT" }) some begin_event_read refl refl refl
    ∙ (quiet (n + 1) (inner nothing) (uid_line e.uid) tail_2 (record { name = Uid; value = e.uid }) (omega arith) (uid_read e.uid can.uid) refl refl refl
    ∙ (quiet (n + 1 + 1) (inner own_1) (stamp_line stamp) tail_3 (record { name = Other; value = stamp }) (omega arith) (stamp_read stamp s) refl refl refl
    ∙ (quiet (n + 1 + 1 + 1) (inner own_1) (start_line moment) tail_4 (record { name = Start; value = moment }) (omega arith) (start_read moment plain) refl refl refl
    ∙ (quiet (n + 1 + 1 + 1 + 1) (inner own_2) (summary_line e.summary) tail_5 (record { name = Summary; value = e.summary }) (omega arith) (summary_read e.summary can.summary) refl refl refl
    ∙ (quiet (n + 1 + 1 + 1 + 1 + 1) (inner own_3) (description_line description) tail_6 (record { name = Other; value = description }) (omega arith) (description_read description d) refl refl refl
    ∙ (later (n + 1 + 1 + 1 + 1 + 1 + 1) (inner own_3) (codes "END:VEVENT") more (record { name = End; value = codes "VEVENT" }) (omega arith) end_event_read refl refl
    ∙ ap (λ o. with_events (event_by (Once e.uid) o (Once e.summary)) last) (moment_read e.start can.not_early can.not_late)))))))

-- each of a list
abbrev pub EachCanBeRead : List Event → Type 0
EachCanBeRead [] = Unit {0}
EachCanBeRead (e ∷ events) = CanBeRead e × EachCanBeRead events

each_of : (events : List Event) → All CanBeRead events → EachCanBeRead events
each_of [] all = tt
each_of (e ∷ events) all = (all 0 e (omega arith), each_of events (λ k d h. later_one k d h))
  where
    later_one : (k : ℕ) (d : Event) → k < length events → CanBeRead (get_or events k d)
    later_one k d h = all (suc k) d (omega arith)

-- of several, where what follows is read wherever it stands
abbrev IsRead : List (List ℕ) → List Event → Type 0
IsRead lines events = (n : ℕ) → 1 ≤ n → reading_from n outer lines ≡ Ok events

events_read : (stamp description : List ℕ) (events : List Event) (more : List (List ℕ)) → list_all is_inner stamp ≡ true → list_all is_inner description ≡ true → EachCanBeRead events → IsRead more [] → IsRead (flat_map (event_lines stamp description) events ++ more) events
events_read stamp description [] more s d can rest n some = rest n some
events_read stamp description (e ∷ events) more s d can rest n some =
    let lines = flat_map (event_lines stamp description) events ++ more in
    ap (reading_from n outer) (append_assoc (event_lines stamp description e) (flat_map (event_lines stamp description) events) more)
    ∙ (event_read n stamp description e lines some s d can.0
    ∙ ap (with_events (e ∷ [])) (events_read stamp description events more s d can.1 rest (n + 1 + 1 + 1 + 1 + 1 + 1 + 1) (omega arith)))

ends : (n : ℕ) → 1 ≤ n → reading_from n (record { names = []; own = nothing }) [] ≡ Ok []
unfolding reading_from
ends n some = (let behind : (n == 0) ≡ false = grind (arith, nat_tests) in rw behind refl)

-- the last line
last_read : IsRead (codes "END:VCALENDAR" ∷ []) []
last_read n some = quiet n outer (codes "END:VCALENDAR") [] (record { name = End; value = codes "VCALENDAR" }) some end_read refl refl refl ∙ ends (n + 1) (omega arith)

-- the lines of a calendar
abbrev all_lines : List ℕ → List ℕ → List Event → List (List ℕ)
all_lines stamp description events = head_lines ++ (flat_map (event_lines stamp description) events ++ codes "END:VCALENDAR" ∷ [])

lines_read : (stamp description : List ℕ) (events : List Event) → list_all is_inner stamp ≡ true → list_all is_inner description ≡ true → EachCanBeRead events → reading (all_lines stamp description events) ≡ Ok events
lines_read stamp description events s d can =
    let body = flat_map (event_lines stamp description) events ++ codes "END:VCALENDAR" ∷ [] in
    let first = reading_from 1 outer (codes "VERSION:2.0" ∷ codes "PRODID:-//district timetables//ical 1//EN" ∷ body) in
    goes_on 0 start (codes "BEGIN:VCALENDAR") (codes "VERSION:2.0" ∷ codes "PRODID:-//district timetables//ical 1//EN" ∷ body) (record { name = Begin; value = codes "VCALENDAR" }) begin_read refl
    ∙ (none_more first
    ∙ (quiet 1 outer (codes "VERSION:2.0") (codes "PRODID:-//district timetables//ical 1//EN" ∷ body) (record { name = Other; value = codes "2.0" }) (omega arith) version_read refl refl refl
    ∙ (quiet 2 outer (codes "PRODID:-//district timetables//ical 1//EN") body (record { name = Other; value = codes "-//district timetables//ical 1//EN" }) (omega arith) program_read refl refl refl
    ∙ events_read stamp description events (codes "END:VCALENDAR" ∷ []) s d can last_read 3 (omega arith))))

-- The text of a calendar is that of its lines.

folded-append : (a b : List (List ℕ)) → folded_lines (a ++ b) ≡ folded_lines a ++ folded_lines b
folded-append a b = flat_map-append folded a b

head_folded : folded_lines head_lines ≡ head_text
unfolding folded folded_from
head_folded = refl

end_folded : folded_lines (codes "END:VCALENDAR" ∷ []) ≡ end_text
unfolding folded folded_from
end_folded = refl

events_folded : (stamp description : List ℕ) (events : List Event) → folded_lines (flat_map (event_lines stamp description) events) ≡ flat_map (event_text stamp description) events
events_folded stamp description [] = refl
events_folded stamp description (e ∷ events) =
    folded-append (event_lines stamp description e) (flat_map (event_lines stamp description) events)
    ∙ ap (λ (xs : List ℕ). event_text stamp description e ++ xs) (events_folded stamp description events)

text_of_lines : (stamp description : List ℕ) (events : List Event) → calendar_text stamp description events ≡ folded_lines (all_lines stamp description events)
text_of_lines stamp description events =
    let body = flat_map (event_lines stamp description) events in
    let last = codes "END:VCALENDAR" ∷ [] in
    sym (folded-append head_lines (body ++ last)
    ∙ (ap (λ (xs : List ℕ). xs ++ folded_lines (body ++ last)) head_folded
    ∙ (ap (λ (xs : List ℕ). head_text ++ xs) (folded-append body last ∙ (ap (λ (xs : List ℕ). xs ++ folded_lines last) (events_folded stamp description events) ∙ ap (λ (xs : List ℕ). flat_map (event_text stamp description) events ++ xs) end_folded))
    ∙ sym (append_assoc head_text (flat_map (event_text stamp description) events) end_text))))

-- No line of it has a CR or an LF, and none begins with a space or a tab.

event_plain : (stamp description : List ℕ) (e : Event) (more : List (List ℕ)) → list_all is_inner stamp ≡ true → list_all is_inner description ≡ true → CanBeRead e → ArePlain more → ArePlain (event_lines stamp description e ++ more)
event_plain stamp description e more s d can rest =
    one _ _ (record { inner = refl; new = refl })
    (one _ _ (record { inner = can.uid; new = refl })
    (one _ _ (record { inner = s; new = refl })
    (one _ _ (record { inner = moment_plain e.start can.not_early can.not_late; new = refl })
    (one _ _ (record { inner = can.summary; new = refl })
    (one _ _ (record { inner = d; new = refl }) (one _ _ (record { inner = refl; new = refl }) rest))))))

events_plain : (stamp description : List ℕ) (events : List Event) (more : List (List ℕ)) → list_all is_inner stamp ≡ true → list_all is_inner description ≡ true → EachCanBeRead events → ArePlain more → ArePlain (flat_map (event_lines stamp description) events ++ more)
events_plain stamp description [] more s d can rest = rest
events_plain stamp description (e ∷ events) more s d can rest =
    event_plain stamp description e (flat_map (event_lines stamp description) events ++ more) s d can.0 (events_plain stamp description events more s d can.1 rest)

all_plain : (stamp description : List ℕ) (events : List Event) → list_all is_inner stamp ≡ true → list_all is_inner description ≡ true → EachCanBeRead events → ArePlain (all_lines stamp description events)
all_plain stamp description events s d can =
    one _ _ (record { inner = refl; new = refl })
    (one _ _ (record { inner = refl; new = refl })
    (one _ _ (record { inner = refl; new = refl })
    (events_plain stamp description events (codes "END:VCALENDAR" ∷ []) s d can (one _ _ (record { inner = refl; new = refl }) none))))

pub read_again_each : (stamp description : List ℕ) (events : List Event) → list_all is_inner stamp ≡ true → list_all is_inner description ≡ true → EachCanBeRead events → reading (joined_lines (calendar_text stamp description events)) ≡ Ok events
read_again_each stamp description events s d can =
    ap (λ text. reading (joined_lines text)) (text_of_lines stamp description events)
    ∙ (ap reading (written_again (all_lines stamp description events) (all_plain stamp description events s d can)) ∙ lines_read stamp description events s d can)

pub read_again : CalendarsAreReadAgain
read_again stamp description events s d all = read_again_each stamp description events s d (each_of events all)

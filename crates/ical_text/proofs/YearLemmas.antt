-- The events that are read are at moments of the years from 1899 to 2101.
use Rattle.std.proofs.Common.{◌≡◌, ℕ, suc, ◌+◌, ◌-◌, ◌≤◌, Bool, true, false, cond, ◌&&◌, List, [], ◌∷◌, ℤ, pos, neg_ℤ, ◌-ℤ◌, ◌≤ℤ◌, ◌*ℤ◌, subst, Option, Some, None, Result, Ok, Err, refl, ap, arith, nat_le}
use Rattle.std.proofs.lemmas.Bool.{and_parts, leb-true}
use Rattle.std.proofs.lemmas.List.Elements.{All-append, All-cons, All-nil}
use Rattle.std.specs.Prelude.{All, IfOk, IfSome, MatchResult, ◌⊎◌, option_and_then, option_map}
use Rattle.jiff_core.proofs.CalendarLemmas.{day_count-day_of_year, day_of_year_bound, days_from_civil-day_count}
use Rattle.jiff_core.proofs.MarchLemmas.{days_of_years-march_days}
use Rattle.jiff_core.proofs.SignedLemmas.{signed_arith}
use Rattle.jiff_core.specs.Calendar.{day_count, days_from_civil, days_in_month, days_in_year, days_of_years}
use Rattle.ical_text.specs.declared.event.Event.{Event}
use Rattle.ical_text.specs.declared.fault.IcalFault.{IcalFault}
use Rattle.ical_text.specs.declared.fault.IcalFault.TheVariants.{NoMemory}
use Rattle.ical_text.specs.declared.own.Own.{Own}
use Rattle.ical_text.specs.declared.own.Times.{Times}
use Rattle.ical_text.specs.declared.own.Times.TheVariants.{Never, Once, Again}
use Rattle.ical_text.specs.declared.written.Written.{Written}
use Rattle.ical_text.specs.Lines.{joined_lines}
use Rattle.ical_text.specs.Moments.{IsInYears, is_known, minute_number, moment_of, number_of, written_in}
use Rattle.ical_text.specs.Properties.{Property, property_of}
use Rattle.ical_text.specs.Reading.{Place, after, end_fault, ends_event, event_by, events_in, events_of, fault_of, moment_in, reading, reading_from, start, unless, with_events}
use Rattle.year_table.proofs.CivilLemmas.{days_of_years_suc, first_days, more_years}
use Rattle.year_table.specs.Dates.{civil_day, is_date}

abbrev InYears : Event → Type 0
InYears e = IsInYears e.start

-- ---- the days of these years

module _ (year month date : ℕ) (from : 1899 ≤ year) (to : year ≤ 2101) (first : 1 ≤ month) (last : month ≤ 12) (one : 1 ≤ date)
    (short : date ≤ days_in_month (pos year) month) where
  begins : day_count (pos year) 1 1 ≡ days_of_years (year + 10000)
  begins = first_days (pos year) (year + 10000) refl

  days_low : 4346021 ≤ day_count (pos year) month date
  days_low =
      let k = year - 1899 in
      let sum : k + 11899 ≡ year + 10000 = omega arith in
      omega (arith, more_years 11899 k, ap days_of_years sum, days_of_years-march_days 11899, day_count-day_of_year (pos year) month date one, begins)

  days_high : day_count (pos year) month date ≤ 4420164
  days_high =
      let k = 2101 - year in
      let sum : k + suc (year + 10000) ≡ 12102 = omega arith in
      let same : pos (year + 10000) -ℤ pos 10000 ≡ pos year = omega (arith, signed_arith) in
      let bound = day_of_year_bound (pos year) month date ((omega (arith, signed_arith), omega (arith, signed_arith)), (first, last), (one, short)) in
      omega (arith, more_years (suc (year + 10000)) k, ap days_of_years sum, days_of_years-march_days 12102, day_count-day_of_year (pos year) month date one, begins, days_of_years_suc (year + 10000), ap days_in_year same, bound)

  day_low : neg_ℤ (pos 25932) ≤ℤ days_from_civil (pos year) month date
  day_low = omega (arith, signed_arith, days_from_civil-day_count (pos year) month date, days_low)

  day_high : days_from_civil (pos year) month date ≤ℤ pos 48211
  day_high = omega (arith, signed_arith, days_from_civil-day_count (pos year) month date, days_high)

minute_in_years : (day : ℤ) (hour minute : ℕ) → neg_ℤ (pos 25932) ≤ℤ day → day ≤ℤ pos 48211 → hour ≤ 23 → minute ≤ 59 → IsInYears (minute_number day hour minute)
minute_in_years day hour minute low high h m =
    let e : (day -ℤ pos 10957) *ℤ pos 1440 ≡ day *ℤ pos 1440 -ℤ pos 15778080 = omega (arith, signed_arith) in
    record { not_early = omega (arith, signed_arith, e); not_late = omega (arith, signed_arith, e) }

-- ---- moments

both_parts : (a b : Bool) → (a && b) ≡ true → (a ≡ true) × (b ≡ true)
both_parts a b e = and_parts a b e

number_known : (w : Written) → is_known w ≡ true → IfSome (option_map (λ day. minute_number day w.hour w.minute) (civil_day w.year w.month w.day)) IsInYears
number_known w known = by (is_date w.year w.month w.day) refl where
  by : (t : Bool) → is_date w.year w.month w.day ≡ t → IfSome (option_map (λ day. minute_number day w.hour w.minute) (cond t (Some (days_from_civil (pos w.year) w.month w.day)) None)) IsInYears
  by false e = tt
  by true e =
      let years = both_parts (nat_le 1899 w.year && nat_le w.year 2101) (nat_le w.hour 23 && nat_le w.minute 59) known in
      let year = both_parts (nat_le 1899 w.year) (nat_le w.year 2101) years.0 in
      let time = both_parts (nat_le w.hour 23) (nat_le w.minute 59) years.1 in
      let date = both_parts (nat_le w.year 9999) ((nat_le 1 w.month && nat_le w.month 12) && (nat_le 1 w.day && nat_le w.day (days_in_month (pos w.year) w.month))) e in
      let parts = both_parts (nat_le 1 w.month && nat_le w.month 12) (nat_le 1 w.day && nat_le w.day (days_in_month (pos w.year) w.month)) date.1 in
      let month = both_parts (nat_le 1 w.month) (nat_le w.month 12) parts.0 in
      let day = both_parts (nat_le 1 w.day) (nat_le w.day (days_in_month (pos w.year) w.month)) parts.1 in
      let y = leb-true 1899 w.year year.0 in
      let z = leb-true w.year 2101 year.1 in
      let m = leb-true 1 w.month month.0 in
      let n = leb-true w.month 12 month.1 in
      let d = leb-true 1 w.day day.0 in
      let f = leb-true w.day (days_in_month (pos w.year) w.month) day.1 in
      minute_in_years (days_from_civil (pos w.year) w.month w.day) w.hour w.minute (day_low w.year w.month w.day y z m n d f)
      (day_high w.year w.month w.day y z m n d f) (leb-true w.hour 23 time.0) (leb-true w.minute 59 time.1)

number_in_years : (w : Written) → IfSome (number_of w) IsInYears
unfolding number_of
number_in_years w = by (is_known w) refl where
  by : (t : Bool) → is_known w ≡ t → IfSome (cond t (option_map (λ day. minute_number day w.hour w.minute) (civil_day w.year w.month w.day)) None) IsInYears
  by false e = tt
  by true e = number_known w e

moment_in_years : (s : List ℕ) → IfSome (moment_of s) IsInYears
moment_in_years s = by (written_in s) where
  by : (o : Option Written) → IfSome (option_and_then number_of o) IsInYears
  by None = tt
  by (Some w) = number_in_years w

-- ---- events

by_times : (uid : Times) (moment : Option ℤ) (summary : Times) → IfSome moment IsInYears → All InYears (event_by uid moment summary)
by_times Never moment summary h = All-nil InYears
by_times Again moment summary h = All-nil InYears
by_times (Once uid) None summary h = All-nil InYears
by_times (Once uid) (Some k) Never h = All-nil InYears
by_times (Once uid) (Some k) Again h = All-nil InYears
by_times (Once uid) (Some k) (Once summary) h = All-cons InYears _ [] h (All-nil InYears)

at_times : (times : Times) → IfSome (moment_in times) IsInYears
at_times Never = tt
at_times Again = tt
at_times (Once value) = moment_in_years value

of_own : (own : Own) → All InYears (events_in own)
of_own own = by_times own.uid (moment_in own.start) own.summary (at_times own.start)

of_property : (place : Place) (o : Option Property) → All InYears (events_of place o)
of_property place None = All-nil InYears
of_property place (Some p) = by (ends_event p.name place.names) where
  by : (t : Bool) → All InYears (cond t (events_in place.own) [])
  by true = of_own place.own
  by false = All-nil InYears

unless_by : (o : Option IcalFault) (r : Result (List Event) IcalFault) → IfOk r (All InYears) → IfOk (unless o r) (All InYears)
unless_by (Some fault) r h = tt
unless_by None r h = h

with_by : (events : List Event) (r : Result (List Event) IcalFault) → All InYears events → IfOk r (All InYears) → IfOk (with_events events r) (All InYears)
with_by events (Ok more) here h = All-append InYears events more here h
with_by events (Err fault) here h = tt

reading_in_years : (lines : List (List ℕ)) (n : ℕ) (place : Place) → IfOk (reading_from n place lines) (All InYears)
unfolding reading_from
reading_in_years [] n place = unless_by (end_fault n place) (Ok []) (All-nil InYears)
reading_in_years (line ∷ lines) n place =
    unless_by (fault_of n place (property_of line)) _
    (with_by (events_of place (property_of line)) _ (of_property place (property_of line)) (reading_in_years lines (n + 1) (after place (property_of line))))

pub read_in_years : (bytes : List ℕ) (events : List Event) → reading (joined_lines bytes) ≡ Ok events → All InYears events
read_in_years bytes events is = subst (λ r. IfOk r (All InYears)) is (reading_in_years (joined_lines bytes) 0 start)

-- an answer of the reader
pub in_years : (bytes : List ℕ) (r : Result (List Event) IcalFault) →
    MatchResult r (λ events. reading (joined_lines bytes) ≡ Ok events) (λ fault. (fault ≡ NoMemory) ⊎ (reading (joined_lines bytes) ≡ Err fault)) →
    IfOk r (All InYears)
in_years bytes (Ok events) h = read_in_years bytes events h
in_years bytes (Err fault) h = tt

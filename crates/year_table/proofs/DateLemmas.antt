-- The parts of a date are those of its day.
use Rattle.std.proofs.Common.{◌≡◌, ℕ, zero, suc, ◌+◌, ◌-◌, ◌<◌, ◌≤◌, ℤ, Bool, true, false, cond, leb, refl, ap, ◌∙◌, inl, inr, arith}
use Rattle.std.proofs.lemmas.Bool.{cases_lt}
use Rattle.std.proofs.lemmas.Bool.Decides.{nat_tests}
use Rattle.std.proofs.lemmas.Int.{ints}
use Rattle.jiff.specs.Types.{Date}
use Rattle.jiff.specs.Words.{epoch_day, ordinal}
use Rattle.jiff_core.proofs.CalendarLemmas.{days_of_months_mono, days_of_months_more}
use Rattle.jiff_core.proofs.DateLemmas.{epoch_day-ordinal}
use Rattle.jiff_core.specs.Calendar.{days_from_civil, days_of_months}
use Rattle.jiff_tz.proofs.YearLemmas.{year_of_day-date}
use Rattle.jiff_tz.specs.Year.{year_of_day}
use Rattle.year_table.specs.Dates.{day_in_year, day_of_month, months_before, months_within}

months_within-step : (year : ℤ) (n k count : ℕ) (t : Bool) → leb (days_of_months year (suc n)) count ≡ t → k ≤ suc n → days_of_months year k ≤ count → count < days_of_months year (suc k) → (k ≤ n → months_within year n count ≡ k) → cond t (suc n) (months_within year n count) ≡ k
months_within-step year n k count true e small low high rest =
    let fits : days_of_months year (suc n) ≤ count = grind (arith, nat_tests) in
    elim (cases_lt k (suc n)) [
      | inl l ↦ (let m : days_of_months year (suc k) ≤ days_of_months year (suc n) = days_of_months_mono year (suc k) (suc n) (omega arith) in absurd (omega arith))
      | inr l ↦ omega arith
    ]
months_within-step year n k count false e small low high rest =
    let past : count < days_of_months year (suc n) = grind (arith, nat_tests) in
    elim (cases_lt k (suc n)) [
      | inl l ↦ rest (omega arith)
      | inr l ↦ (let m : days_of_months year (suc n) ≤ days_of_months year k = days_of_months_mono year (suc n) k (omega arith) in absurd (omega arith))
    ]

-- the months that fit are found by the days before and after them
pub months_within-is : (year : ℤ) (n k count : ℕ) → k ≤ n → days_of_months year k ≤ count → count < days_of_months year (suc k) → months_within year n count ≡ k
unfolding months_within
months_within-is year zero k count small low high = omega arith
months_within-is year (suc n) k count small low high =
    months_within-step year n k count _ refl small low high (λ h. months_within-is year n k count h low high)

pub day_in_year-date : (d : Date) → day_in_year (epoch_day d) + 1 ≡ ordinal d
day_in_year-date d =
    let start : days_from_civil (year_of_day (epoch_day d)) 1 1 ≡ days_from_civil d.year 1 1 = ap (λ y. days_from_civil y 1 1) (year_of_day-date d) in
    let o = epoch_day-ordinal d in
    omega (arith, ints)

-- a month of a date, with the days before it and in it
pub months_before-date : (d : Date) → months_before (epoch_day d) + 1 ≡ d.month
months_before-date d =
    let year : year_of_day (epoch_day d) ≡ d.year = year_of_day-date d in
    let o = day_in_year-date d in
    let after : suc (d.month - 1) ≡ d.month = omega (arith, d.month_in) in
    let more = days_of_months_more d.year d.month (omega (arith, d.month_in)) in
    let is : months_within (year_of_day (epoch_day d)) 11 (day_in_year (epoch_day d)) ≡ d.month - 1 =
    ap (λ y. months_within y 11 (day_in_year (epoch_day d))) year
    ∙ months_within-is d.year 11 (d.month - 1) (day_in_year (epoch_day d)) (omega (arith, d.month_in)) (omega (arith, d.day_in)) (rw after (omega (arith, d.day_in))) in
    omega (arith, is, d.month_in)

pub day_of_month-date : (d : Date) → day_of_month (epoch_day d) ≡ d.day
day_of_month-date d =
    let o = day_in_year-date d in
    let month : months_before (epoch_day d) ≡ d.month - 1 = omega (arith, months_before-date d) in
    let before : days_of_months (year_of_day (epoch_day d)) (months_before (epoch_day d)) ≡ days_of_months d.year (d.month - 1) =
    ap (λ y. days_of_months y (months_before (epoch_day d))) (year_of_day-date d) ∙ ap (days_of_months d.year) month in
    omega (arith, before, d.day_in)

-- The tally of a table, and of the days that a search found.
use Rattle.std.proofs.Common.{◌≡◌, ◌∙◌, ap, refl, sym, ℕ, ◌+◌, cond, ◌<◌, ◌≤◌, List, [], ◌∷◌, length, map, take, get_or, arith, Result, Ok, Err, IfOk, to_z, of_z, w32, FitsSigned, ◌≤ℤ◌}
use Rattle.std.proofs.lemmas.Int.{ints, to_z-of_z}
use Rattle.std.specs.Prelude.{ℤ, pos, negsuc, neg_ℤ, ◌+ℤ◌, count_by, fold, zip}
use Rattle.std.proofs.lemmas.List.{length-map, take_all, get_or-map}
use Rattle.std.proofs.lemmas.List.Sums.{fold_more}
use Rattle.std.proofs.lemmas.Slice.Zip.{get_or-zip, length-zip}
use Rattle.cell_split.specs.declared.cell.Cell.{Cell}
use Rattle.cell_split.specs.declared.verdict.Entry.{Entry}
use Rattle.cell_split.specs.declared.verdict.Entry.TheVariants.{Minute, Never, Open, Whole}
use Rattle.method_table.specs.declared.problem.Problem.{Problem}
use Rattle.method_table.specs.Row.{row_of}
use Rattle.ring_survey.specs.Polygons.{Polygon}
use Rattle.method_table.specs.declared.sun.SunChoice.{SunChoice}
use Rattle.order_table.specs.Made.{searched}
use Rattle.order_table.specs.Table.{DayTable, day_undecided, entries_in, is_undecided}
use Rattle.order_table.specs.declared.day.Day.{Day}
use Rattle.order_table.proofs.TextLemmas.{entries_of_zip}
use Rattle.order_rule.specs.Asked.{Asked}
use Rattle.order_table.specs.Trees.{entries_of, table_of_trees, undecided}
use Rattle.worker_table.specs.Entries.{entries_on}
use Rattle.outcome.specs.declared.stop.Stop.{Stop}
use Rattle.demo_summary.specs.Demo.{demo_asked}
use Rattle.demo_summary.specs.Summary.{counted, is_of, minutes_of, tally_of, total}
use Rattle.demo_summary.specs.declared.tally.Tally.{Tally}
use Rattle.demo_summary.specs.declared.tally.Variant.TheVariants as variants

-- the entries of the days that were searched
entries_are : (sun : SunChoice) (polygons : List Polygon) (root : Cell) (days : List Day) → map entries_in (map (searched sun polygons root) days) ≡ map (entries_on sun polygons root) days
unfolding searched entries_of
entries_are sun polygons root [] = refl
entries_are sun polygons root (day ∷ rest) =
    rw (entries_of_zip (map row_of day.problems) (entries_on sun polygons root day) (length-map day.problems row_of ∙ day.seven)) (ap (λ es. entries_on sun polygons root day ∷ es) (entries_are sun polygons root rest))

-- the sum of the days with their entries
sums_are : (sun : SunChoice) (polygons : List Polygon) (root : Cell) (days : List Day) (z : ℤ) →
    fold (λ sum x. sum +ℤ total minutes_of (zip (map row_of x.0.problems) x.1)) z (zip days (map (entries_on sun polygons root) days))
    ≡ fold (λ sum day. sum +ℤ total minutes_of day.found) z (map (searched sun polygons root) days)
unfolding searched entries_of
sums_are sun polygons root [] z = refl
sums_are sun polygons root (day ∷ rest) z = sums_are sun polygons root rest (z +ℤ total minutes_of (searched sun polygons root day).found)

same_tally : (t u : Tally) → t.minutes ≡ u.minutes → t.whole ≡ u.whole → t.never ≡ u.never → t.undecided ≡ u.undecided → t.sum ≡ u.sum → t ≡ u
same_tally t u minutes whole never undecided sum i = record {
  minutes = minutes i;
  whole = whole i;
  never = never i;
  undecided = undecided i;
  sum = sum i;
}

pub tally_is : (sun : SunChoice) (polygons : List Polygon) (root : Cell) (days : List Day) (entries : List (List Entry)) (t : Tally) →
    entries ≡ map (entries_on sun polygons root) days → t.minutes ≡ counted variants.Minute entries → t.whole ≡ counted variants.Whole entries →
    t.never ≡ counted variants.Never entries → t.undecided ≡ counted variants.Open entries →
    t.sum ≡ total (λ x. total minutes_of (zip (map row_of x.0.problems) x.1)) (zip days entries) → t ≡ tally_of (map (searched sun polygons root) days)
unfolding tally_of
tally_is sun polygons root days entries t are minutes whole never undecided sum =
    let same : entries ≡ map entries_in (map (searched sun polygons root) days) = are ∙ sym (entries_are sun polygons root days) in
    let total_is = sum ∙ ap (λ es. total (λ x. total minutes_of (zip (map row_of x.0.problems) x.1)) (zip days es)) are ∙ sums_are sun polygons root days (pos 0) in
    same_tally t _ (minutes ∙ ap (counted variants.Minute) same) (whole ∙ ap (counted variants.Whole) same) (never ∙ ap (counted variants.Never) same)
    (undecided ∙ ap (counted variants.Open) same) total_is

-- open entries are those that are undecided
open_along : (n : ℕ) (es : List Entry) → fold (λ s e. s + cond (is_of variants.Open e) 1 0) n es ≡ fold (λ s e. s + cond (is_undecided e) 1 0) n es
open_along n [] = refl
open_along n (Minute rank ∷ es) = open_along (n + 0) es
open_along n (Whole ∷ es) = open_along (n + 0) es
open_along n (Never ∷ es) = open_along (n + 0) es
open_along n (Open safe from cell ∷ es) = open_along (n + 1) es

undecided_along : (n : ℕ) (days : List DayTable) →
    fold (λ s es. s + count_by (is_of variants.Open) es) n (map entries_in days) ≡ fold (λ s day. s + day_undecided day) n days
unfolding day_undecided
undecided_along n [] = refl
undecided_along n (day ∷ rest) =
    undecided_along (n + count_by (is_of variants.Open) (entries_in day)) rest
    ∙ ap (λ k. fold (λ s d. s + day_undecided d) (n + k) rest) (open_along 0 (entries_in day))

pub undecided_is : (o : Asked) (count : ℕ) → count ≡ (tally_of (table_of_trees o)).undecided → count ≡ undecided o
unfolding tally_of undecided
undecided_is o count is = is ∙ undecided_along 0 (table_of_trees o)

-- ---- sums, one number more

pub total_more : {A : Type 0} (number : A → ℤ) (xs : List A) (i : ℕ) (d : A) → i < length xs →
    total number (take (i + 1) xs) ≡ total number (take i xs) +ℤ number (get_or xs i d)
total_more number xs i d within = fold_more (λ sum x. sum +ℤ number x) (pos 0) xs i d within

-- of the entries of a day
pub minutes_more : (ps : List Problem) (es : List Entry) (i : ℕ) (p : Problem) (e : Entry) (m : ℤ) → i < length ps → i < length es → p ≡ get_or ps i p →
    m ≡ minutes_of (row_of p, get_or es i e) →
    total minutes_of (take i (zip (map row_of ps) es)) +ℤ m ≡ total minutes_of (take (i + 1) (zip (map row_of ps) es))
minutes_more ps es i p e m in_ps in_es is_p is_m =
    let xs = zip (map row_of ps) es in
    let within : i < length xs = omega (arith, in_ps, in_es, length-zip (map row_of ps) es, length-map ps row_of) in
    let row : get_or (map row_of ps) i (row_of p) ≡ row_of p = get_or-map row_of ps i p (row_of p) in_ps ∙ ap row_of (sym is_p) in
    let pair : get_or xs i (row_of p, e) ≡ (row_of p, get_or es i e) =
    get_or-zip (map row_of ps) es i (row_of p, e) (omega (arith, in_ps, length-map ps row_of)) in_es ∙ ap (λ r. (r, get_or es i e)) row in
    sym (total_more minutes_of xs i (row_of p, e) within ∙ ap (λ x. total minutes_of (take i xs) +ℤ minutes_of x) pair
    ∙ ap (λ z. total minutes_of (take i xs) +ℤ z) (sym is_m))

pub minutes_all : (ps : List Problem) (es : List Entry) (i : ℕ) → length ps ≤ i →
    total minutes_of (take i (zip (map row_of ps) es)) ≡ total minutes_of (zip (map row_of ps) es)
minutes_all ps es i past =
    ap (total minutes_of) (take_all i (zip (map row_of ps) es) (omega (arith, past, length-zip (map row_of ps) es, length-map ps row_of)))

-- of the days
abbrev pub of_day : Day × List Entry → ℤ
of_day x = total minutes_of (zip (map row_of x.0.problems) x.1)

pub days_more : (days : List Day) (entries : List (List Entry)) (i : ℕ) (day : Day) (d : List Entry) (m : ℤ) → i < length days → i < length entries → day ≡ get_or days i day →
    m ≡ total minutes_of (zip (map row_of day.problems) (get_or entries i d)) →
    total of_day (take i (zip days entries)) +ℤ m ≡ total of_day (take (i + 1) (zip days entries))
days_more days entries i day d m in_days in_entries is_day is_m =
    let xs = zip days entries in
    let pair : get_or xs i (day, d) ≡ (day, get_or entries i d) =
    get_or-zip days entries i (day, d) in_days in_entries ∙ ap (λ x. (x, get_or entries i d)) (sym is_day) in
    sym (total_more of_day xs i (day, d) (omega (arith, in_days, in_entries, length-zip days entries)) ∙ ap (λ x. total of_day (take i xs) +ℤ of_day x) pair
    ∙ ap (λ z. total of_day (take i xs) +ℤ z) (sym is_m))

pub days_all : (days : List Day) (entries : List (List Entry)) (i : ℕ) → length days ≤ i → total of_day (take i (zip days entries)) ≡ total of_day (zip days entries)
days_all days entries i past = ap (total of_day) (take_all i (zip days entries) (omega (arith, past, length-zip days entries)))

-- sums that are far from the ends of their type
fits : (z : ℤ) → neg_ℤ (pos 10000000) ≤ℤ z → z ≤ℤ pos 10000000 → FitsSigned w32 z
fits (pos n) low high = omega (arith, ints, high)
fits (negsuc n) low high = omega (arith, ints, low)

pub settled : (s m : ℤ) → neg_ℤ (pos 8000000) ≤ℤ s → s ≤ℤ pos 8000000 → neg_ℤ (pos 21000) ≤ℤ m → m ≤ℤ pos 21000 →
    to_z w32 (of_z w32 (s +ℤ to_z w32 (of_z w32 m))) ≡ s +ℤ m
settled s m low high m_low m_high =
    ap (λ z. to_z w32 (of_z w32 (s +ℤ z))) (to_z-of_z w32 m (fits m (omega (arith, ints, m_low)) (omega (arith, ints, m_high))))
    ∙ to_z-of_z w32 (s +ℤ m) (fits (s +ℤ m) (omega (arith, ints, low, m_low)) (omega (arith, ints, high, m_high)))

pub count_is : (number : ℕ) (t : Tally) (result : Result ℕ Stop) → t ≡ tally_of (table_of_trees (demo_asked number)) →
    IfOk result (λ count. count ≡ t.undecided) → IfOk result (λ count. count ≡ undecided (demo_asked number))
count_is number t (Ok count) are is = undecided_is (demo_asked number) count (is ∙ ap (λ (u : Tally). u.undecided) are)
count_is number t (Err stop) are is = tt

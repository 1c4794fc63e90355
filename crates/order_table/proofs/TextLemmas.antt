-- The text of a day in pieces, and how many of its entries are undecided.
use Rattle.std.proofs.Common.{◌≡◌, ℕ, ◌+◌, ◌≤◌, ◌<◌, List, [], ◌∷◌, ◌++◌, length, take, get_or, map, refl, sym, ap, ◌∙◌, append_assoc, append-nil, arith, codes}
use Rattle.std.specs.Prelude.{ℤ, None, Option, count_by, flat_map, zip}
use Rattle.std.proofs.lemmas.List.{take_all, take_more, get_or-map, length-map}
use Rattle.std.proofs.lemmas.List.Concat.{flat_map-append}
use Rattle.std.proofs.lemmas.Slice.Zip.{get_or-zip, length-zip}
use Rattle.cell_split.specs.declared.verdict.Entry.{Entry}
use Rattle.method_table.specs.declared.problem.Problem.{Problem}
use Rattle.method_table.specs.Row.{Row, row_of}
use Rattle.year_table.specs.Entries.{entry_text}
use Rattle.year_table.specs.Lines.{cell_text, day_line, open_line}
use Rattle.year_table.specs.Dates.{date_text}
use Rattle.order_table.specs.Days.{DayRows}
use Rattle.order_table.specs.Table.{day_found, day_text, day_undecided, is_undecided, line_text, night_found, night_text, opens_text}

cells_by_rows : (ps : List Problem) (es : List Entry) →
    flat_map cell_text (zip ps es) ≡ flat_map (λ x. codes " " ++ entry_text x.0 x.1) (zip (map row_of ps) es)
cells_by_rows [] es = refl
cells_by_rows (p ∷ ps) [] = refl
cells_by_rows (p ∷ ps) (e ∷ es) = ap (λ rest. (codes " " ++ entry_text (row_of p) e) ++ rest) (cells_by_rows ps es)

-- the line of these rows with their entries
abbrev row_line : ℤ → List Row → List Entry → List ℕ
row_line day rows entries = line_text (record { number = day; found = zip rows entries; night = None })

-- the same line by problems and by their rows
line_by_rows : (day : ℤ) (ps : List Problem) (es : List Entry) → day_line day ps es ≡ row_line day (map row_of ps) es
line_by_rows day ps es = ap (λ cells. date_text day ++ cells ++ codes "\n") (cells_by_rows ps es)

-- the lines of one entry more
pub opens_step : (ps : List Problem) (es : List Entry) (i : ℕ) (p : Problem) (e : Entry) → i < length ps → i < length es →
    p ≡ get_or ps i p → (a l m : List ℕ) → l ≡ a ++ opens_text (take i (zip (map row_of ps) es)) →
    m ≡ l ++ open_line (row_of p) (get_or es i e) → m ≡ a ++ opens_text (take (i + 1) (zip (map row_of ps) es))
opens_step ps es i p e in_ps in_es is_p a l m so_far more =
    let xs = zip (map row_of ps) es in
    let found = get_or es i e in
    let within : i < length xs = omega (arith, in_ps, in_es, length-zip (map row_of ps) es, length-map ps row_of) in
    let row : get_or (map row_of ps) i (row_of p) ≡ row_of p = get_or-map row_of ps i p (row_of p) in_ps ∙ ap row_of (sym is_p) in
    let pair : get_or xs i (row_of p, e) ≡ (row_of p, found) =
    get_or-zip (map row_of ps) es i (row_of p, e) (omega (arith, in_ps, length-map ps row_of)) in_es ∙ ap (λ r. (r, found)) row in
    let next : take (i + 1) xs ≡ take i xs ++ (row_of p, found) ∷ [] = take_more xs i (row_of p, e) within ∙ ap (λ x. take i xs ++ x ∷ []) pair in
    more ∙ ap (λ t. t ++ open_line (row_of p) found) so_far ∙ append_assoc a (opens_text (take i xs)) (open_line (row_of p) found)
    ∙ ap (λ t. a ++ t) (sym (ap opens_text next ∙ opens_append (take i xs) (row_of p, found)))
  where
    opens_append : (xs : List (Row × Entry)) (x : Row × Entry) → opens_text (xs ++ x ∷ []) ≡ opens_text xs ++ open_line x.0 x.1
    opens_append xs x = flat_map-append (λ y. open_line y.0 y.1) xs (x ∷ []) ∙ ap (λ t. opens_text xs ++ t) (append-nil (open_line x.0 x.1))

-- all of them
pub opens_all : (ps : List Problem) (es : List Entry) (i : ℕ) (a l : List ℕ) → length ps ≤ i → l ≡ a ++ opens_text (take i (zip (map row_of ps) es)) →
    l ≡ a ++ opens_text (zip (map row_of ps) es)
opens_all ps es i a l end so_far =
    let all : length (zip (map row_of ps) es) ≤ i = omega (arith, end, length-zip (map row_of ps) es, length-map ps row_of) in
    so_far ∙ ap (λ xs. a ++ opens_text xs) (take_all i (zip (map row_of ps) es) all)

-- the line of a day, written of its problems, those of its open entries, and that of its night
pub text_is : (day : DayRows) (ps : List Problem) (es : List Entry) (ns : Option (List Entry)) (line opened text : List ℕ) → day.rows ≡ map row_of ps →
    line ≡ day_line day.number ps es → opened ≡ line ++ opens_text (zip (map row_of ps) es) →
    text ≡ opened ++ night_text (zip (map row_of ps) es) (night_found day.night ns) → text ≡ day_text (day_found day es ns)
unfolding day_text
text_is day ps es ns line opened text are_rows is_line is_opened is_text =
    let found = zip (map row_of ps) es in
    let night = night_found day.night ns in
    is_text ∙ ap (λ t. t ++ night_text found night) (is_opened ∙ ap (λ l. l ++ opens_text found) (is_line ∙ line_by_rows day.number ps es))
    ∙ append_assoc (row_line day.number (map row_of ps) es) (opens_text found) (night_text found night)
    ∙ ap (λ rs. row_line day.number rs es ++ (opens_text (zip rs es) ++ night_text (zip rs es) night)) (sym are_rows)

-- ---- a day's rows and entries, each with the other

pub rows_of_zip : (rs : List Row) (es : List Entry) → length rs ≡ length es → map (λ (x : Row × Entry). x.0) (zip rs es) ≡ rs
rows_of_zip [] es same = refl
rows_of_zip (r ∷ rs) [] same = absurd (omega (arith, same))
rows_of_zip (r ∷ rs) (e ∷ es) same = ap (λ xs. r ∷ xs) (rows_of_zip rs es (omega (arith, same)))

pub entries_of_zip : (rs : List Row) (es : List Entry) → length rs ≡ length es → map (λ (x : Row × Entry). x.1) (zip rs es) ≡ es
entries_of_zip [] [] same = refl
entries_of_zip [] (e ∷ es) same = absurd (omega (arith, same))
entries_of_zip (r ∷ rs) [] same = absurd (omega (arith, same))
entries_of_zip (r ∷ rs) (e ∷ es) same = ap (λ xs. e ∷ xs) (entries_of_zip rs es (omega (arith, same)))

pub undecided_is : (day : DayRows) (es : List Entry) (ns : Option (List Entry)) (count : ℕ) → length day.rows ≡ length es → count ≡ count_by is_undecided es →
    count ≡ day_undecided (day_found day es ns)
unfolding day_undecided
undecided_is day es ns count same is_count = is_count ∙ ap (count_by is_undecided) (sym (entries_of_zip day.rows es same))

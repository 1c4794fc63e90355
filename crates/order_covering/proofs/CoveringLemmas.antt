-- The lines of a covering as they are written.
use Rattle.std.proofs.Common.{◌≡◌, ℕ, zero, suc, ◌+◌, ◌<◌, List, [], ◌∷◌, ◌++◌, length, map, take, drop, get_or, Option, None, Some, ℤ, Result, Ok, Err, Vec, Global, refl, sym, ap, ◌∙◌, append-nil, arith}
use Rattle.std.specs.Prelude.{IfOk, count_by, option_map, sum_by}
use Rattle.std.specs.List.{flat_map}
use Rattle.std.proofs.lemmas.List.{get_or-map, length-map}
use Rattle.std.proofs.lemmas.List.Sums.{sum_by-cons}
use Rattle.cell_split.specs.declared.cell.Cell.{Cell}
use Rattle.cell_split.specs.declared.verdict.Entry.{Entry}
use Rattle.cell_split.specs.Judges.{Content}
use Rattle.covering.specs.Lines.{cell_data, members_data, point_data, runs_line, tree_line}
use Rattle.covering.specs.Refuted.{rank_of}
use Rattle.covering.specs.Settles.{IsSettled, refuted_ordinal_of}
use Rattle.covering.specs.declared.settled.Settled.{Settled}
use Rattle.cell_judge.specs.Skies.{sky_content}
use Rattle.method_table.specs.declared.problem.Problem.{Problem}
use Rattle.method_table.specs.Row.{Row, column_word, row_of}
use Rattle.order_rule.specs.Asked.{Asked}
use Rattle.order_text.specs.Line.{order_line}
use Rattle.order_table.specs.Made.{day_of, night_of, rows_of, searched}
use Rattle.order_table.specs.Ready.{IsReady}
use Rattle.order_table.specs.Table.{day_undecided, days_undecided, is_undecided}
use Rattle.order_table.specs.Trees.{columns, entries_of, entry_at, root_over, tree_night, undecided}
use Rattle.order_table.specs.declared.day.Day.{Day}
use Rattle.order_table.specs.declared.day.Night.{Night}
use Rattle.order_table.specs.declared.ready.Ready.{Ready}
use Rattle.order_table.proofs.TableLemmas.{count_is}
use Rattle.order_table.proofs.TextLemmas.{undecided_is}
use Rattle.plane_edges.specs.declared.points.Point.{Point}
use Rattle.ring_survey.specs.Polygons.{Polygon}
use Rattle.serde_json.specs.Written.{compact_text}
use Rattle.year_table.specs.Dates.{date_text}
use Rattle.method_table.specs.declared.sun.SunChoice.{SunChoice}
use Rattle.order_covering.proofs.Pieces.{sum_map, sum_parts}
use Rattle.order_covering.specs.Covering.{covering_of, day_lines, letters_name, letters_text, line_of, night_lines, sun_word, tree_letters}
use Rattle.order_covering.specs.Made.{IsDayIn, IsSettledNight, columns_written, content_of_night, counted_at, night_written, settled_line, settled_night, undecided_in, written, written_at}
use Rattle.order_covering.specs.declared.form.Form.{Form}
use Rattle.order_covering.specs.declared.form.Form.TheVariants.{Letters, Runs}
use Rattle.order_covering.specs.declared.night.SettledNight.{SettledNight}

-- what is settled of a tree has the line of the tree
pub line_is : (form : Form) (column date : List ℕ) (c : Content) (k : ℕ) (s : Settled) → IsSettled c k s →
    settled_line form column date s ≡ line_of form column date c k
unfolding settled_line line_of
line_is form column date c k s is =
    let text = λ (bs : List ℕ). letters_text form bs in
    let line = λ (o : Option (Cell × Point)) (r : ℤ) (bs : List ℕ).
    compact_text (members_data column date (point_data o) r (cell_data o) (letters_name form) (text bs)) ++ 10 ∷ [] in
    ap (line s.refuted s.r) is.letters
    ∙ (ap (λ (r : ℤ). line s.refuted r (tree_letters c k)) is.rank
    ∙ ap (λ (o : Option (Cell × Point)). line o (rank_of (refuted_ordinal_of c k)) (tree_letters c k)) is.refuted)

-- a line that was written in its form
pub letters_line : {E : Type 0} (form : Form) (column date : List ℕ) (s : Settled) (r : Result (Vec ℕ Global) E) → form ≡ Letters →
    IfOk r (λ line. line.items ≡ tree_line column date s) → IfOk r (λ line. line.items ≡ settled_line form column date s)
unfolding settled_line
letters_line form column date s (Ok line) is written = rw is written
letters_line form column date s (Err e) is written = tt

pub runs_written : {E : Type 0} (form : Form) (column date : List ℕ) (s : Settled) (r : Result (Vec ℕ Global) E) → form ≡ Runs →
    IfOk r (λ line. line.items ≡ runs_line column date s) → IfOk r (λ line. line.items ≡ settled_line form column date s)
unfolding settled_line
runs_written form column date s (Ok line) is written = rw is written
runs_written form column date s (Err e) is written = tt

-- ---- one day

-- column k
pub column_at : (k d : ℕ) → k < 7 → get_or columns k d ≡ k
column_at zero d h = refl
column_at (suc zero) d h = refl
column_at (suc (suc zero)) d h = refl
column_at (suc (suc (suc zero))) d h = refl
column_at (suc (suc (suc (suc zero)))) d h = refl
column_at (suc (suc (suc (suc (suc zero))))) d h = refl
column_at (suc (suc (suc (suc (suc (suc zero)))))) d h = refl
column_at (suc (suc (suc (suc (suc (suc (suc k))))))) d h = absurd (omega (arith, h))

-- the line that is written of column k, of its problem
pub column_is : (form : Form) (sun : SunChoice) (polygons : List Polygon) (root : Cell) (day : Day) (column date : List ℕ) (p : Problem) (k : ℕ) (s : Settled) → k < 7 →
    column ≡ column_word (get_or day.problems k p).column → IsSettled (sky_content sun polygons (rows_of day) root) k s →
    settled_line form column date s ≡ written_at form sun polygons root day date k
column_is form sun polygons root day column date p k s known is_column settled =
    let seven = day.seven in
    let row = get_or-map row_of day.problems k p _ (omega (arith, known, seven)) in
    line_is form column date (sky_content sun polygons (rows_of day) root) k s settled
    ∙ ap (λ word. line_of form word date (sky_content sun polygons (rows_of day) root) k) (is_column ∙ ap (λ r. column_word r.column) (sym row))

-- entries one by one
counted_each : (f : ℕ → Entry) (ks : List ℕ) → sum_by (λ k. undecided_in (f k)) ks ≡ count_by is_undecided (map f ks)
counted_each f [] = refl
counted_each f (k ∷ ks) =
    sum_by-cons (λ i. undecided_in (f i)) k ks ∙ ap (λ (n : ℕ). undecided_in (f k) + n) (counted_each f ks) ∙ sym (sum_by-cons undecided_in (f k) (map f ks))

-- all columns of a day
pub counted_all : (sun : SunChoice) (polygons : List Polygon) (root : Cell) (day : Day) →
    sum_by (counted_at sun polygons root day) columns ≡ day_undecided (searched sun polygons root day)
unfolding searched entries_of
counted_all sun polygons root day =
    let seven = day.seven in
    undecided_is (day_of day) (entries_of sun polygons root (rows_of day)) (tree_night sun polygons root (day_of day).night) (sum_by (counted_at sun polygons root day) columns)
    (length-map day.problems row_of ∙ seven) (counted_each (entry_at (sky_content sun polygons (rows_of day) root)) columns)

pub written_all : (form : Form) (sun : SunChoice) (polygons : List Polygon) (root : Cell) (day : Day) (date : List ℕ) → date ≡ date_text day.number →
    flat_map (written_at form sun polygons root day date) columns ≡ columns_written form sun polygons root day
unfolding columns_written
written_all form sun polygons root day date is = ap (λ d. flat_map (written_at form sun polygons root day d) columns) is

-- a day's lines are those of its columns and those of its night
pub day_is : (form : Form) (sun : SunChoice) (polygons : List Polygon) (root : Cell) (day : Day) →
    written form sun polygons root day ≡ columns_written form sun polygons root day ++ night_written form sun polygons root day
unfolding written day_lines columns_written night_written
day_is form sun polygons root day = refl

-- ---- one night

-- what is settled of a night has the lines of the night
pub night_is : (form : Form) (sun : SunChoice) (polygons : List Polygon) (root : Cell) (day : Day) (night : Night) (date : List ℕ) (s : SettledNight) →
    day.night ≡ Some night → date ≡ date_text day.number → IsSettledNight (content_of_night sun polygons root night) s →
    settled_night form date s ≡ night_written form sun polygons root day
unfolding night_written
night_is form sun polygons root day night date s has dated is =
    let c = content_of_night sun polygons root night in
    let lines = λ (d : List ℕ). line_of form (sun_word 0) d c 0 ++ line_of form (sun_word 1) d c 1 in
    ap (λ t. t ++ settled_line form (sun_word 1) date s.set) (line_is form (sun_word 0) date c 0 s.rise is.rise)
    ∙ ap (λ t. line_of form (sun_word 0) date c 0 ++ t) (line_is form (sun_word 1) date c 1 s.set is.set)
    ∙ ap lines dated
    ∙ ap (λ t. line_of form (sun_word 0) (date_text day.number) c 0 ++ t) (sym (append-nil (line_of form (sun_word 1) (date_text day.number) c 1)))
    ∙ ap (λ (n : Option Night). night_lines form sun polygons root day.number (option_map night_of n)) (sym has)

-- a day without a night has none
pub no_night : (form : Form) (sun : SunChoice) (polygons : List Polygon) (root : Cell) (day : Day) → day.night ≡ None →
    night_written form sun polygons root day ≡ []
unfolding night_written
no_night form sun polygons root day has = ap (λ (n : Option Night). night_lines form sun polygons root day.number (option_map night_of n)) has

-- what is not some is none
pub without : {X : Type 0} (o : Option X) → ((x : X) → o ≡ Some x → ⊥) → o ≡ None
without (Some x) not = absurd (not x refl)
without None not = refl

-- ---- all days

lines_same : (form : Form) (sun : SunChoice) (polygons : List Polygon) (root : Cell) (days : List Day) →
    flat_map (written form sun polygons root) days ≡ flat_map (day_lines form sun polygons root) (map day_of days)
unfolding written
lines_same form sun polygons root [] = refl
lines_same form sun polygons root (day ∷ days) =
    ap (λ t. written form sun polygons root day ++ t) (lines_same form sun polygons root days)

-- the canonical line and the lines of all days
pub covering_is : (form : Form) (o : Asked) (r : Ready) (line : List ℕ) → IsReady o r → line ≡ order_line o →
    covering_of form o ≡ line ++ flat_map (written form r.sky.sun r.sky.district r.sky.root) r.days.items
unfolding covering_of
covering_is form o r line is is_line =
    let f = λ (sun : SunChoice) (polygons : List Polygon) (root : Cell). flat_map (day_lines form sun polygons root) (map day_of r.days.items) in
    ap (λ t. order_line o ++ t) (ap (flat_map (day_lines form o.sun o.district (root_over o.district))) (sym is.days)
    ∙ ap (λ s. f s o.district (root_over o.district)) (sym is.sun)
    ∙ ap (λ p. f r.sky.sun p (root_over o.district)) (sym is.district) ∙ ap (f r.sky.sun r.sky.district) (sym is.root)
    ∙ sym (lines_same form r.sky.sun r.sky.district r.sky.root r.days.items))
    ∙ ap (λ t. t ++ flat_map (written form r.sky.sun r.sky.district r.sky.root) r.days.items) (sym is_line)

-- ---- days at once

days_at : (days : List Day) (i : ℕ) (d : List Row) → i < length days → (day : Day) → get_or days i day ≡ day →
    get_or (map rows_of days) i d ≡ rows_of day
days_at days i d inside day is = get_or-map rows_of days i day d inside ∙ ap rows_of is

-- a day of some is that day of the search
pub is_day_in : (made : List (List Row)) (days : List Day) (i : ℕ) (day : Day) → made ≡ map rows_of days → i < length days →
    get_or days i day ≡ day → IsDayIn made i day
is_day_in made days i day same inside is =
    rw same (record { inside = omega (arith, inside, length-map days rows_of); same = days_at days i (rows_of day) inside day is })

-- the count of all days is that of the order's table
pub count_if : {E : Type 0} (o : Asked) (r : Ready) (days : List Day) (result : Result ℕ E) → IsReady o r → days ≡ r.days.items →
    IfOk result (λ count. count ≡ days_undecided (map (searched r.sky.sun r.sky.district r.sky.root) days)) → IfOk result (λ count. count ≡ undecided o)
count_if o r days (Ok count) is same counted =
    count_is o r count is (counted ∙ ap (λ ds. days_undecided (map (searched r.sky.sun r.sky.district r.sky.root) ds)) same)
count_if o r days (Err e) is same counted = tt

-- days from one on are counted behind those before it
pub count_parts : (sun : SunChoice) (polygons : List Polygon) (root : Cell) (days : List Day) (at n : ℕ) →
    days_undecided (map (searched sun polygons root) (take (at + n) days))
    ≡ days_undecided (map (searched sun polygons root) (take at days)) + days_undecided (map (searched sun polygons root) (take n (drop at days)))
count_parts sun polygons root days at n =
    let each = λ (day : Day). day_undecided (searched sun polygons root day) in
    sum_map day_undecided (searched sun polygons root) (take (at + n) days) ∙ sum_parts each days at n
    ∙ ap (λ (m : ℕ). m + sum_by each (take n (drop at days))) (sym (sum_map day_undecided (searched sun polygons root) (take at days)))
    ∙ ap (λ (m : ℕ). days_undecided (map (searched sun polygons root) (take at days)) + m)
    (sym (sum_map day_undecided (searched sun polygons root) (take n (drop at days))))

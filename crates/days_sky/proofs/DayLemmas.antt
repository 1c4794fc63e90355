-- The rows of several days, and their trees.
use Rattle.std.proofs.Common.{◌≡◌, ℕ, zero, suc, ◌+◌, ◌*◌, ◌/◌, ◌%◌, ◌<◌, List, [], ◌∷◌, ◌++◌, length, map, get_or, refl, sym, ap, ◌∙◌, subst, arith, length-append}
use Rattle.std.specs.List.{AllByRecursion as Every}
use Rattle.std.proofs.lemmas.List.{get_or-append_right, get_or-map, get_or_append_left, length-map}
use Rattle.std.proofs.lemmas.List.Elements.{recursion_from_All}
use Rattle.std.proofs.lemmas.Simd.{map-map}
use Rattle.method_table.specs.declared.sun.SunChoice.{SunChoice}
use Rattle.meeus_terms.specs.Suns.{grid_sun_of}
use Rattle.method_table.specs.declared.problem.Problem.{Problem}
use Rattle.method_table.specs.Row.{Row, row_of}
use Rattle.ring_survey.specs.Polygons.{Polygon}
use Rattle.cell_split.specs.declared.cell.Cell.{Cell}
use Rattle.cell_split.specs.declared.cell.Task.{Task}
use Rattle.cell_split.specs.declared.verdict.Verdict.{Verdict}
use Rattle.cell_split.specs.Renumbered.{AnswersAs}
use Rattle.cell_split.specs.Split.{children_of}
use Rattle.cell_split.specs.Tree.{child_tasks, task_of}
use Rattle.cell_split.proofs.Renumbering.{renumbered_trees}
use Rattle.cell_judge.proofs.Lawful.{skies_are_lawful}
use Rattle.cell_judge.specs.Skies.{row_at, sky_content, verdict_on}
use Rattle.days_sky.specs.declared.day.Day.{Day}
use Rattle.days_sky.specs.Days.{DaysHaveTheirOwnTrees, all_rows, days_content, rows_of_day}

-- a day has seven rows
abbrev IsWhole : List Row → Type 0
IsWhole rows = length rows ≡ 7

pub count_of_rows : (days : List (List Row)) → Every IsWhole days → length (all_rows days) ≡ 7 * length days
count_of_rows [] h = refl
count_of_rows (x ∷ xs) h = let rest = count_of_rows xs h.1 in omega (arith, h.0, rest, length-append x (all_rows xs))

-- row k of day i
pub row_of_day : (days : List (List Row)) (i k : ℕ) (rows : List Row) (row : Row) → Every IsWhole days → i < length days → k < 7
    → get_or (all_rows days) (7 * i + k) row ≡ get_or (get_or days i rows) k row
row_of_day [] i k rows row h inside known = absurd (omega arith)
row_of_day (x ∷ xs) zero k rows row h inside known =
    ap (λ (n : ℕ). get_or (x ++ all_rows xs) n row) (omega arith) ∙ get_or_append_left x (all_rows xs) row k (omega (arith, h.0))
row_of_day (x ∷ xs) (suc i) k rows row h inside known =
    get_or-append_right x (all_rows xs) 7 (7 * suc i + k) row h.0 (omega arith)
    ∙ (ap (λ (n : ℕ). get_or (all_rows xs) n row) (omega arith)
    ∙ row_of_day xs i k rows row h.1 (omega arith) known)

pub whole_days : (days : List Day) → Every IsWhole (map rows_of_day days)
whole_days [] = tt
whole_days (d ∷ days) = (length-map d.problems row_of ∙ d.counted, whole_days days)

-- problem n, by its day
row_is : (days : List Day) (n : ℕ) (d : Day) (e : Problem) → n / 7 < length days
    → row_of (get_or (get_or days (n / 7) d).problems (n % 7) e) ≡ row_at (all_rows (map rows_of_day days)) n
row_is days n d e inside =
    let known : n % 7 < 7 = omega arith in
    let same : 7 * (n / 7) + n % 7 ≡ n = omega arith in
    let counted = (get_or days (n / 7) d).counted in
    let P : ℕ → Type 0 = λ m. row_of (get_or (get_or days (n / 7) d).problems (n % 7) e) ≡ row_at (all_rows (map rows_of_day days)) m in
    subst P same (sym (row_of_day (map rows_of_day days) (n / 7) (n % 7) (rows_of_day d) _ (whole_days days) (omega (arith, length-map days rows_of_day)) known
    ∙ (ap (λ (l : List Row). row_at l (n % 7)) (get_or-map rows_of_day days (n / 7) d (rows_of_day d) inside)
    ∙ get_or-map row_of (get_or days (n / 7) d).problems (n % 7) e _ (omega (arith, known, counted)))))

-- the verdict on a task, by the row of its day
pub judged : (sun : SunChoice) (polygons : List Polygon) (days : List Day) (n : ℕ) (cell : Cell) (d : Day) (e : Problem) (v : Verdict) → n / 7 < length days
    → v ≡ verdict_on (grid_sun_of sun) (row_of (get_or (get_or days (n / 7) d).problems (n % 7) e)) polygons cell
    → v ≡ verdict_on (grid_sun_of sun) (row_at (all_rows (map rows_of_day days)) n) polygons cell
judged sun polygons days n cell d e v inside is =
    is ∙ ap (λ (row : Row). verdict_on (grid_sun_of sun) row polygons cell) (row_is days n d e inside)

-- and those on its quarters
pub quarters_judged : (sun : SunChoice) (polygons : List Polygon) (root : Cell) (days : List Day) (t : Task) (d : Day) (e : Problem) (vs : List Verdict) → t.problem / 7 < length days
    → vs ≡ map (verdict_on (grid_sun_of sun) (row_of (get_or (get_or days (t.problem / 7) d).problems (t.problem % 7) e)) polygons) (children_of t.cell)
    → vs ≡ map (days_content sun polygons (map rows_of_day days) root).verdict (child_tasks t)
quarters_judged sun polygons root days t d e vs inside is =
    is
    ∙ (ap (λ (row : Row). map (verdict_on (grid_sun_of sun) row polygons) (children_of t.cell)) (row_is days t.problem d e inside)
    ∙ sym (map-map (days_content sun polygons (map rows_of_day days) root).verdict (task_of t.problem) (children_of t.cell)))

-- problem 7 i + k of several days answers as problem k of day i's own sky
pub own_answers : (sun : SunChoice) (polygons : List Polygon) (root : Cell) (days : List (List Row)) → Every IsWhole days → (i : ℕ) (rows : List Row) →
    i < length days → get_or days i rows ≡ rows → (k : ℕ) → k < 7 →
    AnswersAs (days_content sun polygons days root) (7 * i + k) (sky_content sun polygons rows root) k
own_answers sun polygons root days each i rows inside own k known =
    let day : row_at (all_rows days) (7 * i + k) ≡ row_at rows k =
    row_of_day days i k rows _ each inside known ∙ ap (λ (l : List Row). row_at l k) own in
    record {
      same_root = refl;
      same_verdicts = λ cell in'. ap (λ (row : Row). verdict_on (grid_sun_of sun) row polygons cell) day;
    }

pub own_trees : DaysHaveTheirOwnTrees
own_trees sun polygons root is days each i rows inside own k known =
    renumbered_trees (days_content sun polygons days root) (sky_content sun polygons rows root) (skies_are_lawful sun polygons rows root is) (7 * i + k) k
    (own_answers sun polygons root days (recursion_from_All IsWhole days each) i rows inside own k known)

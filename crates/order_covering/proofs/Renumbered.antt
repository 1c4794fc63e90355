-- What is settled of a tree doesn't depend on the number of its problem.
use Rattle.std.proofs.Common.{◌≡◌, ℕ, zero, suc, ◌+◌, ◌*◌, ◌<◌, ◌≤◌, Bool, true, false, cond, ltb, List, [], ◌∷◌, ◌++◌, length, map, find, get_or, Option, Some, Result, Ok, Err, refl, sym, ap, ◌∙◌, append-nil, subst, arith}
use Rattle.std.specs.Prelude.{IfOk, ◌==◌, ◌&&◌}
use Rattle.std.specs.List.{flat_map}
use Rattle.std.specs.Option.{option_and_then, option_to_list}
use Rattle.meeus_terms.specs.Suns.{grid_sun_of}
use Rattle.method_table.specs.declared.sun.SunChoice.{SunChoice}
use Rattle.night_portion.specs.Few.{first_problems}
use Rattle.night_portion.specs.Sun.{repeated}
use Rattle.order_covering.specs.Covering.{night_content}
use Rattle.order_table.specs.Trees.{entry_at}
use Rattle.method_table.specs.Row.{Row}
use Rattle.ring_survey.specs.Polygons.{Polygon}
use Rattle.cell_split.specs.declared.cell.Cell.{Cell}
use Rattle.cell_split.specs.declared.verdict.Leaf.{Leaf}
use Rattle.cell_split.specs.declared.verdict.Verdict.{Verdict}
use Rattle.cell_split.specs.Cells.{IsCellOf, IsRoot}
use Rattle.cell_split.specs.Entries.{last_ordinal}
use Rattle.cell_split.specs.Judges.{Content, IsLawful}
use Rattle.cell_split.specs.Laws.{IsChildOf}
use Rattle.cell_split.specs.Renumbered.{AnswersAs, renumbered}
use Rattle.cell_split.specs.Split.{children_of}
use Rattle.cell_split.specs.Tree.{child_tasks, levels, root_task, task_of}
use Rattle.cell_split.specs.Verdicts.{is_refuted, is_split}
use Rattle.cell_split.proofs.Every.{Every, Every-weaker, flat_map-map, flat_map_same}
use Rattle.cell_split.proofs.LeafLemmas.{children_are, root_in_itself}
use Rattle.cell_split.proofs.Renumbering.{renumbered_trees}
use Rattle.cell_judge.proofs.Lawful.{skies_are_lawful}
use Rattle.cell_judge.specs.Skies.{row_at, sky_content, verdict_on}
use Rattle.covering.specs.declared.settled.Settled.{Settled}
use Rattle.covering.specs.Letters.{cut, letter_of, letters_of}
use Rattle.covering.specs.Refuted.{first_refuted, rank_of, refuted_at}
use Rattle.covering.specs.Settles.{IsSettled, leaves_of, refuted_ordinal_of}
use Rattle.covering.proofs.Spelling.{letters-step}
use Rattle.cell_judge.specs.declared.sky.Sky.{Sky}
use Rattle.days_sky.specs.declared.day.Day.{Day}
use Rattle.days_sky.specs.Days.{all_rows, days_content, rows_of_day}
use Rattle.days_sky.proofs.DayLemmas.{own_answers}

-- the letters of a task with this verdict, whose children have these
abbrev lettered : ℕ → Cell → List ℕ → Verdict → List ℕ
lettered ordinal cell below v =
    cond (ltb cell.last ordinal) (cut ∷ []) (option_to_list (letter_of v) ++ cond (is_split v) below [])

-- the letters below a cell
letters_below : (c other : Content) (j k ordinal : ℕ) → AnswersAs c j other k → (n : ℕ) (cell : Cell) → levels cell ≤ n → IsCellOf other.root cell →
    letters_of c ordinal (task_of j cell) ≡ letters_of other ordinal (task_of k cell)
letters_below c other j k ordinal answers zero cell small is = absurd (omega arith)
letters_below c other j k ordinal answers (suc n) cell small is =
    let below : flat_map (letters_of c ordinal) (child_tasks (task_of j cell)) ≡ flat_map (letters_of other ordinal) (child_tasks (task_of k cell)) =
    flat_map-map (letters_of c ordinal) (task_of j) (children_of cell)
    ∙ (flat_map_same (λ d. letters_of c ordinal (task_of j d)) (λ d. letters_of other ordinal (task_of k d)) (children_of cell)
    (Every-weaker (IsChildOf other.root cell) (λ d. letters_of c ordinal (task_of j d) ≡ letters_of other ordinal (task_of k d)) (children_of cell)
    (λ d h. letters_below c other j k ordinal answers n d (omega (arith, h.falls)) h.is_cell) (children_are other.root cell is))
    ∙ sym (flat_map-map (letters_of other ordinal) (task_of k) (children_of cell))) in
    letters-step c ordinal (task_of j cell)
    ∙ (ap (lettered ordinal cell (flat_map (letters_of c ordinal) (child_tasks (task_of j cell)))) (answers.same_verdicts cell is)
    ∙ (ap (λ bs. lettered ordinal cell bs (other.verdict (task_of k cell))) below
    ∙ sym (letters-step other ordinal (task_of k cell))))

-- the first refuted leaf
refuted_choice : (b : Bool) (j : ℕ) (l : Leaf) (o p : Option Leaf) → option_and_then refuted_at o ≡ option_and_then refuted_at p →
    option_and_then refuted_at (cond b (Some (renumbered j l)) o) ≡ option_and_then refuted_at (cond b (Some l) p)
refuted_choice true j l o p h = refl
refuted_choice false j l o p h = h

refuted_same : (j ordinal : ℕ) (ls : List Leaf) → first_refuted ordinal (map (renumbered j) ls) ≡ first_refuted ordinal ls
refuted_same j ordinal [] = refl
refuted_same j ordinal (l ∷ ls) =
    refuted_choice (is_refuted l.verdict && (last_ordinal l == ordinal)) j l (find (λ m. is_refuted m.verdict && (last_ordinal m == ordinal)) (map (renumbered j) ls))
    (find (λ m. is_refuted m.verdict && (last_ordinal m == ordinal)) ls) (refuted_same j ordinal ls)

pub settled_as : (c other : Content) → IsLawful other → (j k : ℕ) → AnswersAs c j other k → (s : Settled) → IsSettled c j s → IsSettled other k s
settled_as c other law j k answers s is =
    let tree = renumbered_trees c other law j k answers in
    let ordinal = refuted_ordinal_of other k in
    let letters : letters_of c ordinal (root_task c j) ≡ letters_of other ordinal (root_task other k) =
    ap (λ (root : Cell). letters_of c ordinal (task_of j root)) answers.same_root
    ∙ letters_below c other j k ordinal answers (levels other.root) other.root (omega arith) (root_in_itself other law) in
    record {
      entry = is.entry ∙ tree.same_entry;
      rank = is.rank ∙ ap rank_of tree.same_refuted;
      letters = is.letters ∙ ap (λ (w : ℕ). letters_of c w (root_task c j)) tree.same_refuted ∙ letters;
      refuted = is.refuted ∙ ap (λ (w : ℕ). first_refuted w (leaves_of c j)) tree.same_refuted ∙ ap (first_refuted ordinal) tree.same_leaves
          ∙ refuted_same j ordinal (leaves_of other k);
    }

-- problem 7 i + k of several days is settled as problem k of day i's own sky
pub own_settled : (sun : SunChoice) (polygons : List Polygon) (root : Cell) → IsRoot root → (days : List (List Row)) → Every (λ rows. length rows ≡ 7) days →
    (i : ℕ) (rows : List Row) → i < length days → get_or days i rows ≡ rows → (k : ℕ) → k < 7 → (s : Settled) →
    IsSettled (days_content sun polygons days root) (7 * i + k) s → IsSettled (sky_content sun polygons rows root) k s
own_settled sun polygons root is days each i rows inside own k known s settled =
    settled_as (days_content sun polygons days root) (sky_content sun polygons rows root) (skies_are_lawful sun polygons rows root is) (7 * i + k) k
    (own_answers sun polygons root days each i rows inside own k known) s settled

pub own_settled_if : {E : Type 0} (sun : SunChoice) (polygons : List Polygon) (root : Cell) → IsRoot root → (days : List (List Row)) → Every (λ rows. length rows ≡ 7) days →
    (i : ℕ) (rows : List Row) → i < length days → get_or days i rows ≡ rows → (k : ℕ) → k < 7 → (r : Result Settled E) →
    IfOk r (IsSettled (days_content sun polygons days root) (7 * i + k)) → IfOk r (IsSettled (sky_content sun polygons rows root) k)
own_settled_if sun polygons root is days each i rows inside own k known (Ok s) settled =
    own_settled sun polygons root is days each i rows inside own k known s settled
own_settled_if sun polygons root is days each i rows inside own k known (Err e) settled = tt

-- a problem of the one day that is searched is settled as that of its sky
pub one_settled : (count : ℕ) (sky' sky : Sky) (days : List Day) (rows : List Row) → sky' ≡ sky → map rows_of_day days ≡ rows ∷ [] →
    (k : ℕ) (s : Settled) → IsSettled (first_problems count (days_content sky'.sun sky'.district (map rows_of_day days) sky'.root)) k s →
    IsSettled (sky_content sky.sun sky.district rows sky.root) k s
one_settled count sky' sky days rows same one k s settled =
    let c : Sky → Content = λ x. first_problems count (days_content x.sun x.district (map rows_of_day days) x.root) in
    let day : row_at (all_rows (map rows_of_day days)) k ≡ row_at rows k =
    ap (λ (l : List (List Row)). row_at (all_rows l) k) one ∙ ap (λ (l : List Row). row_at l k) (append-nil rows) in
    settled_as (c sky) (sky_content sky.sun sky.district rows sky.root) (skies_are_lawful sky.sun sky.district rows sky.root sky.lawful.root) k k (record {
      same_root = refl;
      same_verdicts = λ cell in'. ap (λ (row : Row). verdict_on (grid_sun_of sky.sun) row sky.district cell) day;
    }) s (subst (λ (x : Sky). IsSettled (c x) k s) same settled)

same_row : (rows : List Row) (k : ℕ) → k < 2 → row_at (repeated rows) k ≡ row_at rows k
same_row rows zero known = refl
same_row rows (suc zero) known = refl
same_row rows (suc (suc k)) known = absurd (omega (arith, known))

-- sunrise and sunset have the entries that the table has of them
pub night_entry_is : (sun : SunChoice) (polygons : List Polygon) (root : Cell) (rows : List Row) (k : ℕ) → IsRoot root → k < 2 →
    entry_at (night_content sun polygons root rows) k ≡ entry_at (sky_content sun polygons rows root) k
night_entry_is sun polygons root rows k is known =
    (renumbered_trees (night_content sun polygons root rows) (sky_content sun polygons rows root) (skies_are_lawful sun polygons rows root is) k k (record {
      same_root = refl;
      same_verdicts = λ cell in'. ap (λ (row : Row). verdict_on (grid_sun_of sun) row polygons cell) (same_row rows k known);
    })).same_entry

-- The runs of a settled tree are short: at most three letters a level and a few.
use Rattle.std.proofs.Common.{◌≡◌, ℕ, ◌+◌, ◌-◌, ◌*◌, ◌^◌, ◌<◌, ◌≤◌, Bool, true, false, cond, eqb, ltb, List, [], ◌∷◌, ◌++◌, append-nil, append_assoc, length, max, refl, sym, ap, ◌∙◌, subst, arith}
use Rattle.std.specs.Prelude.{⊤, take}
use Rattle.std.specs.List.{flat_map}
use Rattle.std.specs.Option.{option_to_list}
use Rattle.std.proofs.lemmas.Bool.{false≢true}
use Rattle.std.proofs.lemmas.Bool.Decides.{nat_tests}
use Rattle.cell_split.specs.declared.cell.Cell.{Cell}
use Rattle.cell_split.specs.declared.cell.Task.{Task}
use Rattle.cell_split.specs.declared.verdict.Leaf.{Leaf}
use Rattle.cell_split.specs.declared.verdict.Verdict.{Verdict}
use Rattle.cell_split.specs.declared.verdict.Verdict.TheVariants.{Outside, Proved, Refuted, Split, Open}
use Rattle.cell_split.specs.Entries.{greatest_ordinal, last_ordinal, refuted_ordinal}
use Rattle.cell_split.specs.Judges.{Content, IsLawful, IsTask}
use Rattle.cell_split.specs.Split.{children_of}
use Rattle.cell_split.specs.Tree.{leaf_of, leaves, levels, root_task, task_of}
use Rattle.cell_split.specs.Verdicts.{is_refuted, is_split}
use Rattle.cell_split.proofs.Every.{Every, Every-both, Every-weaker, flat_map-map}
use Rattle.cell_split.proofs.LeafLemmas.{PassesDown, by_tree, root_is_task, split_not_smallest, tasks_down}
use Rattle.cell_split.proofs.SplitLemmas.{by_split, levels_fall, smallest_is}
use Rattle.cell_split.proofs.TreeLemmas.{leaves_of_leaf, leaves_of_split}
use Rattle.covering.specs.Letters.{is_letter, letter_of, letters_of}
use Rattle.covering.specs.Runs.{runs_in, with_run}
use Rattle.covering.specs.Settles.{refuted_ordinal_of}
use Rattle.plain_search.proofs.Greatest.{greatest-append}
use Rattle.covering.proofs.Spelling.{letters_of_cut, letters_of_leaf, letters_of_split}
use Rattle.covering_laws.proofs.Runs.{IsRun}

-- ---- one letter more

-- the first run has at most so many letters: `s`, or another
abbrev BeginsWith : ℕ → ℕ → List (ℕ × ℕ) → Type 0
BeginsWith splits others [] = ⊤
BeginsWith splits others (run ∷ runs) = run.0 ≤ cond (eqb run.1 115) splits others

abbrev AreShort : ℕ → ℕ → List (ℕ × ℕ) → Type 0
AreShort splits others runs = Every IsRun runs × BeginsWith splits others runs

-- a letter that isn't `s`
short_other : (b splits others next : ℕ) (runs : List (ℕ × ℕ)) → is_letter b ≡ true → eqb b 115 ≡ false → others + 1 < 10 ^ 9 → AreShort splits others runs → AreShort next (others + 1) (with_run 1 b runs)
short_other b splits others next [] letter other few h = (((omega arith, omega arith, letter), tt), rw other (omega arith))
short_other b splits others next (run ∷ runs) letter other few h = by (eqb b run.1) refl
  where
    by : (t : Bool) → eqb b run.1 ≡ t → AreShort next (others + 1) (cond t ((1 + run.0, b) ∷ runs) ((1, b) ∷ run ∷ runs))
    by true e =
        let same : b ≡ run.1 = grind (arith, nat_tests) in
        let long : run.0 ≤ others = subst (λ (t : Bool). run.0 ≤ cond t splits others) (ap (λ (c : ℕ). eqb c 115) (sym same) ∙ other) h.1 in
        (((omega arith, omega arith, letter), h.0.1), rw other (omega arith))
    by false e = (((omega arith, omega arith, letter), h.0), rw other (omega arith))

-- an `s`
short_split : (splits others next : ℕ) (runs : List (ℕ × ℕ)) → splits + 1 < 10 ^ 9 → AreShort splits others runs → AreShort (splits + 1) next (with_run 1 115 runs)
short_split splits others next [] few h = (((omega arith, omega arith, refl), tt), omega arith)
short_split splits others next (run ∷ runs) few h = by (eqb 115 run.1) refl
  where
    by : (t : Bool) → eqb 115 run.1 ≡ t → AreShort (splits + 1) next (cond t ((1 + run.0, 115) ∷ runs) ((1, 115) ∷ run ∷ runs))
    by true e =
        let same : 115 ≡ run.1 = grind (arith, nat_tests) in
        let long : run.0 ≤ splits = subst (λ (t : Bool). run.0 ≤ cond t splits others) (ap (λ (c : ℕ). eqb c 115) (sym same)) h.1 in
        (((omega arith, omega arith, refl), h.0.1), omega arith)
    by false e = (((omega arith, omega arith, refl), h.0), omega arith)

begins_more : (a b others : ℕ) (runs : List (ℕ × ℕ)) → a ≤ b → BeginsWith a others runs → BeginsWith b others runs
begins_more a b others [] more h = tt
begins_more a b others (run ∷ runs) more h = by (eqb run.1 115) h
  where
    by : (t : Bool) → run.0 ≤ cond t a others → run.0 ≤ cond t b others
    by true h = omega arith
    by false h = h

-- ---- the letters of a task before others

-- They end with a letter that isn't `s`, and lengthen a run that comes behind them by at most one letter; or they begin with at most
-- `levels` letters `s`. Within them no run is longer than three letters a level and what comes behind.
abbrev Lengthens : ℕ → List ℕ → Type 0
Lengthens n letters =
    (splits others : ℕ) (rest : List ℕ) → others + 3 * n + 1 < 10 ^ 9 → AreShort splits others (runs_in rest) → AreShort n (others + 1) (runs_in (letters ++ rest))

lengthens_more : (m n : ℕ) (letters : List ℕ) → m ≤ n → Lengthens m letters → Lengthens n letters
lengthens_more m n letters more h splits others rest few short =
    let own = h splits others rest (omega arith) short in
    (own.0, begins_more m n (others + 1) (runs_in (letters ++ rest)) more own.1)

lengthens_letter : (n b : ℕ) → is_letter b ≡ true → eqb b 115 ≡ false → Lengthens n (b ∷ [])
lengthens_letter n b letter other splits others rest few short = short_other b splits others n (runs_in rest) letter other (omega arith) short

-- the letters of tasks one after another
lengthens_each : {X : Type 0} (f : X → List ℕ) (n : ℕ) (t : X) (ts : List X) → Every (λ u. Lengthens n (f u)) (t ∷ ts) → (splits others : ℕ) (rest : List ℕ) → others + length ts + 3 * n + 1 < 10 ^ 9 → AreShort splits others (runs_in rest) → AreShort n (others + length ts + 1) (runs_in (flat_map f (t ∷ ts) ++ rest))
lengthens_each f n t [] h splits others rest few short =
    let one = h.0 splits others rest (omega arith) short in
    let same : flat_map f (t ∷ []) ++ rest ≡ f t ++ rest = ap (λ (ls : List ℕ). ls ++ rest) (append-nil (f t)) in
    subst (λ (ls : List ℕ). AreShort n (others + 0 + 1) (runs_in ls)) (sym same) (subst (λ (m : ℕ). AreShort n m (runs_in (f t ++ rest))) (omega arith) one)
lengthens_each f n t (u ∷ us) h splits others rest few short =
    let below = lengthens_each f n u us h.1 splits others rest (omega arith) short in
    let one = h.0 n (others + length us + 1) (flat_map f (u ∷ us) ++ rest) (omega arith) below in
    let same : flat_map f (t ∷ u ∷ us) ++ rest ≡ f t ++ (flat_map f (u ∷ us) ++ rest) = append_assoc (f t) (flat_map f (u ∷ us)) rest in
    subst (λ (ls : List ℕ). AreShort n (others + length (u ∷ us) + 1) (runs_in ls)) (sym same) (subst (λ (m : ℕ). AreShort n m (runs_in (f t ++ (flat_map f (u ∷ us) ++ rest)))) (omega arith) one)

-- a split task has one to four children
abbrev AreFew : {X : Type 0} → List X → Type 0
AreFew [] = ⊥
AreFew (x ∷ xs) = length xs ≤ 3

few_children : (c : Content) (t : Task) → IsLawful c → IsTask c t → is_split (c.verdict t) ≡ true → AreFew (children_of t.cell)
few_children c t law k s =
    by_split (λ ch. AreFew (take ch.count ch.cells)) t.cell (λ e. omega arith) (λ e f. omega arith)
    (λ e f. absurd (false≢true (sym (split_not_smallest c t law k s) ∙ smallest_is t.cell k.cell.formed e f)))

lengthens_split : {X : Type 0} (f : X → List ℕ) (n : ℕ) (ts : List X) → AreFew ts → Every (λ u. Lengthens n (f u)) ts → Lengthens (n + 1) (115 ∷ flat_map f ts)
lengthens_split f n [] few h splits others rest bound short = absurd few
lengthens_split f n (t ∷ ts) few h splits others rest bound short =
    let below = lengthens_each f n t ts h splits others rest (omega arith) short in
    short_split n (others + length ts + 1) (others + 1) (runs_in (flat_map f (t ∷ ts) ++ rest)) (omega arith) below

-- ---- the letters of each task

-- no leaf of it is refuted above the ordinal
abbrev IsLow : Content → ℕ → Task → Type 0
IsLow c ordinal t = IsTask c t × (refuted_ordinal (leaves c t) ≤ ordinal)

greatest_parts : {X : Type 0} (test : Leaf → Bool) (n : ℕ) (f : X → List Leaf) (xs : List X) → greatest_ordinal test (flat_map f xs) ≤ n → Every (λ x. greatest_ordinal test (f x) ≤ n) xs
greatest_parts test n f [] h = tt
greatest_parts test n f (x ∷ xs) h =
    let parts = greatest-append test (f x) (flat_map f xs) in
    (omega arith, greatest_parts test n f xs (omega arith))

low_down : (c : Content) (ordinal : ℕ) → PassesDown c (IsLow c ordinal)
low_down c ordinal t k s =
    let below = leaves_of_split c t s ∙ flat_map-map (leaves c) (task_of t.problem) (children_of t.cell) in
    Every-both (λ d. IsTask c (task_of t.problem d)) (λ d. refuted_ordinal (leaves c (task_of t.problem d)) ≤ ordinal) (children_of t.cell) (tasks_down c t k.0 s)
    (greatest_parts (λ l. is_refuted l.verdict) ordinal (λ d. leaves c (task_of t.problem d)) (children_of t.cell) (subst (λ ls. refuted_ordinal ls ≤ ordinal) below k.1))

lengthens_verdict : (n : ℕ) (v : Verdict) → is_split v ≡ false → is_refuted v ≡ false → Lengthens n (option_to_list (letter_of v) ++ [])
lengthens_verdict n Outside s r = lengthens_letter n 120 refl refl
lengthens_verdict n Proved s r = lengthens_letter n 112 refl refl
lengthens_verdict n (Open p) s r = lengthens_letter n 111 refl refl
lengthens_verdict n (Refuted p) s r = absurd (false≢true (sym r))
lengthens_verdict n Split s r = absurd (false≢true (sym s))

-- a leaf that isn't cut isn't refuted
unrefuted : (c : Content) (ordinal : ℕ) (t : Task) → IsLow c ordinal t → is_split (c.verdict t) ≡ false → ltb t.cell.last ordinal ≡ false → is_refuted (c.verdict t) ≡ false
unrefuted c ordinal t k s uncut = by (is_refuted (c.verdict t)) refl
  where
    by : (b : Bool) → is_refuted (c.verdict t) ≡ b → is_refuted (c.verdict t) ≡ false
    by false e = e
    by true e =
        let late : max (last_ordinal (leaf_of c t)) 0 ≤ ordinal = subst (λ (b : Bool). max (cond b (last_ordinal (leaf_of c t)) 0) 0 ≤ ordinal) e (subst (λ ls. refuted_ordinal ls ≤ ordinal) (leaves_of_leaf c t s) k.1) in
        let above : ordinal ≤ t.cell.last = grind (arith, nat_tests) in
        absurd (omega arith)

-- the letters of each task, with as many levels as it has
abbrev LettersLengthen : Content → ℕ → Task → Type 0
LettersLengthen c ordinal t = Lengthens (levels t.cell) (letters_of c ordinal t)

at_cut : (c : Content) (ordinal : ℕ) (t : Task) → ltb t.cell.last ordinal ≡ true → LettersLengthen c ordinal t
at_cut c ordinal t cut = subst (Lengthens (levels t.cell)) (sym (letters_of_cut c ordinal t cut)) (lengthens_letter (levels t.cell) 107 refl refl)

at_leaf : (c : Content) (ordinal : ℕ) (t : Task) → IsLow c ordinal t → is_split (c.verdict t) ≡ false → LettersLengthen c ordinal t
at_leaf c ordinal t k s = by (ltb t.cell.last ordinal) refl
  where
    by : (b : Bool) → ltb t.cell.last ordinal ≡ b → LettersLengthen c ordinal t
    by true cut = at_cut c ordinal t cut
    by false uncut = subst (Lengthens (levels t.cell)) (sym (letters_of_leaf c ordinal t uncut s)) (lengthens_verdict (levels t.cell) (c.verdict t) s (unrefuted c ordinal t k s uncut))

split_letter : (v : Verdict) (below : List ℕ) → is_split v ≡ true → option_to_list (letter_of v) ++ below ≡ 115 ∷ below
split_letter Split below s = refl
split_letter Outside below s = absurd (false≢true s)
split_letter Proved below s = absurd (false≢true s)
split_letter (Refuted p) below s = absurd (false≢true s)
split_letter (Open p) below s = absurd (false≢true s)

at_split : (c : Content) (ordinal : ℕ) (t : Task) → IsLawful c → IsTask c t → is_split (c.verdict t) ≡ true → Every (λ d. LettersLengthen c ordinal (task_of t.problem d)) (children_of t.cell) → LettersLengthen c ordinal t
at_split c ordinal t law k s below = by (ltb t.cell.last ordinal) refl
  where
    n : ℕ
    n = t.cell.size + (t.cell.last - t.cell.first)

    letters : Cell → List ℕ
    letters d = letters_of c ordinal (task_of t.problem d)

    each : Every (λ d. Lengthens n (letters d)) (children_of t.cell)
    each =
        Every-weaker (λ d. (levels d < levels t.cell) × LettersLengthen c ordinal (task_of t.problem d)) (λ d. Lengthens n (letters d)) (children_of t.cell)
        (λ d h. lengthens_more (levels d) n (letters d) (let fewer = h.0 in omega arith) h.1)
        (Every-both (λ d. levels d < levels t.cell) (λ d. LettersLengthen c ordinal (task_of t.problem d)) (children_of t.cell) (levels_fall t.cell) below)

    by : (b : Bool) → ltb t.cell.last ordinal ≡ b → LettersLengthen c ordinal t
    by true cut = at_cut c ordinal t cut
    by false uncut =
        let spelled = letters_of_split c ordinal t uncut s ∙ split_letter (c.verdict t) (flat_map letters (children_of t.cell)) s in
        subst (Lengthens (levels t.cell)) (sym spelled)
        (lengthens_more (n + 1) (levels t.cell) (115 ∷ flat_map letters (children_of t.cell)) (omega arith) (lengthens_split letters n (children_of t.cell) (few_children c t law k s) each))

letters_lengthen : (c : Content) (ordinal : ℕ) (t : Task) → IsLawful c → IsLow c ordinal t → LettersLengthen c ordinal t
letters_lengthen c ordinal t law k =
    by_tree c (IsLow c ordinal) (λ u ls. LettersLengthen c ordinal u) (low_down c ordinal)
    (λ u h s. at_leaf c ordinal u h s) (λ u h s below. at_split c ordinal u law h.0 s below) (levels t.cell) t (omega arith) k

-- each run of a settled tree has at most nine digits
pub runs_are_short : (c : Content) → IsLawful c → (problem : ℕ) → problem < c.problems → Every IsRun (runs_in (letters_of c (refuted_ordinal_of c problem) (root_task c problem)))
runs_are_short c law problem known =
    let ordinal = refuted_ordinal_of c problem in
    let t = root_task c problem in
    let task = root_is_task c law problem known in
    let large = task.cell.formed.not_large in
    let frame = task.cell.formed.in_frame in
    let short = letters_lengthen c ordinal t law (task, omega arith) 0 0 [] (omega arith) (tt, tt) in
    subst (λ (ls : List ℕ). Every IsRun (runs_in ls)) (append-nil (letters_of c ordinal t)) short.0

-- The letters of a split cell are its own and those of its children, and each is one of the five.
use Rattle.std.proofs.Common.{◌≡◌, ℕ, zero, suc, ◌+◌, ◌-◌, ◌<◌, ◌≤◌, Bool, true, false, cond, List, [], ◌∷◌, ◌++◌, ltb, append-nil, append_assoc, get_or, length, take, refl, sym, ap, ◌∙◌, arith}
use Rattle.std.specs.List.{flat_map, list_all}
use Rattle.std.specs.Option.{option_to_list}
use Rattle.std.proofs.lemmas.List.{take_all}
use Rattle.std.proofs.lemmas.List.Folds.{list_all-append}
use Rattle.cell_split.specs.declared.cell.Cell.{Cell}
use Rattle.cell_split.specs.declared.cell.Task.{Task}
use Rattle.cell_split.specs.declared.verdict.Verdict.{Verdict}
use Rattle.cell_split.specs.declared.verdict.Verdict.TheVariants.{Outside, Proved, Refuted, Split, Open}
use Rattle.cell_split.specs.Judges.{Content}
use Rattle.cell_split.specs.Split.{children_of}
use Rattle.cell_split.specs.Tree.{child_tasks, levels, task_of}
use Rattle.cell_split.specs.Verdicts.{is_split}
use Rattle.cell_split.proofs.Every.{Every, Every-all, Every-map, Every-weaker, flat_map-map, flat_map_same}
use Rattle.cell_split.proofs.SplitLemmas.{levels_fall}
use Rattle.covering.specs.Letters.{cut, is_letter, letter_of, letters_of, letters_to}
use Rattle.covering.proofs.Parts.{parts_more}

-- the letters of a task whose children have these
abbrev pub spelled_by : Content → ℕ → Task → List ℕ → List ℕ
spelled_by c ordinal t below =
    cond (ltb t.cell.last ordinal) (cut ∷ []) (option_to_list (letter_of (c.verdict t)) ++ cond (is_split (c.verdict t)) below [])

letters_to-same : (n m : ℕ) (c : Content) (ordinal : ℕ) (t : Task) → levels t.cell ≤ n → levels t.cell ≤ m → letters_to n c ordinal t ≡ letters_to m c ordinal t
unfolding letters_to
letters_to-same zero m c ordinal t h k = absurd (omega arith)
letters_to-same (suc n) zero c ordinal t h k = absurd (omega arith)
letters_to-same (suc n) (suc m) c ordinal t h k =
    ap (spelled_by c ordinal t) (flat_map_same (letters_to n c ordinal) (letters_to m c ordinal) (child_tasks t)
    (Every-map (λ u. letters_to n c ordinal u ≡ letters_to m c ordinal u) (task_of t.problem) (children_of t.cell)
    (Every-weaker (λ d. levels d < levels t.cell) (λ d. letters_to n c ordinal (task_of t.problem d) ≡ letters_to m c ordinal (task_of t.problem d)) (children_of t.cell)
    (λ d f. letters_to-same n m c ordinal (task_of t.problem d) (omega arith) (omega arith)) (levels_fall t.cell))))

pub letters-step : (c : Content) (ordinal : ℕ) (t : Task) → letters_of c ordinal t ≡ spelled_by c ordinal t (flat_map (letters_of c ordinal) (child_tasks t))
unfolding letters_of letters_to
letters-step c ordinal t =
    let n = t.cell.size + (t.cell.last - t.cell.first) in
    ap (spelled_by c ordinal t) (flat_map_same (letters_to n c ordinal) (letters_of c ordinal) (child_tasks t)
    (Every-map (λ u. letters_to n c ordinal u ≡ letters_of c ordinal u) (task_of t.problem) (children_of t.cell)
    (Every-weaker (λ d. levels d < levels t.cell) (λ d. letters_to n c ordinal (task_of t.problem d) ≡ letters_of c ordinal (task_of t.problem d)) (children_of t.cell)
    (λ d f. letters_to-same n (levels d) c ordinal (task_of t.problem d) (omega arith) (omega arith)) (levels_fall t.cell))))

-- the letters of the children, in order
abbrev pub letters_below : Content → ℕ → Task → List ℕ
letters_below c ordinal t = flat_map (λ d. letters_of c ordinal (task_of t.problem d)) (children_of t.cell)

below_same : (c : Content) (ordinal : ℕ) (t : Task) → flat_map (letters_of c ordinal) (child_tasks t) ≡ letters_below c ordinal t
below_same c ordinal t = flat_map-map (letters_of c ordinal) (task_of t.problem) (children_of t.cell)

pub letters_of_cut : (c : Content) (ordinal : ℕ) (t : Task) → ltb t.cell.last ordinal ≡ true → letters_of c ordinal t ≡ cut ∷ []
letters_of_cut c ordinal t e =
    letters-step c ordinal t ∙ ap (λ (b : Bool). cond b (cut ∷ []) (option_to_list (letter_of (c.verdict t)) ++ cond (is_split (c.verdict t)) (flat_map (letters_of c ordinal) (child_tasks t)) [])) e

uncut : (c : Content) (ordinal : ℕ) (t : Task) → ltb t.cell.last ordinal ≡ false → letters_of c ordinal t ≡ option_to_list (letter_of (c.verdict t)) ++ cond (is_split (c.verdict t)) (letters_below c ordinal t) []
uncut c ordinal t e =
    letters-step c ordinal t ∙ (ap (λ (b : Bool). cond b (cut ∷ []) (option_to_list (letter_of (c.verdict t)) ++ cond (is_split (c.verdict t)) (flat_map (letters_of c ordinal) (child_tasks t)) [])) e ∙ ap (λ ls. option_to_list (letter_of (c.verdict t)) ++ cond (is_split (c.verdict t)) ls []) (below_same c ordinal t))

pub letters_of_split : (c : Content) (ordinal : ℕ) (t : Task) → ltb t.cell.last ordinal ≡ false → is_split (c.verdict t) ≡ true → letters_of c ordinal t ≡ option_to_list (letter_of (c.verdict t)) ++ letters_below c ordinal t
letters_of_split c ordinal t e s =
    uncut c ordinal t e ∙ ap (λ (b : Bool). option_to_list (letter_of (c.verdict t)) ++ cond b (letters_below c ordinal t) []) s

pub letters_of_leaf : (c : Content) (ordinal : ℕ) (t : Task) → ltb t.cell.last ordinal ≡ false → is_split (c.verdict t) ≡ false → letters_of c ordinal t ≡ option_to_list (letter_of (c.verdict t)) ++ []
letters_of_leaf c ordinal t e s =
    uncut c ordinal t e ∙ ap (λ (b : Bool). option_to_list (letter_of (c.verdict t)) ++ cond b (letters_below c ordinal t) []) s

-- each is one of the five
abbrev AreLetters : List ℕ → Type 0
AreLetters bs = list_all is_letter bs ≡ true

letters-append : (xs ys : List ℕ) → AreLetters xs → AreLetters ys → AreLetters (xs ++ ys)
letters-append xs ys h k = rw (list_all-append is_letter xs ys, h) k

letters-verdict : (v : Verdict) → AreLetters (option_to_list (letter_of v))
letters-verdict Outside = refl
letters-verdict Proved = refl
letters-verdict (Refuted p) = refl
letters-verdict (Open p) = refl
letters-verdict Split = refl

letters-flat_map : {X : Type 0} (f : X → List ℕ) (xs : List X) → Every (λ x. AreLetters (f x)) xs → AreLetters (flat_map f xs)
letters-flat_map f [] h = refl
letters-flat_map f (x ∷ xs) h = letters-append (f x) (flat_map f xs) h.0 (letters-flat_map f xs h.1)

letters-cond : (b : Bool) (xs ys : List ℕ) → AreLetters xs → AreLetters ys → AreLetters (cond b xs ys)
letters-cond true xs ys h k = h
letters-cond false xs ys h k = k

letters_to-letters : (n : ℕ) (c : Content) (ordinal : ℕ) (t : Task) → AreLetters (letters_to n c ordinal t)
unfolding letters_to
letters_to-letters zero c ordinal t = refl
letters_to-letters (suc n) c ordinal t =
    letters-cond (ltb t.cell.last ordinal) (cut ∷ []) (option_to_list (letter_of (c.verdict t)) ++ cond (is_split (c.verdict t)) (flat_map (letters_to n c ordinal) (child_tasks t)) []) refl
    (letters-append (option_to_list (letter_of (c.verdict t))) (cond (is_split (c.verdict t)) (flat_map (letters_to n c ordinal) (child_tasks t)) []) (letters-verdict (c.verdict t))
    (letters-cond (is_split (c.verdict t)) (flat_map (letters_to n c ordinal) (child_tasks t)) []
    (letters-flat_map (letters_to n c ordinal) (child_tasks t) (Every-all (λ u. AreLetters (letters_to n c ordinal u)) (child_tasks t) (letters_to-letters n c ordinal))) refl))

pub letters_are : (c : Content) (ordinal : ℕ) (t : Task) → list_all is_letter (letters_of c ordinal t) ≡ true
unfolding letters_of
letters_are c ordinal t = letters_to-letters (levels t.cell) c ordinal t

-- the letters of the children so far are written
abbrev pub AreWritten : Content → ℕ → Task → List Cell → ℕ → List ℕ → List ℕ → Type 0
AreWritten c ordinal t cells i before now =
    now ≡ before ++ flat_map (λ d. letters_of c ordinal (task_of t.problem d)) (take i cells)

pub written_more : (c : Content) (ordinal : ℕ) (t : Task) (cells : List Cell) (i : ℕ) (d : Cell) (start before now : List ℕ) → i < length cells → AreWritten c ordinal t cells i start before → now ≡ before ++ letters_of c ordinal (task_of t.problem (get_or cells i d)) → AreWritten c ordinal t cells (i + 1) start now
written_more c ordinal t cells i d start before now inside written next =
    let f : Cell → List ℕ = λ cell. letters_of c ordinal (task_of t.problem cell) in
    next ∙ (ap (λ bs. bs ++ f (get_or cells i d)) written ∙ (append_assoc start (flat_map f (take i cells)) (f (get_or cells i d)) ∙ ap (λ bs. start ++ bs) (sym (parts_more f cells i d inside))))

pub written_all : (c : Content) (ordinal : ℕ) (t : Task) (cells : List Cell) (i : ℕ) (start now : List ℕ) → cells ≡ children_of t.cell → length cells ≤ i → AreWritten c ordinal t cells i start now → now ≡ start ++ flat_map (letters_of c ordinal) (child_tasks t)
written_all c ordinal t cells i start now same end written =
    let all : take i cells ≡ children_of t.cell = take_all i cells end ∙ same in
    written ∙ ap (λ bs. start ++ bs) (ap (flat_map (λ d. letters_of c ordinal (task_of t.problem d))) all ∙ sym (below_same c ordinal t))

-- the letter of a split cell, and then those of its children
pub written_split : (c : Content) (ordinal : ℕ) (t : Task) (v : Verdict) (start own now : List ℕ) → v ≡ c.verdict t → ltb t.cell.last ordinal ≡ false → is_split v ≡ true → own ≡ start ++ option_to_list (letter_of v) → now ≡ own ++ flat_map (letters_of c ordinal) (child_tasks t) → now ≡ start ++ letters_of c ordinal t
written_split c ordinal t v start own now judged uncut split first rest =
    let letter = option_to_list (letter_of v) in
    let below = flat_map (letters_of c ordinal) (child_tasks t) in
    let whole : letters_of c ordinal t ≡ letter ++ below = letters_of_split c ordinal t uncut (sym (ap is_split judged) ∙ split) ∙ (ap (λ (w : Verdict). option_to_list (letter_of w) ++ letters_below c ordinal t) (sym judged) ∙ ap (λ bs. letter ++ bs) (sym (below_same c ordinal t))) in
    rest ∙ (ap (λ bs. bs ++ below) first ∙ (append_assoc start letter below ∙ ap (λ bs. start ++ bs) (sym whole)))

-- the letter of any other cell
pub written_leaf : (c : Content) (ordinal : ℕ) (t : Task) (v : Verdict) (start now : List ℕ) → v ≡ c.verdict t → ltb t.cell.last ordinal ≡ false → is_split v ≡ false → now ≡ start ++ option_to_list (letter_of v) → now ≡ start ++ letters_of c ordinal t
written_leaf c ordinal t v start now judged uncut leaf own =
    let whole : letters_of c ordinal t ≡ option_to_list (letter_of v) = letters_of_leaf c ordinal t uncut (sym (ap is_split judged) ∙ leaf) ∙ (append-nil (option_to_list (letter_of (c.verdict t))) ∙ ap (λ (w : Verdict). option_to_list (letter_of w)) (sym judged)) in
    own ∙ ap (λ bs. start ++ bs) (sym whole)

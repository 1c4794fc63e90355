-- The letters of a settled tree show it again.
use Rattle.std.proofs.Common.{◌≡◌, ℕ, zero, suc, ◌-◌, ◌<◌, ◌≤◌, Bool, true, false, cond, eqb, ltb, List, [], ◌∷◌, ◌++◌, find, map, max, Option, Some, None, Result, Ok, refl, sym, ap, ◌∙◌, subst, arith}
use Rattle.std.specs.Prelude.{◌&&◌}
use Rattle.std.specs.List.{flat_map}
use Rattle.std.specs.Option.{option_and_then, is_some, option_or, option_to_list}
use Rattle.std.specs.Ordering.{int_eq}
use Rattle.std.proofs.lemmas.Bool.{false≢true}
use Rattle.std.proofs.lemmas.Bool.Decides.{Decides-int_eq, nat_tests}
use Rattle.std.proofs.lemmas.List.Concat.{flat_map-append}
use Rattle.std.proofs.lemmas.List.Folds.{find-append}
use Rattle.plane_edges.specs.declared.points.Point.{Point}
use Rattle.plane_edges.proofs.Truth.{and_left, and_right, and_true}
use Rattle.cell_split.specs.declared.cell.Cell.{Cell}
use Rattle.cell_split.specs.declared.cell.Task.{Task}
use Rattle.cell_split.specs.declared.verdict.Leaf.{Leaf}
use Rattle.cell_split.specs.declared.verdict.Verdict.{Verdict}
use Rattle.cell_split.specs.declared.verdict.Verdict.TheVariants.{Outside, Proved, Refuted, Split, Open}
use Rattle.cell_split.specs.Entries.{entry_by, first_open, greatest_ordinal, is_open_above, last_ordinal, open_ordinal, refuted_ordinal}
use Rattle.cell_split.specs.Judges.{Content, IsLawful, IsTask}
use Rattle.cell_split.specs.Split.{children_of}
use Rattle.cell_split.specs.Tree.{IsLeafOf, child_tasks, leaf_of, leaves, levels, root_task, task_of, top}
use Rattle.cell_split.specs.Verdicts.{is_open, is_refuted, is_split}
use Rattle.cell_split.proofs.Every.{Every, Every-both, Every-flat_map, Every-map, Every-weaker, flat_map_same}
use Rattle.cell_split.proofs.LeafLemmas.{IsUnder, leaves_in_tree, leaves_under, root_is_task, tasks_down}
use Rattle.cell_split.proofs.SplitLemmas.{levels_fall}
use Rattle.cell_split.proofs.TreeLemmas.{leaves_of_leaf, leaves_of_split}
use Rattle.covering.specs.declared.settled.Settled.{Settled}
use Rattle.covering.specs.Letters.{letter_of, letters_of}
use Rattle.covering.specs.Refuted.{first_refuted, refuted_at}
use Rattle.covering.specs.Settles.{IsSettled, leaves_of, refuted_ordinal_of}
use Rattle.covering.proofs.Entering.{none_open}
use Rattle.plain_search.proofs.Greatest.{greatest-append, greatest_above, greatest_found, greatest_none}
use Rattle.plain_search.proofs.OpenLeaves.{leaves_in_root}
use Rattle.covering.proofs.Refuting.{none_refuted}
use Rattle.covering.proofs.Spelling.{letters_of_cut, letters-step}
use Rattle.covering.proofs.Walking.{find_none, found_has}
use Rattle.covering_check.specs.declared.claim.Claim.{Claim}
use Rattle.covering_check.specs.declared.claim.Claim.TheVariants.{UpTo}
use Rattle.covering_check.specs.declared.fault.CoverFault.{CoverFault}
use Rattle.covering_check.specs.declared.mark.Mark.{Mark}
use Rattle.covering_check.specs.Acceptance.{claim_for, numbers_of}
use Rattle.covering_check.specs.Cells.{is_cell_of}
use Rattle.covering_check.specs.Checks.{answer_by, entry_over, is_failing, is_refuted_at, shown_by}
use Rattle.covering_check.specs.Gives.{◌>>=◌}
use Rattle.covering_check.specs.Marks.{Marks}
use Rattle.covering_check.specs.Members.{ordinal_of_claim}
use Rattle.covering_check.specs.Visits.{is_letter_for, letter_for, taken, visited}
use Rattle.covering_check.proofs.CellTests.{cell_true}
use Rattle.covering_check.proofs.Taking.{visited_cut, visited_leaf, visited_split}

-- ---- the letters of the cells that are named

abbrev spelled : ℕ → Leaf → List ℕ
spelled ordinal l = option_to_list (letter_for ordinal l)

flat_map_twice : {X Y Z : Type 0} (g : Y → List Z) (f : X → List Y) (xs : List X) → flat_map g (flat_map f xs) ≡ flat_map (λ x. flat_map g (f x)) xs
flat_map_twice g f [] = refl
flat_map_twice g f (x ∷ xs) = flat_map-append g (f x) (flat_map f xs) ∙ ap (λ zs. flat_map g (f x) ++ zs) (flat_map_twice g f xs)

same_number : (m n : ℕ) → eqb m n ≡ true → m ≡ n
same_number m n h = grind (arith, nat_tests)

number_same : (m n : ℕ) → m ≡ n → eqb m n ≡ true
number_same m n h = grind (arith, nat_tests)

uncut_letters : (c : Content) (ordinal : ℕ) (t : Task) → ltb t.cell.last ordinal ≡ false → letters_of c ordinal t ≡ option_to_list (letter_of (c.verdict t)) ++ cond (is_split (c.verdict t)) (flat_map (letters_of c ordinal) (child_tasks t)) []
uncut_letters c ordinal t e = letters-step c ordinal t ∙ rw e refl

spelled_step : (c : Content) (ordinal : ℕ) (t : Task) → IsTask c t → ((u : Task) → levels u.cell < levels t.cell → IsTask c u → letters_of c ordinal u ≡ flat_map (spelled ordinal) (visited c ordinal u)) → letters_of c ordinal t ≡ flat_map (spelled ordinal) (visited c ordinal t)
spelled_step c ordinal t k f = by (ltb t.cell.last ordinal) (is_split (c.verdict t)) refl refl
  where
    below : is_split (c.verdict t) ≡ true → flat_map (letters_of c ordinal) (child_tasks t) ≡ flat_map (spelled ordinal) (flat_map (visited c ordinal) (child_tasks t))
    below split =
        flat_map_same (letters_of c ordinal) (λ u. flat_map (spelled ordinal) (visited c ordinal u)) (child_tasks t)
        (Every-map (λ u. letters_of c ordinal u ≡ flat_map (spelled ordinal) (visited c ordinal u)) (task_of t.problem) (children_of t.cell)
        (Every-weaker (λ d. (levels d < levels t.cell) × IsTask c (task_of t.problem d)) (λ d. letters_of c ordinal (task_of t.problem d) ≡ flat_map (spelled ordinal) (visited c ordinal (task_of t.problem d))) (children_of t.cell)
        (λ d h. f (task_of t.problem d) h.0 h.1)
        (Every-both (λ d. levels d < levels t.cell) (λ d. IsTask c (task_of t.problem d)) (children_of t.cell) (levels_fall t.cell) (tasks_down c t k split))))
        ∙ sym (flat_map_twice (spelled ordinal) (visited c ordinal) (child_tasks t))

    by : (cut split : Bool) → ltb t.cell.last ordinal ≡ cut → is_split (c.verdict t) ≡ split → letters_of c ordinal t ≡ flat_map (spelled ordinal) (visited c ordinal t)
    by true split e s = letters_of_cut c ordinal t e ∙ (rw (visited_cut c ordinal t e, e) refl)
    by false true e s = uncut_letters c ordinal t e ∙ rw (visited_split c ordinal t e s, e, s) (ap (λ bs. option_to_list (letter_of (c.verdict t)) ++ bs) (below s))
    by false false e s = uncut_letters c ordinal t e ∙ rw (visited_leaf c ordinal t e s, e, s) refl

letters_spelled : (n : ℕ) (c : Content) (ordinal : ℕ) (t : Task) → levels t.cell ≤ n → IsTask c t → letters_of c ordinal t ≡ flat_map (spelled ordinal) (visited c ordinal t)
letters_spelled zero c ordinal t small k = absurd (omega arith)
letters_spelled (suc n) c ordinal t small k = spelled_step c ordinal t k (λ u fewer is. letters_spelled n c ordinal u (omega arith) is)

-- ---- no cell above the refuted rank is refuted

abbrev IsLettered : ℕ → Leaf → Type 0
IsLettered ordinal l = ltb l.task.cell.last ordinal ≡ false → is_refuted l.verdict ≡ false

split_unrefuted : (v : Verdict) → is_split v ≡ true → is_refuted v ≡ false
split_unrefuted Split h = refl
split_unrefuted Outside h = refl
split_unrefuted Proved h = refl
split_unrefuted (Open p) h = refl
split_unrefuted (Refuted p) h = absurd (false≢true h)

greatest_parts : {X : Type 0} (test : Leaf → Bool) (n : ℕ) (f : X → List Leaf) (xs : List X) → greatest_ordinal test (flat_map f xs) ≤ n → Every (λ x. greatest_ordinal test (f x) ≤ n) xs
greatest_parts test n f [] h = tt
greatest_parts test n f (x ∷ xs) h =
    let parts = greatest-append test (f x) (flat_map f xs) in
    (omega arith, greatest_parts test n f xs (omega arith))

unrefuted_leaf : (ordinal : ℕ) (l : Leaf) → refuted_ordinal (l ∷ []) ≤ ordinal → IsLettered ordinal l
unrefuted_leaf ordinal l h uncut = by (is_refuted l.verdict) refl
  where
    by : (t : Bool) → is_refuted l.verdict ≡ t → is_refuted l.verdict ≡ false
    by false e = e
    by true e =
        let late : max (last_ordinal l) 0 ≤ ordinal = rw e at h in
        let above : ordinal ≤ l.task.cell.last = grind (arith, nat_tests) in
        absurd (omega arith)

lettered_step : (c : Content) (ordinal : ℕ) (t : Task) → IsTask c t → refuted_ordinal (leaves c t) ≤ ordinal → ((u : Task) → levels u.cell < levels t.cell → IsTask c u → refuted_ordinal (leaves c u) ≤ ordinal → Every (IsLettered ordinal) (visited c ordinal u)) → Every (IsLettered ordinal) (visited c ordinal t)
lettered_step c ordinal t k h f = by (ltb t.cell.last ordinal) (is_split (c.verdict t)) refl refl
  where
    below : is_split (c.verdict t) ≡ true → Every (IsLettered ordinal) (flat_map (visited c ordinal) (child_tasks t))
    below split =
        let parts = greatest_parts (λ l. is_refuted l.verdict) ordinal (leaves c) (child_tasks t) (subst (λ ls. refuted_ordinal ls ≤ ordinal) (leaves_of_split c t split) h) in
        Every-flat_map (IsLettered ordinal) (visited c ordinal) (child_tasks t)
        (Every-weaker (λ u. ((levels u.cell < levels t.cell) × IsTask c u) × (refuted_ordinal (leaves c u) ≤ ordinal)) (λ u. Every (IsLettered ordinal) (visited c ordinal u)) (child_tasks t)
        (λ u g. f u g.0.0 g.0.1 g.1)
        (Every-both (λ u. (levels u.cell < levels t.cell) × IsTask c u) (λ u. refuted_ordinal (leaves c u) ≤ ordinal) (child_tasks t)
        (Every-map (λ u. (levels u.cell < levels t.cell) × IsTask c u) (task_of t.problem) (children_of t.cell)
        (Every-both (λ d. levels d < levels t.cell) (λ d. IsTask c (task_of t.problem d)) (children_of t.cell) (levels_fall t.cell) (tasks_down c t k split))) parts))

    by : (cut split : Bool) → ltb t.cell.last ordinal ≡ cut → is_split (c.verdict t) ≡ split → Every (IsLettered ordinal) (visited c ordinal t)
    by true split e s = rw (visited_cut c ordinal t e) ((λ uncut. absurd (false≢true (sym uncut ∙ e))), tt)
    by false true e s = rw (visited_split c ordinal t e s) ((λ uncut. split_unrefuted (c.verdict t) s), below s)
    by false false e s = rw (visited_leaf c ordinal t e s) (unrefuted_leaf ordinal (leaf_of c t) (subst (λ ls. refuted_ordinal ls ≤ ordinal) (leaves_of_leaf c t s) h), tt)

lettered : (n : ℕ) (c : Content) (ordinal : ℕ) (t : Task) → levels t.cell ≤ n → IsTask c t → refuted_ordinal (leaves c t) ≤ ordinal → Every (IsLettered ordinal) (visited c ordinal t)
lettered zero c ordinal t small k h = absurd (omega arith)
lettered (suc n) c ordinal t small k h = lettered_step c ordinal t k h (λ u fewer is g. lettered n c ordinal u (omega arith) is g)

-- ---- so each takes its letter

has_letter : (v : Verdict) → is_refuted v ≡ false → (letter : ℕ) × (letter_of v ≡ Some letter)
has_letter Outside h = (120, refl)
has_letter Proved h = (112, refl)
has_letter Split h = (115, refl)
has_letter (Open p) h = (111, refl)
has_letter (Refuted p) h = absurd (false≢true (sym h))

letter_is : (ordinal : ℕ) (l : Leaf) → IsLettered ordinal l → (letter : ℕ) × (letter_for ordinal l ≡ Some letter)
letter_is ordinal l h = by (ltb l.task.cell.last ordinal) refl
  where
    by : (t : Bool) → ltb l.task.cell.last ordinal ≡ t → (letter : ℕ) × (letter_for ordinal l ≡ Some letter)
    by true e = (107, rw e refl)
    by false e = let has = has_letter l.verdict (h e) in (has.0, rw e has.1)

first_same : (a b : ℕ) (as' bs : List ℕ) → (a ∷ as') ≡ (b ∷ bs) → (a ≡ b) × (as' ≡ bs)
first_same a b as' bs h = (cc, cc)

none_first : (b : ℕ) (bs : List ℕ) → [] ≡ (b ∷ bs) → ⊥
none_first b bs h = cc

-- what is left when all have taken theirs
taken_all : (ordinal : ℕ) (ls : List Leaf) (marks : List Mark) (end : Option CoverFault) → Every (IsLettered ordinal) ls → map (λ m. m.letter) marks ≡ flat_map (spelled ordinal) ls → taken ordinal ls (record { marks = marks; end = end }) ≡ Ok (record { marks = []; end = end })
taken_all ordinal [] [] end h same = refl
taken_all ordinal [] (m ∷ marks) end h same = absurd (none_first m.letter (map (λ m. m.letter) marks) (sym same))
taken_all ordinal (l ∷ ls) [] end h same =
    let has = letter_is ordinal l h.0 in
    absurd (none_first has.0 (flat_map (spelled ordinal) ls) (same ∙ ap (λ o. option_to_list o ++ flat_map (spelled ordinal) ls) has.1))
taken_all ordinal (l ∷ ls) (m ∷ marks) end h same =
    let has = letter_is ordinal l h.0 in
    let both = first_same m.letter has.0 (map (λ m. m.letter) marks) (flat_map (spelled ordinal) ls) (same ∙ ap (λ o. option_to_list o ++ flat_map (spelled ordinal) ls) has.1) in
    let is : is_letter_for (letter_for ordinal l) m.letter ≡ true = ap (λ o. is_letter_for o m.letter) has.1 ∙ number_same m.letter has.0 both.0 in
    rw is (taken_all ordinal ls marks end h.1 both.1)

-- ---- the open cells above the ordinal are the tree's open leaves above it

abbrev SameOpen : ℕ → List Leaf → List Leaf → Type 0
SameOpen ordinal as' bs = (open_ordinal ordinal as' ≡ open_ordinal ordinal bs) × ((u : ℕ) → ordinal < u → first_open u as' ≡ first_open u bs)

same-append : (ordinal : ℕ) (as' bs cs ds : List Leaf) → SameOpen ordinal as' cs → SameOpen ordinal bs ds → SameOpen ordinal (as' ++ bs) (cs ++ ds)
same-append ordinal as' bs cs ds h k = (
  greatest-append (is_open_above ordinal) as' bs ∙ (ap (λ (n : ℕ). max n (open_ordinal ordinal bs)) h.0 ∙ (ap (λ (n : ℕ). max (open_ordinal ordinal cs) n) k.0 ∙ sym (greatest-append (is_open_above ordinal) cs ds))),
  λ u above. find-append (test u) as' bs ∙ (ap (λ (o : Option Leaf). option_or o (first_open u bs)) (h.1 u above) ∙ (ap (λ (o : Option Leaf). option_or (first_open u cs) o) (k.1 u above) ∙ sym (find-append (test u) cs ds))),
)
  where
    test : ℕ → Leaf → Bool
    test u l = is_open l.verdict && eqb (last_ordinal l) u

same-parts : {X : Type 0} (ordinal : ℕ) (f g : X → List Leaf) (xs : List X) → Every (λ x. SameOpen ordinal (f x) (g x)) xs → SameOpen ordinal (flat_map f xs) (flat_map g xs)
same-parts ordinal f g [] h = (refl, λ u above. refl)
same-parts ordinal f g (x ∷ xs) h = same-append ordinal (f x) (flat_map f xs) (g x) (flat_map g xs) h.0 (same-parts ordinal f g xs h.1)

and_false : (a b : Bool) → b ≡ false → (a && b) ≡ false
and_false true b h = h
and_false false b h = refl

-- where no cell is above the ordinal, none is open above it
closed-below : (ordinal : ℕ) (as' : List Leaf) → Every (λ l. last_ordinal l ≤ ordinal) as' → SameOpen ordinal as' []
closed-below ordinal as' h = (
  greatest_none (is_open_above ordinal) as' (Every-weaker (λ l. last_ordinal l ≤ ordinal) (λ l. is_open_above ordinal l ≡ false) as' (λ l k. and_false (is_open l.verdict) (ltb ordinal (last_ordinal l)) (grind (arith, nat_tests))) h),
  λ u above. find_none (λ l. is_open l.verdict && eqb (last_ordinal l) u) as' (Every-weaker (λ l. last_ordinal l ≤ ordinal) (λ l. (is_open l.verdict && eqb (last_ordinal l) u) ≡ false) as' (λ l k. and_false (is_open l.verdict) (eqb (last_ordinal l) u) (grind (arith, nat_tests))) h),
)

split_closed : (v : Verdict) → is_split v ≡ true → is_open v ≡ false
split_closed Split h = refl
split_closed Outside h = refl
split_closed Proved h = refl
split_closed (Refuted p) h = refl
split_closed (Open p) h = absurd (false≢true h)

-- a split cell isn't open
split-first : (ordinal : ℕ) (l : Leaf) (as' bs : List Leaf) → is_split l.verdict ≡ true → SameOpen ordinal as' bs → SameOpen ordinal (l ∷ as') bs
split-first ordinal l as' bs split h =
    let closed = split_closed l.verdict split in
    ((rw closed (omega arith)) ∙ h.0, λ u above. rw closed (h.1 u above))

same_step : (c : Content) (ordinal : ℕ) (t : Task) → IsTask c t → ((u : Task) → levels u.cell < levels t.cell → IsTask c u → SameOpen ordinal (visited c ordinal u) (leaves c u)) → SameOpen ordinal (visited c ordinal t) (leaves c t)
same_step c ordinal t k f = by (ltb t.cell.last ordinal) (is_split (c.verdict t)) refl refl
  where
    below : is_split (c.verdict t) ≡ true → SameOpen ordinal (flat_map (visited c ordinal) (child_tasks t)) (flat_map (leaves c) (child_tasks t))
    below split =
        same-parts ordinal (visited c ordinal) (leaves c) (child_tasks t)
        (Every-map (λ u. SameOpen ordinal (visited c ordinal u) (leaves c u)) (task_of t.problem) (children_of t.cell)
        (Every-weaker (λ d. (levels d < levels t.cell) × IsTask c (task_of t.problem d)) (λ d. SameOpen ordinal (visited c ordinal (task_of t.problem d)) (leaves c (task_of t.problem d))) (children_of t.cell)
        (λ d h. f (task_of t.problem d) h.0 h.1)
        (Every-both (λ d. levels d < levels t.cell) (λ d. IsTask c (task_of t.problem d)) (children_of t.cell) (levels_fall t.cell) (tasks_down c t k split))))

    early : ltb t.cell.last ordinal ≡ true → Every (λ l. last_ordinal l ≤ ordinal) (leaves c t)
    early e =
        let last : t.cell.last < ordinal = grind (arith, nat_tests) in
        Every-weaker (IsUnder t) (λ l. last_ordinal l ≤ ordinal) (leaves c t) (λ l u. let inside = u.inside.last in omega arith) (leaves_under c t k)

    own : ltb t.cell.last ordinal ≡ true → Every (λ l. last_ordinal l ≤ ordinal) (leaf_of c t ∷ [])
    own e = let last : t.cell.last < ordinal = grind (arith, nat_tests) in (omega arith, tt)

    by : (cut split : Bool) → ltb t.cell.last ordinal ≡ cut → is_split (c.verdict t) ≡ split → SameOpen ordinal (visited c ordinal t) (leaves c t)
    by true split e s =
        let a = closed-below ordinal (leaf_of c t ∷ []) (own e) in
        let b = closed-below ordinal (leaves c t) (early e) in
        rw (visited_cut c ordinal t e) (a.0 ∙ sym b.0, λ u above. a.1 u above ∙ sym (b.1 u above))
    by false true e s = rw (visited_split c ordinal t e s, leaves_of_split c t s) (split-first ordinal (leaf_of c t) (flat_map (visited c ordinal) (child_tasks t)) (flat_map (leaves c) (child_tasks t)) s (below s))
    by false false e s = rw (visited_leaf c ordinal t e s, leaves_of_leaf c t s) (refl, λ u above. refl)

same_open : (n : ℕ) (c : Content) (ordinal : ℕ) (t : Task) → levels t.cell ≤ n → IsTask c t → SameOpen ordinal (visited c ordinal t) (leaves c t)
same_open zero c ordinal t small k = absurd (omega arith)
same_open (suc n) c ordinal t small k = same_step c ordinal t k (λ u fewer is. same_open n c ordinal u (omega arith) is)

-- so the entry is the tree's
entry_same : (ordinal : ℕ) (as' bs : List Leaf) → SameOpen ordinal as' bs → entry_over ordinal as' ≡ entry_over ordinal bs
entry_same ordinal as' bs h = ap (λ (u : ℕ). entry_by ordinal (first_open u as')) h.0 ∙ ap (entry_by ordinal) (by (open_ordinal ordinal bs) refl)
  where
    above : 0 < open_ordinal ordinal bs → ordinal < open_ordinal ordinal bs
    above k = greatest_above (is_open_above ordinal) ordinal bs (λ l e. let later = and_right (is_open l.verdict) (ltb ordinal (last_ordinal l)) e in grind (arith, nat_tests)) k

    by : (u : ℕ) → open_ordinal ordinal bs ≡ u → first_open u as' ≡ first_open u bs
    by zero e = none_open as' ∙ sym (none_open bs)
    by (suc n) e = h.1 (suc n) (let k = above (omega arith) in omega arith)

-- ---- the refuted leaf

int_same : (z : _) → int_eq z z ≡ true
int_same z = (Decides-int_eq z z).1 refl

numbers_same : (p : Point) → is_refuted_at (numbers_of p) (Refuted p) ≡ true
numbers_same p = and_true (int_eq p.a p.a) (int_eq p.b p.b && int_eq p.d p.d) (int_same p.a) (and_true (int_eq p.b p.b) (int_eq p.d p.d) (int_same p.b) (int_same p.d))

failing_leaf : (c : Content) (k ordinal : ℕ) (l : Leaf) (p : Point) → IsUnder (root_task c k) l → IsLeafOf c l → last_ordinal l ≡ ordinal → l.verdict ≡ Refuted p → is_failing c k (UpTo (ordinal - 1) l.task.cell (numbers_of p)) ≡ true
failing_leaf c k ordinal l p under leaf last is =
    let cell = l.task.cell in
    let own : c.verdict (task_of k cell) ≡ Refuted p = ap (λ (n : ℕ). c.verdict (task_of n cell)) (sym under.same) ∙ (sym leaf.judged ∙ is) in
    and_true (is_cell_of c.root cell) (eqb cell.last (ordinal - 1) && is_refuted_at (numbers_of p) (c.verdict (task_of k cell)))
    (cell_true c.root cell (record { formed = under.formed; inside = under.inside }))
    (and_true (eqb cell.last (ordinal - 1)) (is_refuted_at (numbers_of p) (c.verdict (task_of k cell))) (number_same cell.last (ordinal - 1) (omega arith))
    (ap (is_refuted_at (numbers_of p)) own ∙ numbers_same p))

-- what is known of the claim
abbrev pub IsClaim : Content → ℕ → ℕ → Option (Cell × Point) → Type 0
IsClaim c k ordinal found = (ordinal_of_claim (claim_for ordinal found) ≡ ordinal) × (is_failing c k (claim_for ordinal found) ≡ true)

found_claim : (c : Content) (k ordinal : ℕ) (l : Leaf) → 0 < ordinal → IsUnder (root_task c k) l → IsLeafOf c l → last_ordinal l ≡ ordinal → is_refuted l.verdict ≡ true → IsClaim c k ordinal (refuted_at l)
found_claim c k ordinal l some under leaf last refuted = by l.verdict refl refuted
  where
    by : (v : Verdict) → l.verdict ≡ v → is_refuted v ≡ true → IsClaim c k ordinal (refuted_at l)
    by (Refuted p) e h =
        let at : refuted_at l ≡ Some (l.task.cell, p) = rw e refl in
        subst (IsClaim c k ordinal) (sym at) (omega arith, failing_leaf c k ordinal l p under leaf last e)
    by Outside e h = absurd (false≢true h)
    by Proved e h = absurd (false≢true h)
    by Split e h = absurd (false≢true h)
    by (Open q) e h = absurd (false≢true h)

pub claim_is : (c : Content) → IsLawful c → (k : ℕ) → k < c.problems → IsClaim c k (refuted_ordinal_of c k) (first_refuted (refuted_ordinal_of c k) (leaves_of c k))
claim_is c law k known = by (refuted_ordinal_of c k) refl
  where
    ls : List Leaf
    ls = leaves_of c k

    each : Every (λ l. IsUnder (root_task c k) l × IsLeafOf c l) ls
    each = Every-both (IsUnder (root_task c k)) (IsLeafOf c) ls (leaves_in_root c k law known) (leaves_in_tree c (root_task c k) (top k known))

    by : (ordinal : ℕ) → refuted_ordinal_of c k ≡ ordinal → IsClaim c k ordinal (first_refuted ordinal ls)
    by zero e = subst (IsClaim c k 0) (sym (none_refuted ls)) (refl, refl)
    by (suc n) e = has (find (λ l. is_refuted l.verdict && eqb (last_ordinal l) (suc n)) ls) refl (greatest_found (λ l. is_refuted l.verdict) (suc n) ls e (omega arith))
      where
        has : (o : Option Leaf) → o ≡ find (λ l. is_refuted l.verdict && eqb (last_ordinal l) (suc n)) ls → is_some o ≡ true → IsClaim c k (suc n) (option_and_then refuted_at o)
        has None f h = absurd (false≢true h)
        has (Some l) f h =
            let it = found_has (λ l. IsUnder (root_task c k) l × IsLeafOf c l) (λ l. is_refuted l.verdict && eqb (last_ordinal l) (suc n)) ls l each f in
            found_claim c k (suc n) l (omega arith) it.0.0 it.0.1 (same_number (last_ordinal l) (suc n) (and_right (is_refuted l.verdict) (eqb (last_ordinal l) (suc n)) it.1)) (and_left (is_refuted l.verdict) (eqb (last_ordinal l) (suc n)) it.1)

-- ---- the whole

-- what a claim of this ordinal shows, when all have taken their letters
shown_all : (c : Content) (k ordinal : ℕ) (claim : Claim) (letters : Marks) → ordinal_of_claim claim ≡ ordinal → is_failing c k claim ≡ true → taken ordinal (visited c ordinal (root_task c k)) letters ≡ Ok (record { marks = []; end = None }) → shown_by c k claim letters ≡ Ok (entry_over ordinal (visited c ordinal (root_task c k)))
shown_all c k ordinal claim letters same failing all' =
    let rest : Marks = record { marks = []; end = None } in
    ap (λ (r : Result Marks CoverFault). r >>= answer_by c k claim) (ap (λ (w : ℕ). taken w (visited c w (root_task c k)) letters) same ∙ all')
    ∙ (rw failing (ap (λ (w : ℕ). Ok (entry_over w (visited c w (root_task c k)))) same))

pub settled_is_shown : (c : Content) → IsLawful c → (k : ℕ) → k < c.problems → (s : Settled) → IsSettled c k s → (letters : Marks) → map (λ m. m.letter) letters.marks ≡ s.letters → letters.end ≡ None → shown_by c k (claim_for (refuted_ordinal_of c k) s.refuted) letters ≡ Ok s.entry
settled_is_shown c law k known s is letters same end =
    let ordinal = refuted_ordinal_of c k in
    let t = root_task c k in
    let task = root_is_task c law k known in
    let cells = visited c ordinal t in
    let each = lettered (levels c.root) c ordinal t (omega arith) task (omega arith) in
    let spelled' = letters_spelled (levels c.root) c ordinal t (omega arith) task in
    let all' : taken ordinal cells letters ≡ Ok (record { marks = []; end = None }) = taken_all ordinal cells letters.marks letters.end each (same ∙ (is.letters ∙ spelled')) ∙ ap (λ (o : Option CoverFault). Ok (record { marks = []; end = o })) end in
    let claim = subst (IsClaim c k ordinal) (sym is.refuted) (claim_is c law k known) in
    shown_all c k ordinal (claim_for ordinal s.refuted) letters claim.0 claim.1 all'
    ∙ ap (λ e. Ok e) (entry_same ordinal cells (leaves_of c k) (same_open (levels c.root) c ordinal t (omega arith) task) ∙ sym is.entry)

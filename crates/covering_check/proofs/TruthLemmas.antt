-- What an accepted line shows is the entry of judged cells that have every place above the refuted rank.
use Rattle.std.proofs.Common.{◌≡◌, ℕ, zero, suc, ◌<◌, ◌≤◌, Bool, true, false, cond, eqb, ltb, List, [], ◌∷◌, ◌++◌, filter, max, Option, Some, None, Result, Ok, Err, inl, inr, refl, sym, ap, ◌∙◌, subst, arith}
use Rattle.std.specs.Prelude.{◌&&◌, not, codes, bytes_eq}
use Rattle.std.specs.List.{flat_map}
use Rattle.std.specs.Option.{option_or}
use Rattle.std.proofs.lemmas.Bool.{false≢true}
use Rattle.std.proofs.lemmas.Bool.Decides.{nat_tests}
use Rattle.std.proofs.lemmas.List.Elements.{All-from_recursion}
use Rattle.std.proofs.lemmas.List.Folds.{find-append}
use Rattle.plane_edges.specs.Plane.{Place}
use Rattle.plane_edges.proofs.Truth.{and_left, and_right}
use Rattle.cell_split.specs.declared.cell.Task.{Task}
use Rattle.cell_split.specs.declared.verdict.Entry.{Entry}
use Rattle.cell_split.specs.declared.verdict.Leaf.{Leaf}
use Rattle.cell_split.specs.declared.verdict.Verdict.{Verdict}
use Rattle.cell_split.specs.declared.verdict.Verdict.TheVariants.{Outside, Proved, Refuted, Split, Open}
use Rattle.cell_split.specs.Entries.{entry_by, first_open, is_open_above, last_ordinal, open_ordinal, refuted_ordinal}
use Rattle.cell_split.specs.Judges.{Content, IsLawful, IsTask}
use Rattle.cell_split.specs.Laws.{Covers}
use Rattle.cell_split.specs.Split.{children_of}
use Rattle.cell_split.specs.Tree.{child_tasks, leaf_of, levels, root_task, task_of}
use Rattle.cell_split.specs.Verdicts.{is_open, is_refuted, is_split}
use Rattle.cell_split.proofs.Every.{Any-from_somewhere, Every, Every-append, Every-both, Every-flat_map, Every-map, Every-weaker, Somewhere, Somewhere-append_left, Somewhere-flat_map, Somewhere-weaker, flat_map-map}
use Rattle.cell_split.proofs.LeafLemmas.{root_is_task, split_not_smallest, tasks_down}
use Rattle.cell_split.proofs.SplitLemmas.{children_cover, levels_fall}
use Rattle.serde_json.specs.Data.{Data}
use Rattle.covering.specs.Letters.{letter_of}
use Rattle.covering.proofs.Entering.{none_open}
use Rattle.plain_search.proofs.Greatest.{greatest-append, greatest_above, greatest_none}
use Rattle.covering_check.specs.declared.claim.Claim.{Claim}
use Rattle.covering_check.specs.declared.claim.Claim.TheVariants.{Nowhere, UpTo}
use Rattle.covering_check.specs.declared.claim.Numbers.{Numbers}
use Rattle.covering_check.specs.declared.fault.CoverFault.{CoverFault}
use Rattle.covering_check.specs.declared.fault.CoverFault.TheVariants.{Column, Long, NotFailing}
use Rattle.covering_check.specs.declared.mark.Mark.{Mark}
use Rattle.covering_check.specs.Cells.{is_cell_of}
use Rattle.covering_check.specs.Checks.{answer_by, entry_over, is_failing, is_refuted_at, is_spent, shown_by, shown_in, shown_of, value_in}
use Rattle.covering_check.specs.Gives.{◌>>=◌, or_no_line}
use Rattle.covering_check.specs.Marks.{Marks, marks_in}
use Rattle.covering_check.specs.Members.{claim_in, text_at, ordinal_of_claim}
use Rattle.covering_check.specs.Truth.{IsJudged, IsShown}
use Rattle.covering_check.specs.Visits.{is_letter_for, letter_for, taken, taken_by, visited}
use Rattle.covering_check.proofs.CellTests.{cell_is}
use Rattle.covering_check.proofs.Taking.{visited_cut, visited_leaf, visited_split}

-- ---- steps that all were answered

bind_ok : {A B : Type 0} (r : Result A CoverFault) (f : A → Result B CoverFault) (y : B) → (r >>= f) ≡ Ok y → (x : A) × (r ≡ Ok x) × (f x ≡ Ok y)
bind_ok (Ok x) f y h = (x, refl, h)
bind_ok (Err e) f y h = absurd (cc)

cond_ok : {A : Type 0} (t : Bool) (r : Result A CoverFault) (e : CoverFault) (y : A) → cond t r (Err e) ≡ Ok y → (t ≡ true) × (r ≡ Ok y)
cond_ok true r e y h = (refl, h)
cond_ok false r e y h = absurd (cc)

-- ---- the cells that are kept: those that aren't cut, and aren't split

abbrev is_kept : ℕ → Leaf → Bool
is_kept ordinal l = not (ltb l.task.cell.last ordinal) && not (is_split l.verdict)

not_true : (b : Bool) → not b ≡ true → b ≡ false
not_true true h = absurd (false≢true h)
not_true false h = refl

kept_uncut : (ordinal : ℕ) (l : Leaf) → is_kept ordinal l ≡ true → ltb l.task.cell.last ordinal ≡ false
kept_uncut ordinal l h = not_true (ltb l.task.cell.last ordinal) (and_left (not (ltb l.task.cell.last ordinal)) (not (is_split l.verdict)) h)

kept_whole : (ordinal : ℕ) (l : Leaf) → is_kept ordinal l ≡ true → is_split l.verdict ≡ false
kept_whole ordinal l h = not_true (is_split l.verdict) (and_right (not (ltb l.task.cell.last ordinal)) (not (is_split l.verdict)) h)

-- a fact of each cell that is kept
Every-kept : (P Q : Leaf → Type 0) (test : Leaf → Bool) (ls : List Leaf) → ((l : Leaf) → P l → test l ≡ true → Q l) → Every P ls → Every Q (filter test ls)
Every-kept P Q test [] f h = tt
Every-kept P Q test (l ∷ ls) f h = by (test l) refl (Every-kept P Q test ls f h.1)
  where
    by : (t : Bool) → test l ≡ t → Every Q (filter test ls) → Every Q (cond t (l ∷ filter test ls) (filter test ls))
    by true e rest = (f l h.0 e, rest)
    by false e rest = rest

-- a cell with a fact that is kept
Somewhere-kept : (P : Leaf → Type 0) (test : Leaf → Bool) (ls : List Leaf) → Somewhere (λ l. P l × (test l ≡ true)) ls → Somewhere P (filter test ls)
Somewhere-kept P test [] h = absurd h
Somewhere-kept P test (l ∷ ls) (inl h) = rw h.1 (inl h.0)
Somewhere-kept P test (l ∷ ls) (inr h) = by (test l) (Somewhere-kept P test ls h)
  where
    by : (t : Bool) → Somewhere P (filter test ls) → Somewhere P (cond t (l ∷ filter test ls) (filter test ls))
    by true k = inr k
    by false k = k

-- ---- what each cell is

-- a cell of the root with the judge's verdict on this problem
record IsNamed (c : Content) (problem : ℕ) (l : Leaf) : Type 0 where
  task : IsTask c l.task
  same : l.task.problem ≡ problem
  judged : l.verdict ≡ c.verdict l.task

named_step : (c : Content) (ordinal : ℕ) (t : Task) → IsTask c t → ((u : Task) → levels u.cell < levels t.cell → IsTask c u → Every (IsNamed c u.problem) (visited c ordinal u)) → Every (IsNamed c t.problem) (visited c ordinal t)
named_step c ordinal t k f = by (ltb t.cell.last ordinal) (is_split (c.verdict t)) refl refl
  where
    own : IsNamed c t.problem (leaf_of c t)
    own = record { task = k; same = refl; judged = refl }

    below : is_split (c.verdict t) ≡ true → Every (IsNamed c t.problem) (flat_map (visited c ordinal) (child_tasks t))
    below split =
        Every-flat_map (IsNamed c t.problem) (visited c ordinal) (child_tasks t) (Every-map (λ u. Every (IsNamed c t.problem) (visited c ordinal u)) (task_of t.problem) (children_of t.cell)
        (Every-weaker (λ d. (levels d < levels t.cell) × IsTask c (task_of t.problem d)) (λ d. Every (IsNamed c t.problem) (visited c ordinal (task_of t.problem d))) (children_of t.cell)
        (λ d h. f (task_of t.problem d) h.0 h.1)
        (Every-both (λ d. levels d < levels t.cell) (λ d. IsTask c (task_of t.problem d)) (children_of t.cell) (levels_fall t.cell) (tasks_down c t k split))))

    by : (cut split : Bool) → ltb t.cell.last ordinal ≡ cut → is_split (c.verdict t) ≡ split → Every (IsNamed c t.problem) (visited c ordinal t)
    by true split e s = rw (visited_cut c ordinal t e) (own, tt)
    by false true e s = rw (visited_split c ordinal t e s) (own, below s)
    by false false e s = rw (visited_leaf c ordinal t e s) (own, tt)

named : (n : ℕ) (c : Content) (ordinal : ℕ) (t : Task) → levels t.cell ≤ n → IsTask c t → Every (IsNamed c t.problem) (visited c ordinal t)
named zero c ordinal t small k = absurd (omega arith)
named (suc n) c ordinal t small k = named_step c ordinal t k (λ u fewer is. named n c ordinal u (omega arith) is)

-- a cell that is kept has the place at the rank
abbrev IsKeptAt : Place → ℕ → ℕ → Leaf → Type 0
IsKeptAt p rank ordinal l = Covers p rank l.task.cell × (is_kept ordinal l ≡ true)

covered_step : (c : Content) (ordinal : ℕ) (t : Task) → IsLawful c → IsTask c t → (p : Place) (rank : ℕ) → ordinal ≤ rank → Covers p rank t.cell → ((u : Task) → levels u.cell < levels t.cell → IsTask c u → Covers p rank u.cell → Somewhere (IsKeptAt p rank ordinal) (visited c ordinal u)) → Somewhere (IsKeptAt p rank ordinal) (visited c ordinal t)
covered_step c ordinal t law k p rank above h f = by (is_split (c.verdict t)) refl
  where
    last : rank ≤ t.cell.last
    last = h.to_last

    uncut : ltb t.cell.last ordinal ≡ false
    uncut = grind (arith, nat_tests, last, above)

    below : is_split (c.verdict t) ≡ true → Somewhere (IsKeptAt p rank ordinal) (flat_map (visited c ordinal) (child_tasks t))
    below split =
        rw (flat_map-map (visited c ordinal) (task_of t.problem) (children_of t.cell))
        (Somewhere-flat_map (IsKeptAt p rank ordinal) (λ d. visited c ordinal (task_of t.problem d)) (children_of t.cell)
        (Somewhere-weaker (λ d. (levels d < levels t.cell) × IsTask c (task_of t.problem d)) (Covers p rank) (λ d. Somewhere (IsKeptAt p rank ordinal) (visited c ordinal (task_of t.problem d))) (children_of t.cell)
        (λ d is g. f (task_of t.problem d) is.0 is.1 g)
        (Every-both (λ d. levels d < levels t.cell) (λ d. IsTask c (task_of t.problem d)) (children_of t.cell) (levels_fall t.cell) (tasks_down c t k split))
        (children_cover t.cell k.cell.formed (split_not_smallest c t law k split) p rank h)))

    by : (split : Bool) → is_split (c.verdict t) ≡ split → Somewhere (IsKeptAt p rank ordinal) (visited c ordinal t)
    by true s = rw (visited_split c ordinal t uncut s) (inr (below s))
    by false s = rw (visited_leaf c ordinal t uncut s) (inl (h, rw (uncut, s) refl))

-- each place of a cell above the ordinal is in a cell that is kept
covered : (n : ℕ) (c : Content) (ordinal : ℕ) (t : Task) → levels t.cell ≤ n → IsLawful c → IsTask c t → (p : Place) (rank : ℕ) → ordinal ≤ rank → Covers p rank t.cell → Somewhere (IsKeptAt p rank ordinal) (visited c ordinal t)
covered zero c ordinal t small law k p rank above h = absurd (omega arith)
covered (suc n) c ordinal t small law k p rank above h =
    covered_step c ordinal t law k p rank above h (λ u fewer is g. covered n c ordinal u (omega arith) law is p rank above g)

-- ---- cells that took their letters

-- none that isn't cut is refuted
abbrev IsLettered : ℕ → Leaf → Type 0
IsLettered ordinal l = ltb l.task.cell.last ordinal ≡ false → is_refuted l.verdict ≡ false

has_letter : (v : Verdict) (letter : ℕ) → is_letter_for (letter_of v) letter ≡ true → is_refuted v ≡ false
has_letter (Refuted p) letter h = absurd (false≢true h)
has_letter Outside letter h = refl
has_letter Proved letter h = refl
has_letter Split letter h = refl
has_letter (Open p) letter h = refl

took : (ordinal : ℕ) (l : Leaf) (marks : List Mark) (end : Option CoverFault) (rest : Marks) → taken_by (letter_for ordinal l) marks end ≡ Ok rest → IsLettered ordinal l
took ordinal l [] end rest h uncut = absurd (cc)
took ordinal l (m ∷ marks) end rest h uncut =
    let is = (cond_ok (is_letter_for (letter_for ordinal l) m.letter) _ _ rest h).0 in
    has_letter l.verdict m.letter (rw uncut at is)

lettered : (ordinal : ℕ) (ls : List Leaf) (before after : Marks) → taken ordinal ls before ≡ Ok after → Every (IsLettered ordinal) ls
lettered ordinal [] before after h = tt
lettered ordinal (l ∷ ls) before after h =
    let parts = bind_ok (taken_by (letter_for ordinal l) before.marks before.end) (taken ordinal ls) after h in
    (took ordinal l before.marks before.end parts.0 parts.1, lettered ordinal ls parts.0 after parts.2)

-- ---- the claim

-- the cell that the claim names
abbrev witness : Content → ℕ → Claim → List Leaf
witness c k Nowhere = []
witness c k (UpTo rank cell point) = leaf_of c (task_of k cell) ∷ []

-- what is known of it
record IsWitness (c : Content) (k ordinal : ℕ) (ls : List Leaf) : Type 0 where
  judged : Every (IsJudged c k) ls
  refuted : refuted_ordinal ls ≡ ordinal
  closed : open_ordinal ordinal ls ≡ 0
  none : (u : ℕ) → first_open u ls ≡ None

refuted_at : (p : Numbers) (v : Verdict) → is_refuted_at p v ≡ true → (is_refuted v ≡ true) × (is_split v ≡ false) × (is_open v ≡ false)
refuted_at p (Refuted q) h = (refl, refl, refl)
refuted_at p Outside h = absurd (false≢true h)
refuted_at p Proved h = absurd (false≢true h)
refuted_at p Split h = absurd (false≢true h)
refuted_at p (Open q) h = absurd (false≢true h)

same_number : (m n : ℕ) → eqb m n ≡ true → m ≡ n
same_number m n h = grind (arith, nat_tests)

witnessed : (c : Content) (k : ℕ) (claim : Claim) → k < c.problems → is_failing c k claim ≡ true → IsWitness c k (ordinal_of_claim claim) (witness c k claim)
witnessed c k Nowhere known h = record { judged = tt; refuted = refl; closed = refl; none = λ u. refl }
witnessed c k (UpTo rank cell point) known h =
    let v = c.verdict (task_of k cell) in
    let later = and_right (is_cell_of c.root cell) (eqb cell.last rank && is_refuted_at point v) h in
    let last = same_number cell.last rank (and_left (eqb cell.last rank) (is_refuted_at point v) later) in
    let is = refuted_at point v (and_right (eqb cell.last rank) (is_refuted_at point v) later) in
    let task : IsTask c (task_of k cell) = record { known = known; cell = cell_is c.root cell (and_left (is_cell_of c.root cell) (eqb cell.last rank && is_refuted_at point v) h) } in
    record {
      judged = (record { task = task; same = refl; judged = refl; whole = is.1 }, tt);
      refuted = rw is.0 (omega arith);
      closed = rw is.2 refl;
      none = λ u. rw is.2 refl;
    }

-- ---- the entry

and_false : (a b : Bool) → b ≡ false → (a && b) ≡ false
and_false true b h = h
and_false false b h = refl

split_closed : (v : Verdict) → is_split v ≡ true → is_open v ≡ false
split_closed Split h = refl
split_closed Outside h = refl
split_closed Proved h = refl
split_closed (Refuted p) h = refl
split_closed (Open p) h = absurd (false≢true h)

not_kept_closed : (ordinal : ℕ) (l : Leaf) → is_kept ordinal l ≡ false → is_open_above ordinal l ≡ false
not_kept_closed ordinal l h = by (ltb l.task.cell.last ordinal) (is_split l.verdict) refl refl h
  where
    by : (cut split : Bool) → ltb l.task.cell.last ordinal ≡ cut → is_split l.verdict ≡ split → (not cut && not split) ≡ false → is_open_above ordinal l ≡ false
    by true split e s g = and_false (is_open l.verdict) (ltb ordinal (last_ordinal l)) (grind (arith, nat_tests))
    by false true e s g = rw (split_closed l.verdict s) refl
    by false false e s g = absurd (false≢true (sym g))

open_kept : (ordinal : ℕ) (ls : List Leaf) → open_ordinal ordinal (filter (is_kept ordinal) ls) ≡ open_ordinal ordinal ls
open_kept ordinal [] = refl
open_kept ordinal (l ∷ ls) = by (is_kept ordinal l) refl (open_kept ordinal ls)
  where
    by : (t : Bool) → is_kept ordinal l ≡ t → open_ordinal ordinal (filter (is_kept ordinal) ls) ≡ open_ordinal ordinal ls → open_ordinal ordinal (cond t (l ∷ filter (is_kept ordinal) ls) (filter (is_kept ordinal) ls)) ≡ open_ordinal ordinal (l ∷ ls)
    by true e h = ap (λ (n : ℕ). max (cond (is_open_above ordinal l) (last_ordinal l) 0) n) h
    by false e h = h ∙ rw (not_kept_closed ordinal l e) (omega arith)

first_kept : (ordinal u : ℕ) (ls : List Leaf) → ordinal < u → first_open u (filter (is_kept ordinal) ls) ≡ first_open u ls
first_kept ordinal u [] above = refl
first_kept ordinal u (l ∷ ls) above = by (is_kept ordinal l) refl (first_kept ordinal u ls above)
  where
    passed : is_open_above ordinal l ≡ false → (is_open l.verdict && eqb (last_ordinal l) u) ≡ false
    passed closed = opened (is_open l.verdict) closed
      where
        opened : (o : Bool) → (o && ltb ordinal (last_ordinal l)) ≡ false → (o && eqb (last_ordinal l) u) ≡ false
        opened true g = grind (arith, nat_tests)
        opened false g = refl

    by : (t : Bool) → is_kept ordinal l ≡ t → first_open u (filter (is_kept ordinal) ls) ≡ first_open u ls → first_open u (cond t (l ∷ filter (is_kept ordinal) ls) (filter (is_kept ordinal) ls)) ≡ first_open u (l ∷ ls)
    by true e h = ap (λ (o : Option Leaf). cond (is_open l.verdict && eqb (last_ordinal l) u) (Some l) o) h
    by false e h = h ∙ rw (passed (not_kept_closed ordinal l e)) refl

-- the greatest open rank is above the ordinal, if there is one
first_same : (ordinal : ℕ) (ls : List Leaf) → first_open (open_ordinal ordinal ls) (filter (is_kept ordinal) ls) ≡ first_open (open_ordinal ordinal ls) ls
first_same ordinal ls = by (open_ordinal ordinal ls) refl
  where
    above : 0 < open_ordinal ordinal ls → ordinal < open_ordinal ordinal ls
    above h = greatest_above (is_open_above ordinal) ordinal ls (λ l e. let later = and_right (is_open l.verdict) (ltb ordinal (last_ordinal l)) e in grind (arith, nat_tests)) h

    by : (u : ℕ) → open_ordinal ordinal ls ≡ u → first_open u (filter (is_kept ordinal) ls) ≡ first_open u ls
    by zero e = none_open (filter (is_kept ordinal) ls) ∙ sym (none_open ls)
    by (suc n) e = first_kept ordinal (suc n) ls (let h = above (omega arith) in omega arith)

or_none : {A : Type 0} (o p : Option A) → p ≡ None → option_or o p ≡ o
or_none None p e = e
or_none (Some x) p e = refl

entry_is : (c : Content) (k ordinal : ℕ) (ls wit : List Leaf) → Every (IsLettered ordinal) ls → IsWitness c k ordinal wit → (refuted_ordinal (filter (is_kept ordinal) ls ++ wit) ≡ ordinal) × (entry_over ordinal ls ≡ entry_over (refuted_ordinal (filter (is_kept ordinal) ls ++ wit)) (filter (is_kept ordinal) ls ++ wit))
entry_is c k ordinal ls wit letters is = (refuted, whole)
  where
    kept : List Leaf
    kept = filter (is_kept ordinal) ls

    unrefuted : refuted_ordinal kept ≡ 0
    unrefuted = greatest_none (λ l. is_refuted l.verdict) kept (Every-kept (IsLettered ordinal) (λ l. is_refuted l.verdict ≡ false) (is_kept ordinal) ls (λ l h e. h (kept_uncut ordinal l e)) letters)

    refuted : refuted_ordinal (kept ++ wit) ≡ ordinal
    refuted = greatest-append (λ l. is_refuted l.verdict) kept wit ∙ omega (arith, unrefuted, is.refuted)

    opens : open_ordinal ordinal (kept ++ wit) ≡ open_ordinal ordinal ls
    opens = let same = open_kept ordinal ls in greatest-append (is_open_above ordinal) kept wit ∙ omega (arith, same, is.closed)

    first : first_open (open_ordinal ordinal (kept ++ wit)) (kept ++ wit) ≡ first_open (open_ordinal ordinal ls) ls
    first =
        ap (λ (u : ℕ). first_open u (kept ++ wit)) opens ∙ (find-append (λ l. is_open l.verdict && eqb (last_ordinal l) (open_ordinal ordinal ls)) kept wit
        ∙ (or_none (first_open (open_ordinal ordinal ls) kept) (first_open (open_ordinal ordinal ls) wit) (is.none (open_ordinal ordinal ls)) ∙ first_same ordinal ls))

    whole : entry_over ordinal ls ≡ entry_over (refuted_ordinal (kept ++ wit)) (kept ++ wit)
    whole = sym (ap (λ (w : ℕ). entry_over w (kept ++ wit)) refuted ∙ ap (entry_by ordinal) first)

-- ---- the whole

one_answer : (r : Result Entry CoverFault) (x y : Entry) → r ≡ Ok x → r ≡ Ok y → y ≡ x
one_answer r x y e f = cc

shown_is : (c : Content) → IsLawful c → (k : ℕ) → k < c.problems → (claim : Claim) (letters : Marks) (e : Entry) → shown_by c k claim letters ≡ Ok e → IsShown c k e
shown_is c law k known claim letters e h =
    let ordinal = ordinal_of_claim claim in
    let cells = visited c ordinal (root_task c k) in
    let walked = bind_ok (taken ordinal cells letters) (answer_by c k claim) e h in
    let spent = cond_ok (is_spent walked.0) (cond (is_failing c k claim) (Ok (entry_over ordinal cells)) (Err NotFailing)) Long e walked.2 in
    let failing = cond_ok (is_failing c k claim) (Ok (entry_over ordinal cells)) NotFailing e spent.1 in
    let wit = witnessed c k claim known failing.0 in
    let kept = filter (is_kept ordinal) cells in
    let same = entry_is c k ordinal cells (witness c k claim) (lettered ordinal cells letters walked.0 walked.1) wit in
    let all' : Every (IsJudged c k) (kept ++ witness c k claim) = Every-append (IsJudged c k) kept (witness c k claim)
    (Every-kept (IsNamed c k) (IsJudged c k) (is_kept ordinal) cells (λ l n t. record { task = n.task; same = n.same; judged = n.judged; whole = kept_whole ordinal l t })
    (named (levels c.root) c ordinal (root_task c k) (omega arith) (root_is_task c law k known))) wit.judged in
    record {
      cells = kept ++ witness c k claim;
      judged = All-from_recursion (IsJudged c k) (kept ++ witness c k claim) all';
      cover = λ p rank above h. Any-from_somewhere (λ l. Covers p rank l.task.cell) (kept ++ witness c k claim)
          (Somewhere-append_left (λ l. Covers p rank l.task.cell) kept (witness c k claim) (Somewhere-kept (λ l. Covers p rank l.task.cell) (is_kept ordinal) cells
          (covered (levels c.root) c ordinal (root_task c k) (omega arith) law (root_is_task c law k known) p rank (subst (λ (n : ℕ). n ≤ rank) same.0 above) h)));
      entry = one_answer (Ok (entry_over ordinal cells)) (entry_over ordinal cells) e refl failing.1 ∙ same.1;
    }

-- what is answered once a member is known
abbrev pub by_letters : Content → ℕ → List ℕ → List ℕ → List ℕ → List ℕ → Claim → Marks → Result Entry CoverFault
by_letters c k column day named dated claim letters = cond (bytes_eq named column && bytes_eq dated day) (shown_by c k claim letters) (Err Column)

abbrev pub by_claim : Content → ℕ → List ℕ → List ℕ → Data → List ℕ → List ℕ → Claim → Result Entry CoverFault
by_claim c k column day d named dated claim = or_no_line (marks_in d) >>= by_letters c k column day named dated claim

abbrev pub by_day : Content → ℕ → List ℕ → List ℕ → Data → List ℕ → List ℕ → Result Entry CoverFault
by_day c k column day d named dated = or_no_line (claim_in d) >>= by_claim c k column day d named dated

abbrev pub by_column : Content → ℕ → List ℕ → List ℕ → Data → List ℕ → Result Entry CoverFault
by_column c k column day d named = or_no_line (text_at (codes "day") d) >>= by_day c k column day d named

pub accepted_is_true : (c : Content) → IsLawful c → (k : ℕ) → k < c.problems → (column day line : List ℕ) (e : Entry) → shown_of c k column day line ≡ Ok e → IsShown c k e
accepted_is_true c law k known column day line e h =
    let value = bind_ok (value_in line) (shown_in c k column day) e h in
    let d = value.0 in
    let one = bind_ok (or_no_line (text_at (codes "column") d)) (by_column c k column day d) e value.2 in
    let two = bind_ok (or_no_line (text_at (codes "day") d)) (by_day c k column day d one.0) e one.2 in
    let three = bind_ok (or_no_line (claim_in d)) (by_claim c k column day d one.0 two.0) e two.2 in
    let four = bind_ok (or_no_line (marks_in d)) (by_letters c k column day one.0 two.0 three.0) e three.2 in
    let same = cond_ok (bytes_eq one.0 column && bytes_eq two.0 day) (shown_by c k three.0 four.0) Column e four.2 in
    shown_is c law k known three.0 four.0 e same.1

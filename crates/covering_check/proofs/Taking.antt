-- Cells that take their letters one after another.
use Rattle.std.proofs.Common.{◌≡◌, ℕ, zero, suc, ◌+◌, ◌-◌, ◌<◌, ◌≤◌, Bool, true, false, cond, eqb, ltb, List, [], ◌∷◌, ◌++◌, get_or, length, take, drop, Option, Some, Result, Ok, Err, refl, sym, ap, subst, ◌∙◌, arith}
use Rattle.std.specs.Prelude.{◌&&◌}
use Rattle.std.specs.List.{flat_map}
use Rattle.std.specs.List.Sorted.{IsPermutation}
use Rattle.std.proofs.lemmas.Bool.{false≢true}
use Rattle.std.proofs.lemmas.Bool.Decides.{nat_tests}
use Rattle.std.proofs.lemmas.List.{drop_more, get_or-map, length-map, take-append-drop, take_all}
use Rattle.std.proofs.lemmas.List.Concat.{flat_map-append}
use Rattle.std.proofs.lemmas.List.Elements.{All-from_recursion}
use Rattle.std.proofs.lemmas.List.Sorted.{IsPermutation-refl}
use Rattle.cell_split.specs.declared.cell.Cell.{Cell}
use Rattle.cell_split.specs.declared.cell.Children.{Children}
use Rattle.cell_split.specs.declared.cell.Task.{Task}
use Rattle.cell_split.specs.declared.verdict.Leaf.{Leaf}
use Rattle.cell_split.specs.declared.verdict.Verdict.{Verdict}
use Rattle.cell_split.specs.declared.verdict.Verdict.TheVariants.{Outside, Proved, Refuted, Split, Open}
use Rattle.cell_split.specs.Entries.{is_open_above, last_ordinal}
use Rattle.cell_split.specs.Judges.{Content}
use Rattle.cell_split.specs.Split.{children_of, quarters, split}
use Rattle.cell_split.specs.Tree.{child_tasks, leaf_of, levels, task_of}
use Rattle.cell_split.specs.Verdicts.{is_open, is_split}
use Rattle.cell_split.proofs.Every.{Every, Every-map, Every-weaker, flat_map-map, flat_map_same}
use Rattle.cell_split.proofs.SplitLemmas.{levels_fall, quartered}
use Rattle.covering.specs.Letters.{letter_of}
use Rattle.covering.proofs.Parts.{parts_more}
use Rattle.plain_search.specs.declared.quarters.Quarter.{Quarter}
use Rattle.plain_search.specs.Quarters.{cells_of}
use Rattle.covering_check.specs.declared.fault.CoverFault.{CoverFault}
use Rattle.covering_check.specs.declared.fault.CoverFault.TheVariants.{NotShown}
use Rattle.covering_check.specs.declared.mark.Mark.{Mark}
use Rattle.covering_check.specs.Gives.{◌>>=◌}
use Rattle.covering_check.specs.Left.{IsAtEnd}
use Rattle.covering_check.specs.Marks.{Marks, with_mark}
use Rattle.covering_check.specs.Visits.{Walks, is_letter_for, later_open, latest_open, letter_for, taken, taken_by, visited, visited_to}

-- ---- the cells that are named

-- those below a task whose children have these
abbrev named_by : Content → ℕ → Task → List Leaf → List Leaf
named_by c ordinal t below = leaf_of c t ∷ cond (ltb t.cell.last ordinal) [] (cond (is_split (c.verdict t)) below [])

visited_to-same : (n m : ℕ) (c : Content) (ordinal : ℕ) (t : Task) → levels t.cell ≤ n → levels t.cell ≤ m → visited_to n c ordinal t ≡ visited_to m c ordinal t
unfolding visited_to
visited_to-same zero m c ordinal t h k = absurd (omega arith)
visited_to-same (suc n) zero c ordinal t h k = absurd (omega arith)
visited_to-same (suc n) (suc m) c ordinal t h k =
    ap (named_by c ordinal t) (flat_map_same (visited_to n c ordinal) (visited_to m c ordinal) (child_tasks t)
    (Every-map (λ u. visited_to n c ordinal u ≡ visited_to m c ordinal u) (task_of t.problem) (children_of t.cell)
    (Every-weaker (λ d. levels d < levels t.cell) (λ d. visited_to n c ordinal (task_of t.problem d) ≡ visited_to m c ordinal (task_of t.problem d)) (children_of t.cell)
    (λ d f. visited_to-same n m c ordinal (task_of t.problem d) (omega arith) (omega arith)) (levels_fall t.cell))))

pub visited-step : (c : Content) (ordinal : ℕ) (t : Task) → visited c ordinal t ≡ named_by c ordinal t (flat_map (visited c ordinal) (child_tasks t))
unfolding visited visited_to
visited-step c ordinal t =
    let n = t.cell.size + (t.cell.last - t.cell.first) in
    ap (named_by c ordinal t) (flat_map_same (visited_to n c ordinal) (visited c ordinal) (child_tasks t)
    (Every-map (λ u. visited_to n c ordinal u ≡ visited c ordinal u) (task_of t.problem) (children_of t.cell)
    (Every-weaker (λ d. levels d < levels t.cell) (λ d. visited_to n c ordinal (task_of t.problem d) ≡ visited c ordinal (task_of t.problem d)) (children_of t.cell)
    (λ d f. visited_to-same n (levels d) c ordinal (task_of t.problem d) (omega arith) (omega arith)) (levels_fall t.cell))))

-- where the cell is cut, or split, or neither
pub visited_cut : (c : Content) (ordinal : ℕ) (t : Task) → ltb t.cell.last ordinal ≡ true → visited c ordinal t ≡ leaf_of c t ∷ []
visited_cut c ordinal t e =
    visited-step c ordinal t ∙ ap (λ (b : Bool). leaf_of c t ∷ cond b [] (cond (is_split (c.verdict t)) (flat_map (visited c ordinal) (child_tasks t)) [])) e

pub visited_split : (c : Content) (ordinal : ℕ) (t : Task) → ltb t.cell.last ordinal ≡ false → is_split (c.verdict t) ≡ true → visited c ordinal t ≡ leaf_of c t ∷ flat_map (visited c ordinal) (child_tasks t)
visited_split c ordinal t e s = visited-step c ordinal t ∙ rw (e, s) refl

pub visited_leaf : (c : Content) (ordinal : ℕ) (t : Task) → ltb t.cell.last ordinal ≡ false → is_split (c.verdict t) ≡ false → visited c ordinal t ≡ leaf_of c t ∷ []
visited_leaf c ordinal t e s = visited-step c ordinal t ∙ rw (e, s) refl

-- ---- letters

-- where the first has failed, so has the whole
after_both : (ordinal : ℕ) (xs ys : List Leaf) (r : Result Marks CoverFault) → ((m : Marks) → taken ordinal (xs ++ ys) m ≡ (taken ordinal xs m >>= taken ordinal ys)) → (r >>= taken ordinal (xs ++ ys)) ≡ ((r >>= taken ordinal xs) >>= taken ordinal ys)
after_both ordinal xs ys (Ok m) f = f m
after_both ordinal xs ys (Err e) f = refl

pub taken-append : (ordinal : ℕ) (xs ys : List Leaf) (m : Marks) → taken ordinal (xs ++ ys) m ≡ (taken ordinal xs m >>= taken ordinal ys)
taken-append ordinal [] ys m = refl
taken-append ordinal (x ∷ xs) ys m =
    after_both ordinal xs ys (taken_by (letter_for ordinal x) m.marks m.end) (taken-append ordinal xs ys)

pub latest-append : (ordinal : ℕ) (o : Option Leaf) (xs ys : List Leaf) → latest_open ordinal o (xs ++ ys) ≡ latest_open ordinal (latest_open ordinal o xs) ys
latest-append ordinal o [] ys = refl
latest-append ordinal o (x ∷ xs) ys = latest-append ordinal (later_open ordinal o x) xs ys

-- no letter can be read
ended : (right : Option ℕ) (m : Marks) (e : CoverFault) → IsAtEnd m e → taken_by right m.marks m.end ≡ Err e
ended right m e at = ap (λ (ms : List Mark). taken_by right ms m.end) at.none ∙ ap (λ (f : CoverFault). Err f) at.fault

-- one can
shown : (right : Option ℕ) (mark : Mark) (before after : Marks) → before ≡ with_mark mark after → is_letter_for right mark.letter ≡ true → taken_by right before.marks before.end ≡ Ok after
shown right mark before after e is = ap (λ (m : Marks). taken_by right m.marks m.end) e ∙ rw is refl

not_shown : (right : Option ℕ) (mark : Mark) (before after : Marks) → before ≡ with_mark mark after → is_letter_for right mark.letter ≡ false → taken_by right before.marks before.end ≡ Err (NotShown mark.place)
not_shown right mark before after e not_it = ap (λ (m : Marks). taken_by right m.marks m.end) e ∙ rw not_it refl

-- the cells below a task begin with its own
begins : (c : Content) (ordinal : ℕ) (t : Task) → (rest : List Leaf) × (visited c ordinal t ≡ leaf_of c t ∷ rest)
begins c ordinal t = (_, visited-step c ordinal t)

fails_first : (c : Content) (ordinal : ℕ) (t : Task) (m : Marks) (e : CoverFault) → taken_by (letter_for ordinal (leaf_of c t)) m.marks m.end ≡ Err e → taken ordinal (visited c ordinal t) m ≡ Err e
fails_first c ordinal t m e h =
    ap (λ (ls : List Leaf). taken ordinal ls m) (begins c ordinal t).1 ∙ ap (λ (r : Result Marks CoverFault). r >>= taken ordinal (begins c ordinal t).0) h

-- ---- what a walk answers

pub walk_ended : (c : Content) (ordinal : ℕ) (t : Task) (o : Option Leaf) (before after : Marks) (e : CoverFault) → IsAtEnd before e → Walks ordinal (visited c ordinal t) o before after (Err e)
walk_ended c ordinal t o before after e at = fails_first c ordinal t before e (ended (letter_for ordinal (leaf_of c t)) before e at)

letter_cut : (c : Content) (ordinal : ℕ) (t : Task) → ltb t.cell.last ordinal ≡ true → letter_for ordinal (leaf_of c t) ≡ Some 107
letter_cut c ordinal t e = rw e refl

letter_uncut : (c : Content) (ordinal : ℕ) (t : Task) (v : Verdict) → v ≡ c.verdict t → ltb t.cell.last ordinal ≡ false → letter_for ordinal (leaf_of c t) ≡ letter_of v
letter_uncut c ordinal t v judged e = rw e (ap letter_of (sym judged))

same_is : (a b : ℕ) → a ≡ b → eqb a b ≡ true
same_is a b h = grind (arith, nat_tests)

other_is : (a b : ℕ) → (a ≡ b → ⊥) → eqb a b ≡ false
other_is a b h = grind (arith, nat_tests)

and_false : (a b : Bool) → b ≡ false → (a && b) ≡ false
and_false true b h = h
and_false false b h = refl

-- a cut cell isn't open above the ordinal
cut_not_open : (ordinal : ℕ) (o : Option Leaf) (l : Leaf) → ltb l.task.cell.last ordinal ≡ true → later_open ordinal o l ≡ o
cut_not_open ordinal o l e =
    let below : ltb ordinal (last_ordinal l) ≡ false = grind (arith, nat_tests) in
    let closed : is_open_above ordinal l ≡ false = and_false (is_open l.verdict) (ltb ordinal (last_ordinal l)) below in
    rw closed refl

pub walk_cut : (c : Content) (ordinal : ℕ) (t : Task) (o : Option Leaf) (before after : Marks) (mark : Mark) → before ≡ with_mark mark after → ltb t.cell.last ordinal ≡ true → mark.letter ≡ 107 → Walks ordinal (visited c ordinal t) o before after (Ok o)
walk_cut c ordinal t o before after mark e cut letter =
    let right : is_letter_for (letter_for ordinal (leaf_of c t)) mark.letter ≡ true = ap (λ (r : Option ℕ). is_letter_for r mark.letter) (letter_cut c ordinal t cut) ∙ same_is mark.letter 107 letter in (
      ap (λ (ls : List Leaf). taken ordinal ls before) (visited_cut c ordinal t cut) ∙ ap (λ (r : Result Marks CoverFault). r >>= taken ordinal []) (shown (letter_for ordinal (leaf_of c t)) mark before after e right),
      sym (ap (latest_open ordinal o) (visited_cut c ordinal t cut) ∙ cut_not_open ordinal o (leaf_of c t) cut),
    )

pub walk_not_cut : (c : Content) (ordinal : ℕ) (t : Task) (o : Option Leaf) (before after : Marks) (mark : Mark) → before ≡ with_mark mark after → ltb t.cell.last ordinal ≡ true → (mark.letter ≡ 107 → ⊥) → Walks ordinal (visited c ordinal t) o before after (Err (NotShown mark.place))
walk_not_cut c ordinal t o before after mark e cut letter =
    let wrong : is_letter_for (letter_for ordinal (leaf_of c t)) mark.letter ≡ false = ap (λ (r : Option ℕ). is_letter_for r mark.letter) (letter_cut c ordinal t cut) ∙ other_is mark.letter 107 letter in
    fails_first c ordinal t before (NotShown mark.place) (not_shown (letter_for ordinal (leaf_of c t)) mark before after e wrong)

pub walk_not_shown : (c : Content) (ordinal : ℕ) (t : Task) (v : Verdict) (o : Option Leaf) (before after : Marks) (mark : Mark) → v ≡ c.verdict t → before ≡ with_mark mark after → ltb t.cell.last ordinal ≡ false → is_letter_for (letter_of v) mark.letter ≡ false → Walks ordinal (visited c ordinal t) o before after (Err (NotShown mark.place))
walk_not_shown c ordinal t v o before after mark judged e uncut other =
    let wrong : is_letter_for (letter_for ordinal (leaf_of c t)) mark.letter ≡ false = ap (λ (r : Option ℕ). is_letter_for r mark.letter) (letter_uncut c ordinal t v judged uncut) ∙ other in
    fails_first c ordinal t before (NotShown mark.place) (not_shown (letter_for ordinal (leaf_of c t)) mark before after e wrong)

-- a cell that isn't cut is above the ordinal
uncut_above : (ordinal last : ℕ) → ltb last ordinal ≡ false → ltb ordinal (last + 1) ≡ true
uncut_above ordinal last e = grind (arith, nat_tests)

later_same : (ordinal : ℕ) (o : Option Leaf) (l : Leaf) → ltb l.task.cell.last ordinal ≡ false → later_open 0 o l ≡ later_open ordinal o l
later_same ordinal o l e =
    let above = uncut_above ordinal l.task.cell.last e in
    let any : ltb 0 (last_ordinal l) ≡ true = grind (arith, nat_tests) in
    rw (above, any) refl

pub walk_leaf : (c : Content) (ordinal : ℕ) (t : Task) (v : Verdict) (o : Option Leaf) (before after : Marks) (mark : Mark) → v ≡ c.verdict t → before ≡ with_mark mark after → ltb t.cell.last ordinal ≡ false → is_letter_for (letter_of v) mark.letter ≡ true → is_split v ≡ false → Walks ordinal (visited c ordinal t) o before after (Ok (later_open 0 o (record { task = t; verdict = v })))
walk_leaf c ordinal t v o before after mark judged e uncut right leaf =
    let is = (ap (λ (r : Option ℕ). is_letter_for r mark.letter) (letter_uncut c ordinal t v judged uncut) ∙ right) in
    let own = visited_leaf c ordinal t uncut (sym (ap is_split judged) ∙ leaf) in (
      ap (λ (ls : List Leaf). taken ordinal ls before) own ∙ ap (λ (r : Result Marks CoverFault). r >>= taken ordinal []) (shown (letter_for ordinal (leaf_of c t)) mark before after e is),
      later_same ordinal o (record { task = t; verdict = v }) uncut ∙ (ap (λ (w : Verdict). later_open ordinal o (record { task = t; verdict = w })) judged ∙ sym (ap (latest_open ordinal o) own)),
    )

-- a split cell isn't open
split_not_open : (ordinal : ℕ) (o : Option Leaf) (l : Leaf) → is_split l.verdict ≡ true → later_open ordinal o l ≡ o
split_not_open ordinal o l e = by l.verdict e
  where
    by : (v : Verdict) → is_split v ≡ true → later_open ordinal o (record { task = l.task; verdict = v }) ≡ o
    by Split e = refl
    by Outside e = absurd (false≢true e)
    by Proved e = absurd (false≢true e)
    by (Refuted p) e = absurd (false≢true e)
    by (Open p) e = absurd (false≢true e)

pub walk_split : (c : Content) (ordinal : ℕ) (t : Task) (v : Verdict) (o : Option Leaf) (before middle after : Marks) (mark : Mark) (r : Result (Option Leaf) CoverFault) → v ≡ c.verdict t → before ≡ with_mark mark middle → ltb t.cell.last ordinal ≡ false → is_letter_for (letter_of v) mark.letter ≡ true → is_split v ≡ true → Walks ordinal (flat_map (visited c ordinal) (child_tasks t)) o middle after r → Walks ordinal (visited c ordinal t) o before after r
walk_split c ordinal t v o before middle after mark r judged e uncut right split = by r
  where
    below : List Leaf
    below = flat_map (visited c ordinal) (child_tasks t)

    taken_is : taken ordinal (visited c ordinal t) before ≡ taken ordinal below middle
    taken_is =
        ap (λ (ls : List Leaf). taken ordinal ls before) (visited_split c ordinal t uncut (sym (ap is_split judged) ∙ split))
        ∙ ap (λ (x : Result Marks CoverFault). x >>= taken ordinal below) (shown (letter_for ordinal (leaf_of c t)) mark before middle e ((ap (λ (r : Option ℕ). is_letter_for r mark.letter) (letter_uncut c ordinal t v judged uncut) ∙ right)))

    latest_is : latest_open ordinal o (visited c ordinal t) ≡ latest_open ordinal o below
    latest_is =
        ap (latest_open ordinal o) (visited_split c ordinal t uncut (sym (ap is_split judged) ∙ split))
        ∙ ap (λ (x : Option Leaf). latest_open ordinal x below) (split_not_open ordinal o (leaf_of c t) (sym (ap is_split judged) ∙ split))

    by : (r : Result (Option Leaf) CoverFault) → Walks ordinal below o middle after r → Walks ordinal (visited c ordinal t) o before after r
    by (Ok found) h = (taken_is ∙ h.0, h.1 ∙ sym latest_is)
    by (Err f) h = taken_is ∙ h

-- ---- the children

-- the cells below the children before this one have taken their letters
pub record AreWalked (c : Content) (ordinal : ℕ) (t : Task) (cells : List Cell) (i : ℕ) (o f : Option Leaf) (before now : Marks) : Type 0 where
  pub takes : taken ordinal (flat_map (λ d. visited c ordinal (task_of t.problem d)) (take i cells)) before ≡ Ok now
  pub finds : f ≡ latest_open ordinal o (flat_map (λ d. visited c ordinal (task_of t.problem d)) (take i cells))

pub walked_none : (c : Content) (ordinal : ℕ) (t : Task) (cells : List Cell) (o : Option Leaf) (before : Marks) → AreWalked c ordinal t cells 0 o o before before
walked_none c ordinal t cells o before = record { takes = refl; finds = refl }

pub walked_more : (c : Content) (ordinal : ℕ) (t : Task) (cells : List Cell) (i : ℕ) (d : Cell) (o found next : Option Leaf) (before now after : Marks) → i < length cells → AreWalked c ordinal t cells i o found before now → Walks ordinal (visited c ordinal (task_of t.problem (get_or cells i d))) found now after (Ok next) → AreWalked c ordinal t cells (i + 1) o next before after
walked_more c ordinal t cells i d o found next before now after inside h k =
    let f : Cell → List Leaf = λ cell. visited c ordinal (task_of t.problem cell) in
    let parts = parts_more f cells i d inside in
    record {
      takes = ap (λ (ls : List Leaf). taken ordinal ls before) parts ∙ (taken-append ordinal (flat_map f (take i cells)) (f (get_or cells i d)) before ∙ (ap (λ (r : Result Marks CoverFault). r >>= taken ordinal (f (get_or cells i d))) h.takes ∙ k.0));
      finds = k.1 ∙ (ap (λ (x : Option Leaf). latest_open ordinal x (f (get_or cells i d))) h.finds ∙ (sym (latest-append ordinal o (flat_map f (take i cells)) (f (get_or cells i d))) ∙ sym (ap (latest_open ordinal o) parts)));
    }

pub walked_all : (c : Content) (ordinal : ℕ) (t : Task) (cells : List Cell) (i : ℕ) (o found : Option Leaf) (before now : Marks) → cells ≡ children_of t.cell → length cells ≤ i → AreWalked c ordinal t cells i o found before now → Walks ordinal (flat_map (visited c ordinal) (child_tasks t)) o before now (Ok found)
walked_all c ordinal t cells i o found before now same end h =
    let all : take i cells ≡ children_of t.cell = take_all i cells end ∙ same in
    let f : Cell → List Leaf = λ cell. visited c ordinal (task_of t.problem cell) in
    let whole : flat_map (visited c ordinal) (child_tasks t) ≡ flat_map f (take i cells) = flat_map-map (visited c ordinal) (task_of t.problem) (children_of t.cell) ∙ ap (flat_map f) (sym all) in
    (ap (λ (ls : List Leaf). taken ordinal ls before) whole ∙ h.takes, h.finds ∙ sym (ap (latest_open ordinal o) whole))

-- a fault below a child is the whole's
pub walked_fault : (c : Content) (ordinal : ℕ) (t : Task) (cells : List Cell) (i : ℕ) (d : Cell) (o found : Option Leaf) (before now : Marks) (e : CoverFault) → cells ≡ children_of t.cell → i < length cells → AreWalked c ordinal t cells i o found before now → taken ordinal (visited c ordinal (task_of t.problem (get_or cells i d))) now ≡ Err e → taken ordinal (flat_map (visited c ordinal) (child_tasks t)) before ≡ Err e
walked_fault c ordinal t cells i d o found before now e same inside h k =
    let f : Cell → List Leaf = λ cell. visited c ordinal (task_of t.problem cell) in
    let front = flat_map f (take i cells) in
    let rest = flat_map f (drop (i + 1) cells) in
    let here = f (get_or cells i d) in
    let whole : flat_map (visited c ordinal) (child_tasks t) ≡ front ++ (here ++ rest) =
    flat_map-map (visited c ordinal) (task_of t.problem) (children_of t.cell) ∙ (ap (flat_map f) (sym same) ∙ (ap (flat_map f) (sym (take-append-drop i cells)) ∙ (flat_map-append f (take i cells) (drop i cells) ∙ ap (λ (ds : List Cell). front ++ flat_map f ds) (drop_more cells i d inside)))) in
    ap (λ (ls : List Leaf). taken ordinal ls before) whole ∙ (taken-append ordinal front (here ++ rest) before ∙ (ap (λ (r : Result Marks CoverFault). r >>= taken ordinal (here ++ rest)) h.takes
    ∙ (taken-append ordinal here rest now ∙ ap (λ (r : Result Marks CoverFault). r >>= taken ordinal rest) k)))

-- ---- the quarters

-- as many cells as quarters
cells_count : (items : List Quarter) → length (cells_of items) ≡ length items
cells_count items = length-map items (λ (q : Quarter). q.cell)

-- a quarter has the ranks of the whole
quarter_last : (t : Task) (items : List Quarter) (i : ℕ) (q : Quarter) → (split t.cell).count ≡ 4 → cells_of items ≡ children_of t.cell → i < length items → (get_or items i q).cell.last ≡ t.cell.last
quarter_last t items i q four same inside =
    let cell : Quarter → Cell = λ q. q.cell in
    let P : Cell → Type 0 = λ d. d.last ≡ t.cell.last in
    let each : Every P (quarters t.cell).cells = (refl, (refl, (refl, (refl, tt)))) in
    let whole : cells_of items ≡ (quarters t.cell).cells = same ∙ ap (λ (s : Children). take s.count s.cells) (quartered t.cell four) in
    sym (ap (λ (d : Cell). d.last) (get_or-map cell items i q q.cell inside))
    ∙ subst (λ (cells : List Cell). (i : ℕ) (d : Cell) → i < length cells → P (get_or cells i d)) (sym whole) (All-from_recursion P (quarters t.cell).cells each) i q.cell (omega (arith, inside, cells_count items))

-- so it is cut only where the whole is
pub quarter_uncut : (ordinal : ℕ) (t : Task) (items : List Quarter) (i : ℕ) (q : Quarter) → (split t.cell).count ≡ 4 → cells_of items ≡ children_of t.cell → i < length items → ltb t.cell.last ordinal ≡ false → ltb (get_or items i q).cell.last ordinal ≡ false
quarter_uncut ordinal t items i q four same inside uncut =
    ap (λ (n : ℕ). ltb n ordinal) (quarter_last t items i q four same inside) ∙ uncut

-- what is said of the cell of a quarter, and of the quarter's place among the cells
at_quarter : (P : Cell → Type 0) (items : List Quarter) (i : ℕ) (q : Quarter) → i < length items → P (get_or items i q).cell → P (get_or (cells_of items) i q.cell)
at_quarter P items i q inside h =
    let cell : Quarter → Cell = λ q. q.cell in
    subst P (sym (get_or-map cell items i q q.cell inside)) h

-- the cells of all quarters in tree order
pub same_order : (cells cells' : List Cell) → cells' ≡ cells → IsPermutation cells cells'
same_order cells cells' same = subst (λ (ds : List Cell). IsPermutation cells ds) (sym same) (IsPermutation-refl cells)

pub quarter_more : (c : Content) (ordinal : ℕ) (t : Task) (items : List Quarter) (i : ℕ) (q : Quarter) (o found next : Option Leaf) (before now after : Marks) → i < length items → AreWalked c ordinal t (cells_of items) i o found before now → Walks ordinal (visited c ordinal (task_of t.problem (get_or items i q).cell)) found now after (Ok next) → AreWalked c ordinal t (cells_of items) (i + 1) o next before after
quarter_more c ordinal t items i q o found next before now after inside h k =
    walked_more c ordinal t (cells_of items) i q.cell o found next before now after (omega (arith, inside, cells_count items)) h
    (at_quarter (λ d. Walks ordinal (visited c ordinal (task_of t.problem d)) found now after (Ok next)) items i q inside k)

pub quarter_fault : (c : Content) (ordinal : ℕ) (t : Task) (items : List Quarter) (i : ℕ) (q : Quarter) (o found : Option Leaf) (before now : Marks) (e : CoverFault) → cells_of items ≡ children_of t.cell → i < length items → AreWalked c ordinal t (cells_of items) i o found before now → taken ordinal (visited c ordinal (task_of t.problem (get_or items i q).cell)) now ≡ Err e → taken ordinal (flat_map (visited c ordinal) (child_tasks t)) before ≡ Err e
quarter_fault c ordinal t items i q o found before now e same inside h k =
    walked_fault c ordinal t (cells_of items) i q.cell o found before now e same (omega (arith, inside, cells_count items)) h
    (at_quarter (λ d. taken ordinal (visited c ordinal (task_of t.problem d)) now ≡ Err e) items i q inside k)

pub quarters_all : (c : Content) (ordinal : ℕ) (t : Task) (items : List Quarter) (i : ℕ) (o found : Option Leaf) (before now : Marks) → cells_of items ≡ children_of t.cell → length items ≤ i → AreWalked c ordinal t (cells_of items) i o found before now → Walks ordinal (flat_map (visited c ordinal) (child_tasks t)) o before now (Ok found)
quarters_all c ordinal t items i o found before now same end h =
    walked_all c ordinal t (cells_of items) i o found before now same (omega (arith, end, cells_count items)) h

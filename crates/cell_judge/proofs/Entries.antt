-- The entry of a tree whose leaves tell the truth is right.
use Rattle.std.proofs.Common.{◌≡◌, ℕ, zero, suc, ◌-◌, ◌<◌, ◌≤◌, ◌⊎◌, inl, inr, Bool, true, false, cond, ◌&&◌, List, [], ◌∷◌, Option, Some, None, refl, sym, ◌∙◌, subst, arith}
use Rattle.std.specs.Prelude.{max, nat_lt, ◌==◌, find}
use Rattle.std.proofs.lemmas.Bool.{false≢true}
use Rattle.std.proofs.lemmas.Bool.Decides.{nat_tests}
use Rattle.plane_edges.specs.Plane.{Place}
use Rattle.plane_edges.proofs.Truth.{and_left, and_right, and_true}
use Rattle.plane_edges.specs.Views.{place_of}
use Rattle.cell_split.specs.declared.cell.Cell.{Cell}
use Rattle.cell_split.specs.declared.verdict.Entry.TheVariants.{Minute, Whole, Never}
use Rattle.cell_split.specs.declared.verdict.Leaf.{Leaf}
use Rattle.cell_split.specs.declared.verdict.Verdict.{Verdict}
use Rattle.cell_split.specs.declared.verdict.Verdict.TheVariants.{Outside, Proved, Refuted, Split, Open}
use Rattle.cell_split.specs.Cells.{IsCellOf, is_smallest}
use Rattle.cell_split.specs.Entries.{last_ordinal, greatest_ordinal, refuted_ordinal, is_open_above, open_ordinal, first_open, decided, entry_by, entry_of}
use Rattle.cell_split.specs.Laws.{Covers}
use Rattle.cell_split.specs.Verdicts.{is_split, is_open, is_refuted}
use Rattle.cell_split.proofs.Every.{Every, Somewhere, Somewhere-weaker}
use Rattle.cell_judge.specs.Scenes.{Scene, IsPlaceOf, HoldsAt, FailsAt, IsTrueVerdict}
use Rattle.cell_judge.specs.RightEntries.{IsSafeFrom, FailsSomewhere, IsUndecidedIn, IsRight}

-- a leaf of a root's tree whose verdict is true
pub record IsTrueLeaf (s : Scene) (root : Cell) (l : Leaf) : Type 0 where
  pub of_root : IsCellOf root l.task.cell
  pub whole : is_split l.verdict ≡ false
  pub open_last : is_open l.verdict ≡ true → is_smallest l.task.cell ≡ true
  pub is_true : IsTrueVerdict s l.task.cell l.verdict

-- ---- greatest ordinals

-- none that passes is later
most : (test : Leaf → Bool) (n : ℕ) (ls : List Leaf) → greatest_ordinal test ls ≤ n → Every (λ l. test l ≡ true → last_ordinal l ≤ n) ls
most test n [] h = tt
most test n (l ∷ ls) h = (by (test l) h, most test n ls (rest (test l) h)) where
  by : (t : Bool) → max (cond t (last_ordinal l) 0) (greatest_ordinal test ls) ≤ n → t ≡ true → last_ordinal l ≤ n
  by true g e = omega (arith, g)
  by false g e = absurd (false≢true e)

  rest : (t : Bool) → max (cond t (last_ordinal l) 0) (greatest_ordinal test ls) ≤ n → greatest_ordinal test ls ≤ n
  rest t g = omega (arith, g)

which : (a b n : ℕ) → max a b ≡ suc n → (a ≡ suc n) ⊎ (b ≡ suc n)
which a b n k = by (nat_lt a b) refl where
  by : (t : Bool) → nat_lt a b ≡ t → (a ≡ suc n) ⊎ (b ≡ suc n)
  by true e = inr (grind (arith, nat_tests, e, k))
  by false e = inl (grind (arith, nat_tests, e, k))

-- one that passes has it, unless it is 0
attained : (test : Leaf → Bool) (n : ℕ) (ls : List Leaf) → greatest_ordinal test ls ≡ suc n → Somewhere (λ l. (test l ≡ true) × (last_ordinal l ≡ suc n)) ls
attained test n [] h = absurd (omega (arith, h))
attained test n (l ∷ ls) h = by (test l) refl (greatest_ordinal test ls) refl h (attained test n ls) where
  by : (t : Bool) → test l ≡ t → (g : ℕ) → greatest_ordinal test ls ≡ g → max (cond t (last_ordinal l) 0) g ≡ suc n →
      (greatest_ordinal test ls ≡ suc n → Somewhere (λ m. (test m ≡ true) × (last_ordinal m ≡ suc n)) ls) →
      Somewhere (λ m. (test m ≡ true) × (last_ordinal m ≡ suc n)) (l ∷ ls)
  by false e g f k rest = let same : g ≡ suc n = omega (arith, k) in inr (rest (f ∙ same))
  by true e g f k rest = elim (which (last_ordinal l) g n k) [
    | inl here ↦ inl (e, here)
    | inr there ↦ inr (rest (f ∙ there))
  ]

-- ---- the first that passes

found : (test : Leaf → Bool) (l : Leaf) (ls : List Leaf) → find test ls ≡ Some l → Somewhere (λ m. (m ≡ l) × (test m ≡ true)) ls
found test l [] h = cc
found test l (m ∷ ls) h = by (test m) refl h (found test l ls) where
  by : (t : Bool) → test m ≡ t → cond t (Some m) (find test ls) ≡ Some l →
      (find test ls ≡ Some l → Somewhere (λ n. (n ≡ l) × (test n ≡ true)) ls) → Somewhere (λ n. (n ≡ l) × (test n ≡ true)) (m ∷ ls)
  by true e k rest = inl (cc, e)
  by false e k rest = inr (rest k)

missing : (test : Leaf → Bool) (ls : List Leaf) → find test ls ≡ None → Every (λ m. test m ≡ false) ls
missing test [] h = tt
missing test (m ∷ ls) h = by (test m) refl h (missing test ls) where
  by : (t : Bool) → test m ≡ t → cond t (Some m) (find test ls) ≡ None →
      (find test ls ≡ None → Every (λ n. test n ≡ false) ls) → Every (λ n. test n ≡ false) (m ∷ ls)
  by true e k rest = cc
  by false e k rest = (e, rest k)

-- what follows from some leaf follows
from_some : (X : Type 0) (ls : List Leaf) → Somewhere (λ l. X) ls → X
from_some X [] h = absurd h
from_some X (l ∷ ls) (inl h) = h
from_some X (l ∷ ls) (inr h) = from_some X ls h

by_leaf : (P Q : Leaf → Type 0) (X : Type 0) (ls : List Leaf) → ((l : Leaf) → P l → Q l → X) → Every P ls → Somewhere Q ls → X
by_leaf P Q X ls f each some = from_some X ls (Somewhere-weaker P Q (λ l. X) ls f each some)

-- ---- what the leaves say

-- each place of the district at each rank above the greatest refuted one is in a leaf
abbrev pub AreCovering : Scene → List Leaf → Type 0
AreCovering s ls = (p : Place) → IsPlaceOf s p → (rank : ℕ) → refuted_ordinal ls ≤ rank → rank ≤ 720 → Somewhere (λ l. Covers p rank l.task.cell) ls

-- beyond the refuted and the open ranks the condition holds
holds_beyond : (s : Scene) (root : Cell) (l : Leaf) (p : Place) (rank ordinal n : ℕ) → IsTrueLeaf s root l → Covers p rank l.task.cell →
    IsPlaceOf s p → ordinal ≤ n → n ≤ rank → (is_refuted l.verdict ≡ true → last_ordinal l ≤ n) → (is_open_above ordinal l ≡ true → last_ordinal l ≤ n) →
    HoldsAt s p rank
holds_beyond s root l p rank ordinal n leaf covers place below from refuted open' =
    by l.verdict leaf.whole leaf.is_true refuted open'
  where
    by : (v : Verdict) → is_split v ≡ false → IsTrueVerdict s l.task.cell v → (is_refuted v ≡ true → last_ordinal l ≤ n) →
        ((is_open v && nat_lt ordinal (last_ordinal l)) ≡ true → last_ordinal l ≤ n) → HoldsAt s p rank
    by Outside whole says f g = absurd (says.none p covers.in_box place)
    by Proved whole says f g = says.holds p covers.in_box place rank (record { from_first = covers.from_first; to_last = covers.to_last })
    by (Refuted q) whole says f g = let late = f refl in absurd (omega (arith, late, covers.to_last, from))
    by Split whole says f g = absurd (false≢true (sym whole))
    by (Open q) whole says f g =
        let above : nat_lt ordinal (last_ordinal l) ≡ true = grind (arith, nat_tests, covers.to_last, from, below) in
        let late = g above in absurd (omega (arith, late, covers.to_last, from))

safe_beyond : (s : Scene) (root : Cell) (ls : List Leaf) (n : ℕ) → Every (IsTrueLeaf s root) ls → AreCovering s ls →
    refuted_ordinal ls ≤ n → open_ordinal (refuted_ordinal ls) ls ≤ n → IsSafeFrom s n
safe_beyond s root ls n each covering refuted open' = record {
  holds = λ p place rank from in_frame.
      by_leaf (λ l. IsTrueLeaf s root l × (is_refuted l.verdict ≡ true → last_ordinal l ≤ n) × (is_open_above (refuted_ordinal ls) l ≡ true → last_ordinal l ≤ n))
      (λ l. Covers p rank l.task.cell) (HoldsAt s p rank) ls
      (λ l known covers. holds_beyond s root l p rank (refuted_ordinal ls) n known.0 covers place refuted from known.1 known.2)
      (Every-three _ _ _ ls each (most (λ l. is_refuted l.verdict) n ls refuted) (most (is_open_above (refuted_ordinal ls)) n ls open'))
      (covering p place rank (omega (arith, refuted, from)) in_frame);
}
  where
    Every-three : (P Q R : Leaf → Type 0) (xs : List Leaf) → Every P xs → Every Q xs → Every R xs → Every (λ x. P x × Q x × R x) xs
    Every-three P Q R [] f g h = tt
    Every-three P Q R (x ∷ xs) f g h = ((f.0, g.0, h.0), Every-three P Q R xs f.1 g.1 h.1)

-- at the greatest refuted rank some place fails
fails_at : (s : Scene) (root : Cell) (ls : List Leaf) (n : ℕ) → Every (IsTrueLeaf s root) ls → refuted_ordinal ls ≡ suc n → FailsSomewhere s n
fails_at s root ls n each ordinal =
    by_leaf (IsTrueLeaf s root) (λ l. (is_refuted l.verdict ≡ true) × (last_ordinal l ≡ suc n)) (FailsSomewhere s n) ls
    (λ l leaf late. by l leaf l.verdict leaf.is_true late.0 late.1) each (attained (λ l. is_refuted l.verdict) n ls ordinal)
  where
    by : (l : Leaf) → IsTrueLeaf s root l → (v : Verdict) → IsTrueVerdict s l.task.cell v → is_refuted v ≡ true → last_ordinal l ≡ suc n → FailsSomewhere s n
    by l leaf (Refuted q) says e late =
        let here : l.task.cell.last ≡ n = omega (arith, late) in
        record {
          place = place_of q;
          is_place = says.is_place;
          fails = subst (FailsAt s (place_of q)) here
              (says.fails l.task.cell.last (record { from_first = leaf.of_root.formed.ordered; to_last = omega arith }));
        }
    by l leaf Outside says e late = absurd (false≢true e)
    by l leaf Proved says e late = absurd (false≢true e)
    by l leaf Split says e late = absurd (false≢true e)
    by l leaf (Open q) says e late = absurd (false≢true e)

-- no leaf is later than the frame
in_frame : (s : Scene) (root : Cell) (ls : List Leaf) → Every (IsTrueLeaf s root) ls → refuted_ordinal ls ≤ 721
in_frame s root ls each = by (refuted_ordinal ls) refl where
  by : (w : ℕ) → refuted_ordinal ls ≡ w → w ≤ 721
  by zero e = omega arith
  by (suc n) e =
      by_leaf (IsTrueLeaf s root) (λ l. (is_refuted l.verdict ≡ true) × (last_ordinal l ≡ suc n)) (suc n ≤ 721) ls
      (λ l leaf late. let last = leaf.of_root.formed.in_frame in let same = late.1 in omega (arith, last, same)) each
      (attained (λ l. is_refuted l.verdict) n ls e)

-- ---- the entry

-- where nothing is open above the refuted rank
decided_right : (s : Scene) (root : Cell) (ordinal : ℕ) → ordinal ≤ 721 → IsSafeFrom s ordinal → ((n : ℕ) → ordinal ≡ suc n → FailsSomewhere s n) →
    IsRight s root (decided ordinal)
decided_right s root ordinal most' safe before = by (ordinal == 0) (ordinal == 721) refl refl where
  by : (t u : Bool) → (ordinal == 0) ≡ t → (ordinal == 721) ≡ u → IsRight s root (cond t Whole (cond u Never (Minute ordinal)))
  by true u e f = let none : ordinal ≡ 0 = grind (arith, nat_tests, e) in subst (IsSafeFrom s) none safe
  by false true e f = before 720 (grind (arith, nat_tests, f))
  by false false e f =
      let not_none : 1 ≤ ordinal = grind (arith, nat_tests, e) in
      let not_last : ordinal ≤ 720 = grind (arith, nat_tests, f, most') in
      record { not_first = not_none; in_frame = not_last; safe = safe; before = before (ordinal - 1) (omega (arith, not_none)) }

-- an open leaf that was found
open_leaf : (s : Scene) (root : Cell) (l : Leaf) → IsTrueLeaf s root l → is_open l.verdict ≡ true → IsUndecidedIn s root l.task.cell (last_ordinal l)
open_leaf s root l leaf is_open' = by l.verdict leaf.is_true is_open' where
  by : (v : Verdict) → IsTrueVerdict s l.task.cell v → is_open v ≡ true → IsUndecidedIn s root l.task.cell (last_ordinal l)
  by (Open q) says e = record {
    of_root = leaf.of_root;
    smallest = leaf.open_last is_open';
    one_rank = refl;
    place = place_of q;
    in_box = says.in_box;
    is_place = says.is_place;
    near = says.near l.task.cell.last (record { from_first = leaf.of_root.formed.ordered; to_last = omega arith });
  }
  by Outside says e = absurd (false≢true e)
  by Proved says e = absurd (false≢true e)
  by Split says e = absurd (false≢true e)
  by (Refuted q) says e = absurd (false≢true e)

same_word : (m n : ℕ) → m ≡ n → (m == n) ≡ true
same_word m n h = grind (arith, nat_tests, h)

equal_words : (m n : ℕ) → (m == n) ≡ true → m ≡ n
equal_words m n h = grind (arith, nat_tests, h)

-- where none is found, none is open above the refuted rank
none_open : (ls : List Leaf) (ordinal u : ℕ) → open_ordinal ordinal ls ≡ u → first_open u ls ≡ None → u ≡ 0
none_open ls ordinal zero e none = refl
none_open ls ordinal (suc n) e none =
    by_leaf (λ l. (is_open l.verdict && (last_ordinal l == suc n)) ≡ false) (λ l. (is_open_above ordinal l ≡ true) × (last_ordinal l ≡ suc n)) (suc n ≡ 0) ls
    (λ l not_it it. absurd (false≢true (sym not_it ∙ and_true (is_open l.verdict) (last_ordinal l == suc n)
    (and_left (is_open l.verdict) (nat_lt ordinal (last_ordinal l)) it.0) (same_word (last_ordinal l) (suc n) it.1))))
    (missing (λ l. is_open l.verdict && (last_ordinal l == suc n)) ls none)
    (attained (is_open_above ordinal) n ls e)

-- the greatest open rank is above the refuted one, if there is one
open_above : (ls : List Leaf) (ordinal n : ℕ) → open_ordinal ordinal ls ≡ suc n → ordinal < suc n
open_above ls ordinal n e =
    by_leaf (λ l. Unit {0}) (λ l. (is_open_above ordinal l ≡ true) × (last_ordinal l ≡ suc n)) (ordinal < suc n) ls
    (λ l u it. let later = and_right (is_open l.verdict) (nat_lt ordinal (last_ordinal l)) it.0 in let same = it.1 in grind (arith, nat_tests, later, same))
    (units ls) (attained (is_open_above ordinal) n ls e)
  where
    units : (xs : List Leaf) → Every (λ l. Unit {0}) xs
    units [] = tt
    units (x ∷ xs) = (tt, units xs)

found_leaf : (s : Scene) (root : Cell) (ls : List Leaf) (u : ℕ) (l : Leaf) → Every (IsTrueLeaf s root) ls → first_open u ls ≡ Some l →
    IsUndecidedIn s root l.task.cell (last_ordinal l) × (last_ordinal l ≡ u)
found_leaf s root ls u l each some =
    by_leaf (IsTrueLeaf s root) (λ m. (m ≡ l) × ((is_open m.verdict && (last_ordinal m == u)) ≡ true))
    (IsUndecidedIn s root l.task.cell (last_ordinal l) × (last_ordinal l ≡ u)) ls
    (λ m leaf it. subst (λ (k : Leaf). IsUndecidedIn s root k.task.cell (last_ordinal k) × (last_ordinal k ≡ u)) it.0 (
      open_leaf s root m leaf (and_left (is_open m.verdict) (last_ordinal m == u) it.1),
      equal_words (last_ordinal m) u (and_right (is_open m.verdict) (last_ordinal m == u) it.1),
    ))
    each (found (λ m. is_open m.verdict && (last_ordinal m == u)) l ls some)

pub entry_right : (s : Scene) (root : Cell) (ls : List Leaf) → Every (IsTrueLeaf s root) ls → AreCovering s ls → IsRight s root (entry_of ls)
entry_right s root ls each covering = by (refuted_ordinal ls) (open_ordinal (refuted_ordinal ls) ls) refl refl (first_open (open_ordinal (refuted_ordinal ls) ls) ls) refl where
  by : (ordinal u : ℕ) → refuted_ordinal ls ≡ ordinal → open_ordinal (refuted_ordinal ls) ls ≡ u → (o : Option Leaf) → first_open u ls ≡ o → IsRight s root (entry_by ordinal o)
  by ordinal u e f None none =
      let nothing = none_open ls (refuted_ordinal ls) u f none in
      decided_right s root ordinal (subst (λ (w : ℕ). w ≤ 721) e (in_frame s root ls each))
      (safe_beyond s root ls ordinal each covering (omega (arith, e)) (omega (arith, f, nothing)))
      (λ n h. fails_at s root ls n each (e ∙ h))
  by ordinal zero e f (Some l) some = let it = (found_leaf s root ls zero l each some).1 in absurd (omega (arith, it))
  by ordinal (suc n) e f (Some l) some =
      let it = found_leaf s root ls (suc n) l each some in
      let same = it.1 in
      let later = open_above ls (refuted_ordinal ls) n f in
      let last = it.0.of_root.formed.in_frame in
      record {
        ordered = omega (arith, same, later, e);
        in_frame = omega (arith, last);
        safe_from = safe_beyond s root ls (last_ordinal l) each covering (omega (arith, later, same)) (omega (arith, f, same));
        before = λ one. fails_at s root ls (ordinal - 1) each (omega (arith, e, one));
        undecided = it.0;
      }

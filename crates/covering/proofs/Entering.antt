-- The entry of a tree, by its refuted rank and its first open leaf.
use Rattle.std.proofs.Common.{◌≡◌, ℕ, ◌<◌, ◌≤◌, true, cond, eqb, ltb, List, Option, Some, None, refl, sym, ap, ◌∙◌, subst, arith, rules}
use Rattle.std.specs.Prelude.{◌&&◌, IfSome}
use Rattle.std.proofs.lemmas.Bool.Decides.{nat_tests}
use Rattle.cell_split.specs.declared.cell.Cell.{Cell}
use Rattle.cell_split.specs.declared.verdict.Entry.TheVariants.{Minute, Never, Whole}
use Rattle.cell_split.specs.declared.verdict.Leaf.{Leaf}
use Rattle.cell_split.specs.Cells.{IsCellOf}
use Rattle.cell_split.specs.Entries.{decided, entry_by, first_open, is_open_above, last_ordinal, open_ordinal}
use Rattle.cell_split.specs.Judges.{Content, IsLawful, IsTask}
use Rattle.cell_split.specs.Tree.{IsLeafOf, root_task, top}
use Rattle.cell_split.specs.Verdicts.{is_open}
use Rattle.cell_split.proofs.Every.{Every-both, by_test}
use Rattle.cell_split.proofs.LeafLemmas.{IsUnder, leaves_in_tree}
use Rattle.covering.specs.Entries.{IsEntryIn, IsOpenIn}
use Rattle.covering.specs.Seeks.{open_of}
use Rattle.covering.specs.Settles.{leaves_of, refuted_ordinal_of}
use Rattle.plain_search.proofs.Greatest.{greatest_above}
use Rattle.plain_search.proofs.OpenLeaves.{greatest_in_frame, leaves_in_root}
use Rattle.covering.proofs.Walking.{and_parts, found_has, none_at_word_0}

-- no leaf has the ordinal 0
pub none_open : (ls : List Leaf) → first_open 0 ls ≡ None
none_open ls = none_at_word_0 is_open ls

-- what the first open leaf is: a leaf of the tree in its root, open at the greatest open rank
record IsFirstOpen (c : Content) (k : ℕ) (l : Leaf) : Type 0 where
  under : IsUnder (root_task c k) l
  leaf : IsLeafOf c l
  opens : is_open l.verdict ≡ true
  last : last_ordinal l ≡ open_ordinal (refuted_ordinal_of c k) (leaves_of c k)

first_open_is : (c : Content) (k : ℕ) (l : Leaf) → IsLawful c → k < c.problems → Some l ≡ open_of (leaves_of c k) → IsFirstOpen c k l
first_open_is c k l law known e =
    let ls = leaves_of c k in
    let ordinal = open_ordinal (refuted_ordinal_of c k) ls in
    let each = Every-both (IsUnder (root_task c k)) (IsLeafOf c) ls (leaves_in_root c k law known) (leaves_in_tree c (root_task c k) (top k known)) in
    let has = found_has (λ l. IsUnder (root_task c k) l × IsLeafOf c l) (λ l. is_open l.verdict && eqb (last_ordinal l) ordinal) ls l each e in
    let test = and_parts (is_open l.verdict) (eqb (last_ordinal l) ordinal) has.1 in
    record { under = has.0.0; leaf = has.0.1; opens = test.0; last = let same = test.1 in grind (arith, nat_tests) }

-- its rank is the frame's
pub open_in_frame : (c : Content) (k : ℕ) (o : Option Leaf) → IsLawful c → k < c.problems → o ≡ open_of (leaves_of c k) → IfSome o (λ l. last_ordinal l ≤ 721)
open_in_frame c k None law known e = search rules
open_in_frame c k (Some l) law known e = let h = (first_open_is c k l law known e).under.formed.in_frame in omega arith

decided_in_root : (root : Cell) (ordinal : ℕ) → ordinal ≤ 721 → IsEntryIn root (decided ordinal)
decided_in_root root ordinal h =
    by_test (IsEntryIn root) (eqb ordinal 0) Whole (cond (eqb ordinal 721) Never (Minute ordinal)) (λ e. tt)
    (λ some. by_test (IsEntryIn root) (eqb ordinal 721) Never (Minute ordinal) (λ e. tt) (λ most. (grind (arith, nat_tests), grind (arith, nat_tests))))

open_in_root : (c : Content) (k : ℕ) (l : Leaf) → IsLawful c → k < c.problems → Some l ≡ open_of (leaves_of c k) → IsOpenIn c.root (last_ordinal l) (refuted_ordinal_of c k) l.task.cell
open_in_root c k l law known e =
    let is = first_open_is c k l law known e in
    let ordinal = refuted_ordinal_of c k in
    let cell : IsCellOf c.root l.task.cell = record { formed = is.under.formed; inside = is.under.inside } in
    let task : IsTask c l.task = record { known = subst (λ (n : ℕ). n < c.problems) (sym is.under.same) known; cell = cell } in
    let frame = is.under.formed.in_frame in
    let last = is.last in
    let above : ordinal < open_ordinal ordinal (leaves_of c k) =
    greatest_above (is_open_above ordinal) ordinal (leaves_of c k) (λ l h. let later = (and_parts (is_open l.verdict) (ltb ordinal (last_ordinal l)) h).1 in grind (arith, nat_tests)) (omega arith) in
    record {
      in_frame = omega arith;
      ordered = omega arith;
      of_root = cell;
      smallest = law.open_last l.task task (ap is_open (sym is.leaf.judged) ∙ is.opens);
      rank = refl;
    }

-- the entry lies in the root
pub entry_in_root : (c : Content) (k : ℕ) (o : Option Leaf) → IsLawful c → k < c.problems → o ≡ open_of (leaves_of c k) → IsEntryIn c.root (entry_by (refuted_ordinal_of c k) o)
entry_in_root c k None law known e =
    decided_in_root c.root (refuted_ordinal_of c k) (greatest_in_frame _ c k law known)
entry_in_root c k (Some l) law known e = open_in_root c k l law known e

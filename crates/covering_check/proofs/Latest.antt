-- The first open cell of the latest open rank, found cell by cell.
use Rattle.std.proofs.Common.{◌≡◌, ℕ, zero, suc, ◌<◌, ◌≤◌, Bool, true, false, cond, eqb, ltb, List, [], ◌∷◌, max, Option, Some, None, inl, inr, refl, sym, ap, ◌∙◌, arith}
use Rattle.std.specs.Prelude.{◌&&◌}
use Rattle.std.proofs.lemmas.Bool.{false≢true, cases_lt}
use Rattle.std.proofs.lemmas.Bool.Decides.{nat_tests}
use Rattle.plane_edges.proofs.Truth.{and_left, and_right}
use Rattle.cell_split.specs.declared.verdict.Leaf.{Leaf}
use Rattle.cell_split.specs.Entries.{first_open, is_open_above, last_ordinal, open_ordinal}
use Rattle.cell_split.specs.Verdicts.{is_open}
use Rattle.covering.proofs.Entering.{none_open}
use Rattle.plain_search.proofs.Greatest.{greatest_above}
use Rattle.covering_check.specs.Visits.{is_later, later_open, latest_open}

-- the ordinal of what was found
abbrev ordinal_at : Option Leaf → ℕ
ordinal_at None = 0
ordinal_at (Some l) = last_ordinal l

-- the first open cell of a later rank, if that is later than what was found
abbrev choose : ℕ → List Leaf → Option Leaf → Option Leaf
choose u ls o = cond (ltb (ordinal_at o) u) (first_open u ls) o

choose_same : (u v : ℕ) (ls ms : List Leaf) (o : Option Leaf) → u ≡ v → (ordinal_at o < u → first_open u ls ≡ first_open u ms) → choose u ls o ≡ choose v ms o
choose_same u v ls ms o same f = by (ltb (ordinal_at o) u) refl ∙ ap (λ (n : ℕ). choose n ms o) same
  where
    by : (t : Bool) → ltb (ordinal_at o) u ≡ t → cond t (first_open u ls) o ≡ cond t (first_open u ms) o
    by true e = f (grind (arith, nat_tests))
    by false e = refl

choose_later : (u : ℕ) (ls : List Leaf) (o : Option Leaf) → ordinal_at o < u → choose u ls o ≡ first_open u ls
choose_later u ls o h = let e : ltb (ordinal_at o) u ≡ true = grind (arith, nat_tests) in rw e refl

choose_known : (u : ℕ) (ls : List Leaf) (o : Option Leaf) → u ≤ ordinal_at o → choose u ls o ≡ o
choose_known u ls o h = let e : ltb (ordinal_at o) u ≡ false = grind (arith, nat_tests) in rw e refl

-- a cell of another rank is passed over
other_rank : (u : ℕ) (l : Leaf) (ls : List Leaf) → (last_ordinal l ≡ u → ⊥) → first_open u (l ∷ ls) ≡ first_open u ls
other_rank u l ls other =
    let no' : eqb (last_ordinal l) u ≡ false = grind (arith, nat_tests) in
    by (is_open l.verdict) (eqb (last_ordinal l) u) no'
  where
    by : (a b : Bool) → b ≡ false → cond (a && b) (Some l) (first_open u ls) ≡ first_open u ls
    by a true e = absurd (false≢true (sym e))
    by true false e = refl
    by false false e = refl

here : (l : Leaf) (ls : List Leaf) → is_open l.verdict ≡ true → first_open (last_ordinal l) (l ∷ ls) ≡ Some l
here l ls open' = let same : eqb (last_ordinal l) (last_ordinal l) ≡ true = grind (arith, nat_tests) in rw (open', same) refl

-- the greatest open rank is above the ordinal
above_ordinal : (ordinal : ℕ) (ls : List Leaf) → 0 < open_ordinal ordinal ls → ordinal < open_ordinal ordinal ls
above_ordinal ordinal ls h =
    greatest_above (is_open_above ordinal) ordinal ls (λ l e. let later = and_right (is_open l.verdict) (ltb ordinal (last_ordinal l)) e in grind (arith, nat_tests)) h

later_is : (o : Option Leaf) (l : Leaf) → is_later o l ≡ ltb (ordinal_at o) (last_ordinal l)
later_is None l = let e : ltb 0 (last_ordinal l) ≡ true = grind (arith, nat_tests) in sym e
later_is (Some m) l = refl

-- a cell that isn't open above the ordinal
closed_step : (ordinal : ℕ) (o : Option Leaf) (l : Leaf) (ls : List Leaf) → is_open_above ordinal l ≡ false → latest_open ordinal o ls ≡ choose (open_ordinal ordinal ls) ls o → latest_open ordinal (later_open ordinal o l) ls ≡ choose (open_ordinal ordinal (l ∷ ls)) (l ∷ ls) o
closed_step ordinal o l ls e f =
    let kept : later_open ordinal o l ≡ o = rw e refl in
    let same : open_ordinal ordinal ls ≡ open_ordinal ordinal (l ∷ ls) = rw e (omega arith) in
    ap (λ (x : Option Leaf). latest_open ordinal x ls) kept ∙ (f ∙ choose_same (open_ordinal ordinal ls) (open_ordinal ordinal (l ∷ ls)) ls (l ∷ ls) o same
    (λ h. sym (passed (is_open l.verdict) refl h)))
  where
    passed : (t : Bool) → is_open l.verdict ≡ t → ordinal_at o < open_ordinal ordinal ls → first_open (open_ordinal ordinal ls) (l ∷ ls) ≡ first_open (open_ordinal ordinal ls) ls
    passed false k h = rw k refl
    passed true k h =
        let early : ltb ordinal (last_ordinal l) ≡ false = rw k at e in
        let above = above_ordinal ordinal ls (omega arith) in
        other_rank (open_ordinal ordinal ls) l ls (λ same. grind (arith, nat_tests))

open_step : (ordinal : ℕ) (o : Option Leaf) (l : Leaf) (ls : List Leaf) → is_open_above ordinal l ≡ true → ((x : Option Leaf) → latest_open ordinal x ls ≡ choose (open_ordinal ordinal ls) ls x) → latest_open ordinal (later_open ordinal o l) ls ≡ choose (open_ordinal ordinal (l ∷ ls)) (l ∷ ls) o
open_step ordinal o l ls e f =
    elim (cases_lt (ordinal_at o) (last_ordinal l)) [
      | inl later ↦
          let is : is_later o l ≡ true = later_is o l ∙ grind (arith, nat_tests) in
          let kept : later_open ordinal o l ≡ Some l = rw (e, is) refl in
          ap (λ (x : Option Leaf). latest_open ordinal x ls) kept ∙ (f (Some l) ∙ taken_here later)
      | inr early ↦
          let is : is_later o l ≡ false = later_is o l ∙ grind (arith, nat_tests) in
          let kept : later_open ordinal o l ≡ o = rw (e, is) refl in
          ap (λ (x : Option Leaf). latest_open ordinal x ls) kept ∙ (f o ∙ known early)
    ]
  where
    u : ℕ
    u = open_ordinal ordinal ls

    whole : open_ordinal ordinal (l ∷ ls) ≡ max (last_ordinal l) u
    whole = rw e refl

    taken_here : ordinal_at o < last_ordinal l → choose u ls (Some l) ≡ choose (open_ordinal ordinal (l ∷ ls)) (l ∷ ls) o
    taken_here later = elim (cases_lt (last_ordinal l) u) [
      | inl more ↦
          let same : open_ordinal ordinal (l ∷ ls) ≡ u = whole ∙ omega arith in
          choose_later u ls (Some l) more ∙ (sym (other_rank u l ls (λ k. omega arith)) ∙ (sym (choose_later u (l ∷ ls) o (omega arith)) ∙ ap (λ (n : ℕ). choose n (l ∷ ls) o) (sym same)))
      | inr less ↦
          let same : open_ordinal ordinal (l ∷ ls) ≡ last_ordinal l = whole ∙ omega arith in
          choose_known u ls (Some l) less ∙ (sym (here l ls (and_left (is_open l.verdict) (ltb ordinal (last_ordinal l)) e)) ∙ (sym (choose_later (last_ordinal l) (l ∷ ls) o later) ∙ ap (λ (n : ℕ). choose n (l ∷ ls) o) (sym same)))
    ]

    known : last_ordinal l ≤ ordinal_at o → choose u ls o ≡ choose (open_ordinal ordinal (l ∷ ls)) (l ∷ ls) o
    known early = elim (cases_lt (ordinal_at o) u) [
      | inl more ↦
          let same : open_ordinal ordinal (l ∷ ls) ≡ u = whole ∙ omega arith in
          choose_later u ls o more ∙ (sym (other_rank u l ls (λ k. omega arith)) ∙ (sym (choose_later u (l ∷ ls) o more) ∙ ap (λ (n : ℕ). choose n (l ∷ ls) o) (sym same)))
      | inr less ↦ choose_known u ls o less ∙ sym (choose_known (open_ordinal ordinal (l ∷ ls)) (l ∷ ls) o (omega (arith, whole)))
    ]

latest_step : (ordinal : ℕ) (o : Option Leaf) (l : Leaf) (ls : List Leaf) (t : Bool) → is_open_above ordinal l ≡ t → ((x : Option Leaf) → latest_open ordinal x ls ≡ choose (open_ordinal ordinal ls) ls x) → latest_open ordinal (later_open ordinal o l) ls ≡ choose (open_ordinal ordinal (l ∷ ls)) (l ∷ ls) o
latest_step ordinal o l ls true e f = open_step ordinal o l ls e f
latest_step ordinal o l ls false e f = closed_step ordinal o l ls e (f o)

latest_is : (ordinal : ℕ) (ls : List Leaf) (o : Option Leaf) → latest_open ordinal o ls ≡ choose (open_ordinal ordinal ls) ls o
latest_is ordinal [] o = sym (choose_known 0 [] o (omega arith))
latest_is ordinal (l ∷ ls) o = latest_step ordinal o l ls (is_open_above ordinal l) refl (latest_is ordinal ls)

-- found from nothing it is the first open cell of the greatest open rank
pub latest_first : (ordinal : ℕ) (ls : List Leaf) → latest_open ordinal None ls ≡ first_open (open_ordinal ordinal ls) ls
latest_first ordinal ls = latest_is ordinal ls None ∙ by (open_ordinal ordinal ls) refl
  where
    by : (u : ℕ) → open_ordinal ordinal ls ≡ u → choose u ls None ≡ first_open u ls
    by zero e = sym (none_open ls)
    by (suc n) e = choose_later (suc n) ls None (omega arith)

-- Each step keeps the rule of the bound, from any state that meets it.
use Rattle.std.proofs.Common.{◌≡◌, ◌≢◌, ℕ, ◌+◌, ◌<◌, ◌≤◌, List, [], ◌∷◌, ◌++◌, length, max, slice_index, slice_set, Some, None, eq-eqb, ne_eqb, sym, refl, ap, ◌∙◌, subst, ⊎_elim, arith}
use Rattle.std.proofs.lemmas.List.{length-set, get_or-set_same, get_or-set_other}
use mathlib.Core.Option.{some, none}
use mathlib.Core.Logic.{dite}
use native.Mathlib.Decide.{dec_le, ℕ_discrete}
use lib.ListN.{get_elem?}
use Rattle.atomic_table.specs.Table.{State, Me, Allows, Splits, Joins, step, keeps}
use Rattle.atomic_table.proofs.Lists.{at_set, at_snoc, set_again}
use Rattle.bound_word.specs.declared.rule.Sight.{Sight}
use Rattle.bound_word.specs.declared.rule.About.{About}
use Rattle.bound_word.specs.Sights.{greatest, sight, with_seen, joined}
use Rattle.bound_word.specs.Rule.{IsFactWord, Keeps, Reads, Raises, Passes}

pub greatest-append : (xs ys : List (ℕ × ℕ)) (k : ℕ) → greatest (xs ++ ys) k ≡ max (greatest xs k) (greatest ys k)
greatest-append [] ys k = omega arith
greatest-append (x ∷ xs) ys k = let h = greatest-append xs ys k in omega arith

-- a word that was seen once more
seen_here : {F : Type 0} (v : Sight F) (k n : ℕ) → greatest (with_seen v k n).saw k ≡ max n (greatest v.saw k)
seen_here v k n = rw (eq-eqb k k refl) refl

-- another word than the one that was seen once more
seen_else : {F : Type 0} (v : Sight F) (k n j : ℕ) → j ≢ k → greatest (with_seen v k n).saw j ≡ greatest v.saw j
seen_else v k n j other = let ne : k ≢ j = λ e. other (sym e) in rw (ne_eqb k j ne) (omega arith)

module _ {F : Type 0} (fact : F → ℕ → ℕ → Type 0) (about : About F) where
  -- word k rises to n, which is a fact, and the seat id sees it
  pub keeps_rise : (s : State (Unit {0}) (Sight F)) (id k n : ℕ) (v : Sight F) → Keeps fact about s → get_elem? s.views id ≡ some v → k < about.count
      → slice_index s.words k ≤ n → n ≤ 721 → IsFactWord fact about.content k n
      → Keeps fact about (record { words = slice_set s.words k n; homes = s.homes; views = slice_set s.views id (with_seen v k n) })
  keeps_rise s id k n v rule at inside rise small known =
      let place : k < length s.words = omega (arith, rule.counted) in
      let here : (j : ℕ) → j ≡ k → slice_index (slice_set s.words k n) j ≡ n = λ j e. subst (λ (i : ℕ). slice_index (slice_set s.words k n) i ≡ n) (sym e) (get_or-set_same s.words k n 0 place) in
      let else : (j : ℕ) → j ≢ k → slice_index (slice_set s.words k n) j ≡ slice_index s.words j = λ j ne. get_or-set_other s.words k j n 0 ne in
      record {
        counted = length-set s.words k n ∙ rule.counted;
        contents = λ i w c e is. ⊎_elim (λ t. rule.contents id v c at (ap (λ (u : Sight F). u.content) t.1 ∙ is)) (λ t. rule.contents i w c t.1 is) (at_set s.views id i (with_seen v k n) w e);
        facts = λ j lt. dite (ℕ_discrete j k)
            (λ e. subst (λ (m : ℕ). IsFactWord fact about.content j m) (sym (here j e)) (subst (λ (i : ℕ). IsFactWord fact about.content i n) (sym e) known))
            (λ ne. subst (λ (m : ℕ). IsFactWord fact about.content j m) (sym (else j ne)) (rule.facts j lt));
        small = λ j lt. dite (ℕ_discrete j k)
            (λ e. omega (arith, here j e))
            (λ ne. omega (arith, else j ne, rule.small j lt));
        risen = λ i w j e lt. ⊎_elim
            (λ t. subst (λ (u : Sight F). greatest u.saw j ≤ slice_index (slice_set s.words k n) j) t.1 (dite (ℕ_discrete j k)
            (λ is. subst (λ (m : ℕ). greatest (with_seen v k n).saw m ≤ slice_index (slice_set s.words k n) m) (sym is) (omega (arith, here k refl, seen_here v k n, rule.risen id v k at inside)))
            (λ ne. omega (arith, else j ne, seen_else v k n j ne, rule.risen id v j at lt))))
            (λ t. dite (ℕ_discrete j k)
            (λ is. subst (λ (m : ℕ). greatest w.saw m ≤ slice_index (slice_set s.words k n) m) (sym is) (omega (arith, here k refl, rule.risen i w k t.1 inside)))
            (λ ne. omega (arith, else j ne, rule.risen i w j t.1 lt)))
            (at_set s.views id i (with_seen v k n) w e);
      }

  -- the last word becomes any number, and no seat sees anything
  keeps_open : (s : State (Unit {0}) (Sight F)) (id n : ℕ) (v : Sight F) → Keeps fact about s → get_elem? s.views id ≡ some v
      → Keeps fact about (record { words = slice_set s.words about.count n; homes = s.homes; views = slice_set s.views id v })
  keeps_open s id n v rule at =
      let else : (j : ℕ) → j < about.count → slice_index (slice_set s.words about.count n) j ≡ slice_index s.words j = λ j lt. get_or-set_other s.words about.count j n 0 (λ e. absurd (omega arith)) in
      let P : List (Sight F) → Type 0 = λ views. Keeps fact about (record { words = slice_set s.words about.count n; homes = s.homes; views = views }) in
      subst P (sym (set_again s.views id v at)) (record {
        counted = length-set s.words about.count n ∙ rule.counted;
        contents = rule.contents;
        facts = λ j lt. subst (λ (m : ℕ). IsFactWord fact about.content j m) (sym (else j lt)) (rule.facts j lt);
        small = λ j lt. omega (arith, else j lt, rule.small j lt);
        risen = λ i w j e lt. omega (arith, else j lt, rule.risen i w j e lt);
      })

  -- a load of word k
  pub reads : (slots id k : ℕ) (me : Me (Unit {0}) (Sight F)) → k < about.count
      → Allows (Keeps fact about) slots id me k (λ n. n) (Reads fact (step slots k 0 0 none) me)
  reads slots id k me inside s rule homes at fits =
      let v : Sight F = me.0 in
      let n : ℕ = slice_index s.words k in (
        with_seen v k n,
        keeps,
        tt,
        keeps_rise s id k n v rule at inside (omega arith) (rule.small k inside) (rule.facts k inside),
        (
          refl,
          (λ c is. subst (λ (x : F). IsFactWord fact x k n) (sym (rule.contents id v c at is)) (rule.facts k inside)),
          rule.small k inside,
          rule.risen id v k at inside,
        ),
      )

  -- word k rises to at least one more than a rank that is a fact
  pub raises : (slots id k rank : ℕ) (me : Me (Unit {0}) (Sight F)) → k < about.count → rank ≤ 720 → fact about.content k rank
      → Allows (Keeps fact about) slots id me k (λ n. max n (rank + 1)) (Raises (step slots k (rank + 1) 0 none) me)
  raises slots id k rank me inside small known s rule homes at fits =
      let v : Sight F = me.0 in
      let n : ℕ = slice_index s.words k in (
        with_seen v k (max n (rank + 1)),
        keeps,
        tt,
        keeps_rise s id k (max n (rank + 1)) v rule at inside (omega arith) (omega (arith, rule.small k inside))
            (λ r e. dite (dec_le n (rank + 1))
            (λ low. subst (λ (x : ℕ). fact about.content k x) (let same : rank ≡ r = omega arith in same) known)
            (λ high. rule.facts k inside r (omega arith))),
        refl,
      )

  -- any step on the last word
  pub passes : (f : ℕ → ℕ) (slots id a b : ℕ) (me : Me (Unit {0}) (Sight F)) (k : ℕ) → k ≡ about.count
      → Allows (Keeps fact about) slots id me k f (Passes (step slots k a b none) me)
  passes f slots id a b me k last s rule homes at fits =
      let v : Sight F = me.0 in
      (v, keeps, tt, subst (λ (i : ℕ). Keeps fact about (record { words = slice_set s.words i (f (slice_index s.words k)); homes = s.homes; views = slice_set s.views id v })) (sym last) (keeps_open s id (f (slice_index s.words k)) v rule at), refl)

  pub splits : (id : ℕ) (v : Sight F) → Splits (Keeps fact about) id v v v
  splits id v s rule at =
      let views : List (Sight F) = s.views ++ v ∷ [] in
      let P : List (Sight F) → Type 0 = λ views. Keeps fact about (record { words = s.words; homes = s.homes; views = views ++ v ∷ [] }) in
      subst P (sym (set_again s.views id v at)) (record {
        counted = rule.counted;
        contents = λ i w c e is. ⊎_elim (λ t. rule.contents i w c t is) (λ t. rule.contents id v c at (ap (λ (u : Sight F). u.content) t ∙ is)) (at_snoc s.views v w i e);
        facts = rule.facts;
        small = rule.small;
        risen = λ i w j e lt. ⊎_elim (λ t. rule.risen i w j t lt) (λ t. subst (λ (u : Sight F). greatest u.saw j ≤ slice_index s.words j) t (rule.risen id v j at lt)) (at_snoc s.views v w i e);
      })

  pub joins : (id other : ℕ) (v w : Sight F) → Joins (Keeps fact about) id v other w (joined v w) (sight None [])
  joins id other v w s rule at apart there =
      let was : get_elem? s.views other ≡ some w = ⊎_elim (λ t. absurd (apart t.0)) (λ t. t.1) (at_set s.views id other (joined v w) w there) in
      let both : (j : ℕ) → j < about.count → greatest (joined v w).saw j ≤ slice_index s.words j = λ j lt. omega (arith, greatest-append v.saw w.saw j, rule.risen id v j at lt, rule.risen other w j was lt) in
      record {
        counted = rule.counted;
        contents = λ i u c e is. ⊎_elim
            (λ t. absurd (let none_is : None ≡ Some c = ap (λ (x : Sight F). x.content) t.1 ∙ is in cc))
            (λ t. ⊎_elim
            (λ p. rule.contents id v c at (ap (λ (x : Sight F). x.content) p.1 ∙ is))
            (λ p. rule.contents i u c p.1 is)
            (at_set s.views id i (joined v w) u t.1))
            (at_set (slice_set s.views id (joined v w)) other i (sight None []) u e);
        facts = rule.facts;
        small = rule.small;
        risen = λ i u j e lt. ⊎_elim
            (λ t. subst (λ (x : Sight F). greatest x.saw j ≤ slice_index s.words j) t.1 (omega arith))
            (λ t. ⊎_elim
            (λ p. subst (λ (x : Sight F). greatest x.saw j ≤ slice_index s.words j) p.1 (both j lt))
            (λ p. rule.risen i u j p.1 lt)
            (at_set s.views id i (joined v w) u t.1))
            (at_set (slice_set s.views id (joined v w)) other i (sight None []) u e);
      }

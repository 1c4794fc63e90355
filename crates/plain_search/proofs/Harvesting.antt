-- Searches of one problem after another make a harvest.
use Rattle.std.proofs.Common.{◌≡◌, ℕ, suc, ◌+◌, ◌<◌, List, [], ◌∷◌, ◌++◌, Contains, Option, None, sym, refl, ap, ◌∙◌, subst, arith, add-one, length-append}
use Rattle.std.proofs.lemmas.List.{get_or_push, get_or_append_left}
use Rattle.std.proofs.lemmas.List.Elements.{All-nil, All-append, All-weaker, Contains-append_left, Contains-append_right}
use mathlib.Core.Logic.{dite}
use native.Mathlib.Decide.{ℕ_discrete}
use Rattle.cell_split.specs.declared.verdict.Leaf.{Leaf}
use Rattle.cell_split.specs.Judges.{Content}
use Rattle.cell_split.specs.Tree.{root_task, leaves, all_leaves_to}
use Rattle.cell_split.specs.Entries.{refuted_ordinal}
use Rattle.plain_search.specs.Harvests.{ordinal_of, ordinals_of, is_above, IsHarvest}
use Rattle.plain_search.specs.Collected.{Collects, Searched}
use Rattle.plain_search.proofs.Collecting.{weight-append}

pub searched-none : (c : Content) → Searched c 0 [] []
searched-none c = record { counted = refl; refuted = λ k h. absurd (omega arith); above = λ ordinals h weight. refl; part = All-nil (Contains []) }

pub searched-more : (c : Content) (n : ℕ) (ranks : List (Option ℕ)) (rank : Option ℕ) (earlier found : List Leaf)
    → Searched c n ranks earlier → Collects n (leaves c (root_task c n)) 0 (ordinal_of rank) earlier found → Searched c (n + 1) (ranks ++ rank ∷ []) found
searched-more c n ranks rank earlier found before now =
    let all = all_leaves_to n c in
    let next = leaves c (root_task c n) in
    let kept = now.kept in
    let old : (k : ℕ) → k < n → ordinals_of (ranks ++ rank ∷ []) k ≡ ordinals_of ranks k = λ k h. ap ordinal_of (get_or_append_left ranks (rank ∷ []) None k (omega (arith, before.counted))) in
    let new : ordinals_of (ranks ++ rank ∷ []) n ≡ ordinal_of rank = ap ordinal_of (get_or_push ranks rank None n before.counted) in
    let P : ℕ → Type 0 = λ m. Searched c m (ranks ++ rank ∷ []) found in
    let Q : List Leaf → Type 0 = λ l. Searched c (suc n) (ranks ++ rank ∷ []) l in
    subst P (sym (add-one n)) (subst Q (sym now.behind) (record {
      counted = omega (arith, length-append ranks (rank ∷ []), before.counted);
      refuted = λ k h. dite (ℕ_discrete k n)
          (λ e. subst (λ (m : ℕ). ordinals_of (ranks ++ rank ∷ []) m ≡ refuted_ordinal (leaves c (root_task c m))) (sym e) (omega (arith, new, now.ordinal)))
          (λ ne. old k (omega arith) ∙ before.refuted k (omega arith));
      above = λ ordinals h weight.
          weight-append weight (is_above ordinals) earlier kept all next
          (before.above ordinals (λ k lt. omega (arith, old k lt, h k (omega arith))) weight)
          (now.above ordinals (omega (arith, new, h n (omega arith))) weight);
      part = All-append (Contains (all ++ next)) earlier kept
          (All-weaker (Contains all) (Contains (all ++ next)) (λ x in'. Contains-append_left all next x in') earlier before.part)
          (All-weaker (Contains next) (Contains (all ++ next)) (λ x in'. Contains-append_right all next x in') kept now.part);
    }))

pub harvested : (c : Content) (ranks : List (Option ℕ)) (found : List Leaf) → Searched c c.problems ranks found → IsHarvest c ranks found
harvested c ranks found all = record {
  counted = all.counted;
  refuted = all.refuted;
  above = λ weight. all.above (ordinals_of ranks) (λ k h. omega arith) weight;
  others = all.part;
}

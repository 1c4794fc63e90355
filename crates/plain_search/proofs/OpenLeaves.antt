-- The open leaves of a problem: in its own tree alone, and in a harvest as in the tree.
use Rattle.std.proofs.Common.{◌≡◌, ℕ, zero, suc, ◌<◌, ◌≤◌, Bool, true, false, cond, eqb, ltb, max, List, [], ◌∷◌, Option, refl, ap, ◌∙◌, arith, eq-eqb}
use Rattle.std.specs.Prelude.{◌&&◌, ◌≢◌}
use Rattle.std.proofs.lemmas.Bool.{and_parts}
use Rattle.std.proofs.lemmas.Bool.Decides.{nat_tests}
use mathlib.Core.Logic.{dite}
use native.Mathlib.Decide.{ℕ_discrete}
use Rattle.cell_split.specs.declared.verdict.Leaf.{Leaf}
use Rattle.cell_split.specs.Entries.{greatest_ordinal, is_open_above, last_ordinal, open_ordinal}
use Rattle.cell_split.specs.Judges.{Content, IsLawful}
use Rattle.cell_split.specs.Tree.{all_leaves, all_leaves_to, leaves, root_task}
use Rattle.cell_split.specs.Verdicts.{is_open}
use Rattle.cell_split.proofs.Every.{Every, Every-weaker}
use Rattle.cell_split.proofs.LeafLemmas.{IsUnder, leaves_under, root_is_task}
use Rattle.plain_search.specs.Harvests.{IsHarvest, is_above, ordinals_of}
use Rattle.plain_search.specs.TopRanks.{above, is_open_of}
use Rattle.plain_search.proofs.Greatest.{greatest-append, greatest_none, greatest_same, greatest_weighed, greatest_within}

-- the leaves of a problem's tree lie in its root
pub leaves_in_root : (c : Content) (k : ℕ) → IsLawful c → k < c.problems → Every (IsUnder (root_task c k)) (leaves c (root_task c k))
leaves_in_root c k law known = leaves_under c (root_task c k) (root_is_task c law k known)

-- so no ordinal is above that of the frame's last rank
pub greatest_in_frame : (test : Leaf → Bool) (c : Content) (k : ℕ) → IsLawful c → k < c.problems → greatest_ordinal test (leaves c (root_task c k)) ≤ 721
greatest_in_frame test c k law known =
    greatest_within test 721 (leaves c (root_task c k))
    (Every-weaker (IsUnder (root_task c k)) (λ l. last_ordinal l ≤ 721) (leaves c (root_task c k)) (λ l u. let h = u.formed.in_frame in omega arith) (leaves_in_root c k law known))

-- the open leaves of a problem are in its own tree alone
open_elsewhere : (c : Content) (k ordinal n : ℕ) → IsLawful c → n < c.problems → n ≢ k → greatest_ordinal (is_open_of k ordinal) (leaves c (root_task c n)) ≡ 0
open_elsewhere c k ordinal n law known other =
    greatest_none (is_open_of k ordinal) (leaves c (root_task c n))
    (Every-weaker (IsUnder (root_task c n)) (λ l. is_open_of k ordinal l ≡ false) (leaves c (root_task c n))
    (λ l u. let same = u.same in let e : eqb l.task.problem k ≡ false = grind (arith, nat_tests) in ap (λ (b : Bool). b && is_open_above ordinal l) e) (leaves_in_root c n law known))

open_here : (c : Content) (k ordinal : ℕ) → IsLawful c → k < c.problems → greatest_ordinal (is_open_of k ordinal) (leaves c (root_task c k)) ≡ open_ordinal ordinal (leaves c (root_task c k))
open_here c k ordinal law known =
    greatest_same (is_open_of k ordinal) (is_open_above ordinal) (leaves c (root_task c k))
    (Every-weaker (IsUnder (root_task c k)) (λ l. is_open_of k ordinal l ≡ is_open_above ordinal l) (leaves c (root_task c k))
    (λ l u. ap (λ (b : Bool). b && is_open_above ordinal l) (eq-eqb l.task.problem k u.same)) (leaves_in_root c k law known))

open_before : (c : Content) (k ordinal n : ℕ) → IsLawful c → n ≤ c.problems → n ≤ k → greatest_ordinal (is_open_of k ordinal) (all_leaves_to n c) ≡ 0
open_before c k ordinal zero law known early = refl
open_before c k ordinal (suc n) law known early =
    let before = open_before c k ordinal n law (omega arith) (omega arith) in
    let part = open_elsewhere c k ordinal n law (omega arith) (λ e. omega arith) in
    greatest-append (is_open_of k ordinal) (all_leaves_to n c) (leaves c (root_task c n)) ∙ omega arith

open_after : (c : Content) (k ordinal n : ℕ) → IsLawful c → n ≤ c.problems → k < n → greatest_ordinal (is_open_of k ordinal) (all_leaves_to n c) ≡ open_ordinal ordinal (leaves c (root_task c k))
open_after c k ordinal zero law known late = absurd (omega arith)
open_after c k ordinal (suc n) law known late =
    greatest-append (is_open_of k ordinal) (all_leaves_to n c) (leaves c (root_task c n)) ∙ dite (ℕ_discrete n k)
    (λ e. let before = open_before c k ordinal n law (omega arith) (omega arith) in
    let here = ap (λ (m : ℕ). greatest_ordinal (is_open_of k ordinal) (leaves c (root_task c m))) e ∙ open_here c k ordinal law (omega arith) in
    omega arith)
    (λ ne. let before = open_after c k ordinal n law (omega arith) (omega arith) in
    let part = open_elsewhere c k ordinal n law (omega arith) ne in
    omega arith)

and_last : (a b d : Bool) → (a && (b && d)) ≡ true → (a ≡ true) × (d ≡ true)
and_last a b d h = let parts = and_parts a (b && d) h in (parts.0, (and_parts b d parts.1).1)

open_is_above : (ordinals : ℕ → ℕ) (k : ℕ) (l : Leaf) → is_open_of k (ordinals k) l ≡ true → is_above ordinals l ≡ true
open_is_above ordinals k l h =
    let parts = and_last (eqb l.task.problem k) (is_open l.verdict) (ltb (ordinals k) (last_ordinal l)) h in
    let same : l.task.problem ≡ k = let e = parts.0 in grind (arith, nat_tests) in
    ap (λ (n : ℕ). ltb (ordinals n) (last_ordinal l)) same ∙ parts.1

above_more : (ordinal rest : ℕ) → max 0 (above ordinal rest) ≡ above ordinal (max 0 rest)
above_more ordinal rest = grind (arith, nat_tests)

-- the greatest of them above an ordinal is the greatest of all, where that is above the ordinal
pub open_above : (k ordinal : ℕ) (ls : List Leaf) → greatest_ordinal (is_open_of k ordinal) ls ≡ above ordinal (greatest_ordinal (λ l. eqb l.task.problem k && is_open l.verdict) ls)
open_above k ordinal [] = grind (arith, nat_tests)
open_above k ordinal (l ∷ ls) =
    ap (λ (n : ℕ). max (cond (is_open_of k ordinal l) (last_ordinal l) 0) n) (open_above k ordinal ls)
    ∙ step (eqb l.task.problem k) (is_open l.verdict) (last_ordinal l) (greatest_ordinal (λ l. eqb l.task.problem k && is_open l.verdict) ls)
  where
    step : (a b : Bool) (last rest : ℕ) → max (cond (a && (b && ltb ordinal last)) last 0) (above ordinal rest) ≡ above ordinal (max (cond (a && b) last 0) rest)
    step true true last rest = grind (arith, nat_tests)
    step true false last rest = above_more ordinal rest
    step false b last rest = above_more ordinal rest

-- the greatest open rank over a harvest is that of the tree
pub harvested_open : (c : Content) (k : ℕ) (ranks : List (Option ℕ)) (found : List Leaf) → IsLawful c → k < c.problems → IsHarvest c ranks found → greatest_ordinal (is_open_of k (ordinals_of ranks k)) found ≡ open_ordinal (ordinals_of ranks k) (leaves c (root_task c k))
harvested_open c k ranks found law known h =
    greatest_weighed (is_open_of k (ordinals_of ranks k)) (is_above (ordinals_of ranks)) found (all_leaves c) (open_is_above (ordinals_of ranks) k) h.above ∙ open_after c k (ordinals_of ranks k) c.problems law (omega arith) known

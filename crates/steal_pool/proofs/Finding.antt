-- What all workers owe in the end makes a harvest.
use Rattle.std.proofs.Common.{◌≡◌, ℕ, zero, suc, ◌+◌, ◌<◌, ◌≤◌, Bool, true, false, cond, ltb, List, [], ◌∷◌, length, max, filter, sum_by, All, Option, refl, sym, ap, ◌∙◌, arith}
use Rattle.std.specs.Prelude.{◌&&◌, Contains, slice_index_or, None}
use Rattle.std.proofs.lemmas.Bool.{and_parts}
use Rattle.std.proofs.lemmas.Bool.Decides.{nat_tests}
use Rattle.std.proofs.lemmas.List.Elements.{All-contains, All-from_recursion, filter-append, recursion_from_All}
use Rattle.std.proofs.lemmas.List.Sums.{sum_by-append, sum_by_push}
use mathlib.Core.Logic.{dite}
use native.Mathlib.Decide.{ℕ_discrete}
use Rattle.cell_split.specs.declared.verdict.Leaf.{Leaf}
use Rattle.cell_split.specs.Entries.{greatest_ordinal, last_ordinal, open_ordinal, refuted_ordinal}
use Rattle.cell_split.specs.Judges.{Content, IsLawful}
use Rattle.cell_split.specs.Tree.{all_leaves, all_leaves_to, leaves, root_task}
use Rattle.cell_split.specs.Verdicts.{is_refuted}
use Rattle.cell_split.proofs.Every.{Every, Every-append, Every-both, Every-weaker}
use Rattle.cell_split.proofs.LeafLemmas.{IsUnder}
use Rattle.plain_search.specs.declared.ranks_alone.TopRanks.{TopRanks}
use Rattle.plain_search.specs.Harvests.{is_above, ordinal_of, ordinals_of}
use Rattle.plain_search.specs.TopRanks.{above}
use Rattle.plain_search.proofs.Greatest.{greatest-append, greatest_none, greatest_weighed}
use Rattle.plain_search.proofs.OpenLeaves.{harvested_open, leaves_in_root, open_above}
use Rattle.search_worker.specs.OpenRanks.{AreOpenRanks}
use Rattle.search_worker.specs.Owing.{AreSeen, IsTold, Owes, below, job_of}
use Rattle.search_crew.specs.Crews.{roots_to}
use Rattle.steal_pool.specs.Found.{AreAllTopOrdinals, AreFacts, IsFound}

-- the roots weigh what all leaves weigh
roots_weigh : (c : Content) (ordinals : ℕ → ℕ) (weight : Leaf → ℕ) (n : ℕ) → sum_by (below c ordinals weight) (roots_to n c) ≡ sum_by weight (filter (is_above ordinals) (all_leaves_to n c))
roots_weigh c ordinals weight zero = refl
roots_weigh c ordinals weight (suc n) =
    let before = roots_weigh c ordinals weight n in
    let all = all_leaves_to n c in
    let next = leaves c (root_task c n) in
    let test = is_above ordinals in
    let both = ap (sum_by weight) (filter-append test all next) ∙ sum_by-append weight (filter test all) (filter test next) in
    omega (arith, before, both, sum_by_push (below c ordinals weight) (roots_to n c) (job_of (root_task c n) false))

-- each leaf is of a problem
known_problems : (c : Content) (n : ℕ) → IsLawful c → n ≤ c.problems → Every (λ l. l.task.problem < c.problems) (all_leaves_to n c)
known_problems c zero law few = tt
known_problems c (suc n) law few =
    Every-append (λ l. l.task.problem < c.problems) (all_leaves_to n c) (leaves c (root_task c n)) (known_problems c n law (omega arith))
    (Every-weaker (IsUnder (root_task c n)) (λ l. l.task.problem < c.problems) (leaves c (root_task c n)) (λ l u. let same = u.same in omega arith) (leaves_in_root c n law (omega arith)))

-- a refuted leaf above the rank of its problem
abbrev is_above_refuted : (ℕ → ℕ) → Leaf → Bool
is_above_refuted ordinals l = is_refuted l.verdict && is_above ordinals l

-- the greatest of a problem's tree is at most that of all
part_of_all : (test : Leaf → Bool) (c : Content) (k n : ℕ) → k < n → greatest_ordinal test (leaves c (root_task c k)) ≤ greatest_ordinal test (all_leaves_to n c)
part_of_all test c k zero inside = absurd (omega arith)
part_of_all test c k (suc n) inside =
    let both = greatest-append test (all_leaves_to n c) (leaves c (root_task c n)) in
    dite (ℕ_discrete n k)
    (λ e. let here = ap (λ (m : ℕ). greatest_ordinal test (leaves c (root_task c m))) e in omega (arith, both, here))
    (λ ne. let earlier = part_of_all test c k n (omega arith) in omega (arith, both, earlier))

-- where no leaf of a problem is refuted above this ordinal, no greater one is refuted
refuted_within : (ordinals : ℕ → ℕ) (k : ℕ) (ls : List Leaf) → Every (λ l. l.task.problem ≡ k) ls → greatest_ordinal (is_above_refuted ordinals) ls ≡ 0 → refuted_ordinal ls ≤ ordinals k
refuted_within ordinals k [] same none = omega arith
refuted_within ordinals k (l ∷ ls) same none =
    let own : ordinals l.task.problem ≡ ordinals k = ap ordinals same.0 in
    let rest = refuted_within ordinals k ls same.1 (omega arith) in
    step (is_refuted l.verdict) (ordinals l.task.problem) l.task.cell.last (greatest_ordinal (is_above_refuted ordinals) ls) (refuted_ordinal ls) own none rest
  where
    step : (b : Bool) (ordinal last above rest : ℕ) → ordinal ≡ ordinals k → max (cond (b && ltb ordinal (last + 1)) (last + 1) 0) above ≡ 0 → rest ≤ ordinals k → max (cond b (last + 1) 0) rest ≤ ordinals k
    step true ordinal last above rest own none h = grind (arith, nat_tests)
    step false ordinal last above rest own none h = omega arith

-- no leaf that was kept is refuted above what all have seen
none_refuted : (c : Content) (seen ordinals : ℕ → ℕ) (kept : List Leaf) → IsLawful c → AreSeen c seen ordinals → All (IsTold seen) kept → All (Contains (all_leaves c)) kept → greatest_ordinal (is_above_refuted ordinals) kept ≡ 0
none_refuted c seen ordinals kept law high told part =
    greatest_none (is_above_refuted ordinals) kept
    (Every-weaker (λ l. IsTold seen l × Contains (all_leaves c) l) (λ l. is_above_refuted ordinals l ≡ false) kept
    (λ l h. let problem = All-contains (λ l. l.task.problem < c.problems) (all_leaves c) l (All-from_recursion _ (all_leaves c) (known_problems c c.problems law (omega arith))) h.1 in
    step (is_refuted l.verdict) (last_ordinal l) (seen l.task.problem) (ordinals l.task.problem) h.0.told (high l.task.problem problem))
    (Every-both (IsTold seen) (Contains (all_leaves c)) kept (recursion_from_All (IsTold seen) kept told) (recursion_from_All (Contains (all_leaves c)) kept part)))
  where
    step : (b : Bool) (last saw ordinal : ℕ) → (b ≡ true → last ≤ saw) → saw ≤ ordinal → (b && ltb ordinal last) ≡ false
    step true last saw ordinal told high = let k = told refl in grind (arith, nat_tests)
    step false last saw ordinal told high = refl

pub found : (c : Content) (keeps : List Leaf → Type 0) (seen : ℕ → ℕ) (ranks : List (Option ℕ)) → IsLawful c → Owes c keeps seen [] (roots_to c.problems c) [] → length ranks ≡ c.problems → AreSeen c seen (ordinals_of ranks) → AreFacts c (ordinals_of ranks)
    → IsFound c keeps ranks
found c keeps seen ranks law owes counted high facts =
    let ordinals = ordinals_of ranks in
    let kept = owes.kept in
    let weighed : (weight : Leaf → ℕ) → sum_by weight (filter (is_above ordinals) kept) ≡ sum_by weight (filter (is_above ordinals) (all_leaves c)) = λ weight.
    omega (arith, owes.balance ordinals high weight, roots_weigh c ordinals weight c.problems) in
    let test = is_above_refuted ordinals in
    let none : greatest_ordinal test (all_leaves c) ≡ 0 =
    sym (greatest_weighed test (is_above ordinals) kept (all_leaves c) (λ l e. (and_parts (is_refuted l.verdict) (is_above ordinals l) e).1) weighed) ∙ none_refuted c seen ordinals kept law high owes.told owes.part in
    record {
      kept = kept;
      held = owes.held;
      harvest = record {
        counted = counted;
        refuted = λ k known.
            let ls = leaves c (root_task c k) in
            let most = part_of_all test c k c.problems known in
            let low : refuted_ordinal ls ≤ ordinals k =
            refuted_within ordinals k ls (Every-weaker (IsUnder (root_task c k)) (λ l. l.task.problem ≡ k) ls (λ l u. u.same) (leaves_in_root c k law known)) (omega (arith, most, none)) in
            omega (arith, low, facts k known);
        above = weighed;
        others = owes.part;
      };
    }

-- these are the refuted rank, and the open one if it is above that
pub record IsTopOf (refuted open_rank : Option ℕ) (top : TopRanks) : Type 0 where
  pub same : top.refuted ≡ refuted
  pub left_open : ordinal_of top.left_open ≡ above (ordinal_of refuted) (ordinal_of open_rank)

-- the ordinals of each problem, from a harvest of which the greatest open ranks are kept
pub top_ordinals : (c : Content) (ranks opened : List (Option ℕ)) (tops : List TopRanks) → IsLawful c → IsFound c (AreOpenRanks c.problems opened) ranks → length tops ≡ c.problems
    → ((k : ℕ) (d : TopRanks) → k < c.problems → IsTopOf (slice_index_or ranks k None) (slice_index_or opened k None) (slice_index_or tops k d)) → AreAllTopOrdinals c tops
top_ordinals c ranks opened tops law is counted each = record {
  counted = counted;
  each = λ k d known.
      let here = each k d known in
      let ls = leaves c (root_task c k) in
      let ordinal = is.harvest.refuted k known in
      let greatest = is.held.greatest k known in
      record {
        greatest_refuted = ap ordinal_of here.same ∙ ordinal;
        greatest_open =
            here.left_open
            ∙ (ap (above (ordinals_of ranks k)) greatest ∙ (sym (open_above k (ordinals_of ranks k) is.kept) ∙ (harvested_open c k ranks is.kept law known is.harvest ∙ ap (λ (w : ℕ). open_ordinal w ls) ordinal)));
      };
}

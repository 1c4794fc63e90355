-- A crew stays one while it runs, and owes what it owed.
use Rattle.std.proofs.Common.{◌≡◌, ℕ, ◌<◌, false, List, [], All, length, get_or, sum_by, sym, ap, ◌∙◌, subst, arith}
use Rattle.std.proofs.lemmas.List.{length-map}
use Rattle.std.proofs.lemmas.List.Elements.{All-map, All-weaker}
use Rattle.bound_word.specs.declared.words.Bound.{Bound}
use Rattle.cell_split.specs.declared.verdict.Leaf.{Leaf}
use Rattle.cell_split.specs.Judges.{Content}
use Rattle.crossbeam_deque.specs.Handles.{worker_deque}
use Rattle.search_worker.specs.declared.member.Member.{Member}
use Rattle.search_worker.specs.declared.refutes.Refutes.{Refutes}
use Rattle.search_worker.specs.Workers.{HasInHand, IsMemberOf, IsSameMember}
use Rattle.search_crew.specs.Crews.{IsCrew, IsOfCrew, IsPartOfOne, OweRoots, SameOwners, given_to, owners_in}
use Rattle.search_crew.proofs.Places.{All-of_map, map_same, map_twice}
use Rattle.task_deque.specs.declared.handles.Owner.{Owner}
use Rattle.task_deque.specs.declared.handles.Thief.{Thief}
use Rattle.task_deque.specs.Ends.{thief_log}

module _ {C S : Type 0} (b : Bound (Refutes C)) where
  pub member_of : (owners : List (Owner C)) (m : Member C S) → IsOfCrew b owners m → IsMemberOf b m
  member_of owners m is = record {
    worker = is.worker;
    parts = All-map (λ n. 0 < n) (λ (t : Thief C). (thief_log t).parts) m.thieves.items (All-weaker IsPartOfOne (λ t. 0 < (thief_log t).parts) (λ t one. omega arith) m.thieves.items is.single);
  }

  same_owners : (old new : List (Member C S)) → length new ≡ length old → ((i : ℕ) (d : Member C S) → i < length old → IsSameMember b (get_or old i d) (get_or new i d)) → SameOwners (owners_in old) (owners_in new)
  same_owners old new counted same =
      let deque : Owner C → _ = λ o. worker_deque o.worker in
      let own : Member C S → Owner C = λ m. m.worker.owner in
      map_twice deque own new ∙ (map_same (λ (m : Member C S). worker_deque m.worker.owner.worker) old new counted (λ i d lt. (same i d lt).worker.owner) ∙ sym (map_twice deque own old))

  pub crew_after : (old new : List (Member C S)) → length new ≡ length old → ((i : ℕ) (d : Member C S) → i < length old → IsSameMember b (get_or old i d) (get_or new i d)) → IsCrew b old → IsCrew b new
  crew_after old new counted same crew i d inside =
      let lt : i < length old = omega arith in
      let is = crew i d lt in
      let s = same i d lt in
      let own : Member C S → Owner C = λ m. m.worker.owner in
      let parts : Thief C → ℕ = λ t. (thief_log t).parts in
      let more = length-map new own in
      let few = length-map old own in
      let was = All-map (λ n. n ≡ 1) parts (get_or old i d).thieves.items is.single in
      record {
        worker = record { seat = s.worker.seat; part = let p = is.worker.part in let q = s.worker.parts in omega arith };
        parts = let p = is.parts in let q = s.worker.parts in omega (arith, p, q, more, few, counted);
        thieves = s.deques ∙ (is.thieves ∙ sym (same_owners old new counted same));
        single = All-of_map (λ n. n ≡ 1) parts (get_or new i d).thieves.items (subst (All (λ n. n ≡ 1)) (sym s.parts) was);
      }

  pub roots_after : (c : Content) (keeps : S → List Leaf → Type 0) (old new : List (Member C S)) → length new ≡ length old
      → ((i : ℕ) (d : Member C S) → i < length old → (get_or new i d).lacks_memory ≡ false → HasInHand c keeps (get_or old i d) (get_or new i d) []) → All (λ m. m.lacks_memory ≡ false) new
      → OweRoots c keeps old → OweRoots c keeps new
  roots_after c keeps old new counted owes enough roots = record {
    given = roots.given;
    each = λ i d inside. let lt : i < length old = omega arith in owes i d lt (enough i d inside) (roots.given i) (roots.each i d lt);
    all = λ weight. ap (λ n. sum_by weight (given_to roots.given n)) counted ∙ roots.all weight;
  }

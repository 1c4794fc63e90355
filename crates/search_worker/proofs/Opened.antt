-- What is kept of open ranks adds up.
use Rattle.std.proofs.Common.{◌≡◌, ◌≢◌, ℕ, ◌<◌, cond, List, [], ◌∷◌, ◌++◌, length, max, eq-eqb, ne_eqb, Option, sym, refl, subst, arith}
use mathlib.Core.Logic.{dite}
use native.Mathlib.Decide.{ℕ_discrete}
use Rattle.cell_split.specs.declared.verdict.Leaf.{Leaf}
use Rattle.cell_split.specs.Entries.{last_ordinal}
use Rattle.cell_split.specs.Verdicts.{is_open}
use Rattle.plain_search.specs.Harvests.{ordinals_of}
use Rattle.plain_search.proofs.Greatest.{greatest-append}
use Rattle.search_worker.specs.OpenRanks.{AreOpenRanks, is_open_at}

-- one leaf more, whose rank was taken in where it is open
pub opened-leaf : (problems : ℕ) (old new : List (Option ℕ)) (kept : List Leaf) (l : Leaf) (ordinal : ℕ) → length new ≡ length old
    → (l.task.problem < length old → ordinals_of new l.task.problem ≡ max (ordinals_of old l.task.problem) ordinal)
    → ((k : ℕ) → k ≢ l.task.problem → ordinals_of new k ≡ ordinals_of old k) → ordinal ≡ cond (is_open l.verdict) (last_ordinal l) 0
    → AreOpenRanks problems old kept → AreOpenRanks problems new (kept ++ l ∷ [])
opened-leaf problems old new kept l ordinal counted here others is was = record {
  counted = omega (arith, counted, was.counted);
  greatest = λ k known.
      let before = was.greatest k known in
      let both = greatest-append (is_open_at k) kept (l ∷ []) in
      dite (ℕ_discrete l.task.problem k)
      (λ e.
      let own : cond (is_open_at k l) (last_ordinal l) 0 ≡ ordinal = rw (eq-eqb l.task.problem k e) (sym is) in
      let now : ordinals_of new k ≡ max (ordinals_of old k) ordinal = subst (λ (n : ℕ). ordinals_of new n ≡ max (ordinals_of old n) ordinal) e (here (omega (arith, e, known, was.counted))) in
      omega (arith, before, both, own, now))
      (λ ne.
      let none : cond (is_open_at k l) (last_ordinal l) 0 ≡ 0 = rw (ne_eqb l.task.problem k ne) refl in
      omega (arith, before, both, none, others k (λ e. ne (sym e))));
}

-- two stores put together
pub opened-both : (problems : ℕ) (one two new : List (Option ℕ)) (kept others : List Leaf) → length new ≡ length one → ((k : ℕ) → k < length one → k < length two → ordinals_of new k ≡ max (ordinals_of one k) (ordinals_of two k))
    → AreOpenRanks problems one kept → AreOpenRanks problems two others → AreOpenRanks problems new (kept ++ others)
opened-both problems one two new kept others counted both first second = record {
  counted = omega (arith, counted, first.counted);
  greatest = λ k known.
      omega (arith, first.greatest k known, second.greatest k known, greatest-append (is_open_at k) kept others, both k (omega (arith, known, first.counted)) (omega (arith, known, second.counted)));
}

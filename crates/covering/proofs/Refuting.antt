-- The refuted leaf that is named: there is one exactly where a rank is refuted.
use Rattle.std.proofs.Common.{◌≡◌, ℕ, zero, suc, ◌<◌, Bool, true, false, not, eqb, List, find, Option, Some, None, refl, sym, ap, ◌∙◌, pos, neg_ℤ, arith}
use Rattle.std.specs.Prelude.{◌&&◌}
use Rattle.std.specs.Option.{is_none, is_some, option_and_then}
use Rattle.std.specs.Ordering.{int_eq}
use Rattle.std.proofs.lemmas.Bool.Decides.{Decides-int_eq}
use Rattle.std.proofs.lemmas.Int.{ints}
use Rattle.cell_split.specs.declared.verdict.Leaf.{Leaf}
use Rattle.cell_split.specs.declared.verdict.Verdict.{Verdict}
use Rattle.cell_split.specs.declared.verdict.Verdict.TheVariants.{Outside, Proved, Refuted, Split, Open}
use Rattle.cell_split.specs.Entries.{last_ordinal, refuted_ordinal}
use Rattle.cell_split.specs.Verdicts.{is_refuted}
use Rattle.cell_split.proofs.Every.{Every-all}
use Rattle.covering.specs.Refuted.{first_refuted, rank_of, refuted_at}
use Rattle.covering.proofs.Walking.{and_parts, found_has, none_at_word_0}
use Rattle.plain_search.proofs.Greatest.{greatest_found}

-- no leaf has the ordinal 0
pub none_refuted : (ls : List Leaf) → first_refuted 0 ls ≡ None
none_refuted ls = ap (option_and_then refuted_at) (none_at_word_0 is_refuted ls)

-- a refuted leaf has a place that refutes it
has_point : (l : Leaf) → is_refuted l.verdict ≡ true → is_some (refuted_at l) ≡ true
has_point l h = step l.verdict h
  where
    step : (v : Verdict) → is_refuted v ≡ true → is_some (refuted_at (record { task = l.task; verdict = v })) ≡ true
    step (Refuted p) h = refl
    step Outside h = h
    step Proved h = h
    step Split h = h
    step (Open p) h = h

some_refuted : (ordinal : ℕ) (ls : List Leaf) → refuted_ordinal ls ≡ ordinal → 0 < ordinal → is_some (first_refuted ordinal ls) ≡ true
some_refuted ordinal ls e h =
    step (find (λ l. is_refuted l.verdict && eqb (last_ordinal l) ordinal) ls) refl (greatest_found (λ l. is_refuted l.verdict) ordinal ls e h)
  where
    step : (o : Option Leaf) → o ≡ find (λ l. is_refuted l.verdict && eqb (last_ordinal l) ordinal) ls → is_some o ≡ true → is_some (option_and_then refuted_at o) ≡ true
    step None e h = h
    step (Some l) e h =
        let has = found_has (λ l. Unit {0}) (λ l. is_refuted l.verdict && eqb (last_ordinal l) ordinal) ls l (Every-all (λ l. Unit {0}) ls (λ l. tt)) e in
        has_point l (and_parts (is_refuted l.verdict) (eqb (last_ordinal l) ordinal) has.1).0

-- there is one exactly where a rank is refuted
pub refuted_shown : (ordinal : ℕ) (ls : List Leaf) → ordinal ≡ refuted_ordinal ls → is_none (first_refuted ordinal ls) ≡ int_eq (rank_of ordinal) (neg_ℤ (pos 1))
refuted_shown zero ls e = ap is_none (none_refuted ls)
refuted_shown (suc n) ls e =
    let some = ap not (some_refuted (suc n) ls (sym e) (omega arith)) in
    let later : int_eq (rank_of (suc n)) (neg_ℤ (pos 1)) ≡ false = not_true _ (λ h. let same = (Decides-int_eq (rank_of (suc n)) (neg_ℤ (pos 1))).0 h in omega (arith, ints)) in
    some ∙ sym later
  where
    not_true : (b : Bool) → (b ≡ true → ⊥) → b ≡ false
    not_true true h = absurd (h refl)
    not_true false h = refl

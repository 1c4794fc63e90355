-- The offsets of days one after another.
use Rattle.std.proofs.Common.{◌≡◌, ◌∙◌, ap, refl, sym, ℕ, zero, suc, ◌+◌, ◌<◌, ℤ, pos, negsuc, neg_ℤ, ◌+ℤ◌, ◌≤ℤ◌, Bool, true, false, cond, ◌&&◌, List, [], ◌∷◌, ◌++◌, drop, length, Option, Some, None, arith, add-one, subst, to_z, of_z, w32, FitsSigned, ◌≤◌}
use Rattle.std.specs.Prelude.{All, int_le, int_div, option_map, option_and_then}
use Rattle.std.proofs.lemmas.Int.{ints, to_z-of_z}
use Rattle.std.proofs.lemmas.List.Elements.{All-nil, All-cons}
use Rattle.std.proofs.lemmas.Option.{cond_some, option_and_then_some}
use Rattle.ring_survey.proofs.EachLemmas.{each_end, each_more, each_none, with_front}
use Rattle.order_rule.proofs.SignedLemmas.{between}
use Rattle.ring_survey.specs.Each.{each_of}
use Rattle.order_rule.specs.Offsets.{IsOffset, days_from}
use Rattle.year_table.specs.Rules.{in_minutes, noon_seconds}
use Rattle.jiff_tz.specs.PosixReader.{read_whole}
use Rattle.year_table.specs.Zones.{day_offset}
use Rattle.year_table.specs.declared.zone.Zone.{Zone}
use Rattle.year_table.specs.declared.zone.Zone.TheVariants.{Fixed, Rule}

pub days_drop : (day : ℤ) (n i : ℕ) → i < n → drop i (days_from day n) ≡ (day +ℤ pos i) ∷ drop (i + 1) (days_from day n)
days_drop day zero i h = absurd (omega arith)
days_drop day (suc n) zero h = ap (λ d. d ∷ days_from (day +ℤ pos 1) n) (omega (arith, ints))
days_drop day (suc n) (suc i) h =
    let first : (day +ℤ pos 1) +ℤ pos i ≡ day +ℤ pos (suc i) = omega (arith, ints) in
    let rest : drop (i + 1) (days_from (day +ℤ pos 1) n) ≡ drop (suc i + 1) (days_from day (suc n)) = rw (add-one, add-one) refl in
    days_drop (day +ℤ pos 1) n i (omega arith) ∙ (ap (λ d. d ∷ drop (i + 1) (days_from (day +ℤ pos 1) n)) first ∙ ap (λ ds. (day +ℤ pos (suc i)) ∷ ds) rest)

pub days_end : (day : ℤ) (n : ℕ) → drop n (days_from day n) ≡ []
days_end day zero = refl
days_end day (suc n) = days_end (day +ℤ pos 1) n

in_whole_minutes : (seconds : ℤ) → neg_ℤ (pos 43200) ≤ℤ seconds → seconds ≤ℤ pos 50400 → IsOffset (int_div seconds (pos 60))
in_whole_minutes (pos n) low high = record { low = omega (arith, ints); high = omega (arith, ints) }
in_whole_minutes (negsuc n) low high = record { low = omega (arith, ints); high = omega (arith, ints) }

minutes_of : (seconds x : ℤ) (whole : Bool) → cond (whole && (int_le (neg_ℤ (pos 43200)) seconds && int_le seconds (pos 50400))) (Some (int_div seconds (pos 60))) None ≡ Some x → IsOffset x
minutes_of seconds x false e = absurd cc
minutes_of seconds x true e =
    let found = cond_some _ _ _ e in
    let range = between (neg_ℤ (pos 43200)) (pos 50400) seconds found.0 in
    subst IsOffset found.1 (in_whole_minutes seconds range.0 range.1)

minutes_in_range : (seconds x : ℤ) → in_minutes seconds ≡ Some x → IsOffset x
minutes_in_range seconds x e = minutes_of seconds x _ e

fixed_in_range : (minutes x : ℤ) → cond (int_le (neg_ℤ (pos 720)) minutes && int_le minutes (pos 840)) (Some minutes) None ≡ Some x → IsOffset x
fixed_in_range minutes x e =
    let found = cond_some _ _ _ e in
    let range = between (neg_ℤ (pos 720)) (pos 840) minutes found.0 in
    subst IsOffset found.1 (record { low = range.0; high = range.1 })

pub offset_in_range : (zone : Zone) (day x : ℤ) → day_offset zone day ≡ Some x → IsOffset x
offset_in_range (Fixed minutes) day x e = fixed_in_range minutes x e
offset_in_range (Rule text) day x e =
    option_and_then_some (λ rule. in_minutes (noon_seconds rule day)) (read_whole text) x e (λ rule read found. minutes_in_range (noon_seconds rule day) x found)

more_in_range : (zone : Zone) (day : ℤ) (rest : Option (List ℤ)) (xs : List ℤ) → option_and_then (λ y. option_map (λ ys. y ∷ ys) rest) (day_offset zone day) ≡ Some xs → ((ys : List ℤ) → rest ≡ Some ys → All IsOffset ys) → All IsOffset xs
more_in_range zone day None xs e h =
    option_and_then_some (λ y. None) (day_offset zone day) xs e (λ y is found. absurd cc)
more_in_range zone day (Some ys) xs e h =
    option_and_then_some (λ y. Some (y ∷ ys)) (day_offset zone day) xs e (λ y is found.
    let whole : y ∷ ys ≡ xs = cc in
    subst (All IsOffset) whole (All-cons IsOffset y ys (offset_in_range zone day y is) (h ys refl)))

pub offsets_in_range : (zone : Zone) (days xs : List ℤ) → each_of (day_offset zone) days ≡ Some xs → All IsOffset xs
unfolding each_of
offsets_in_range zone [] xs e = (let none : [] ≡ xs = cc in subst (All IsOffset) none (All-nil IsOffset))
offsets_in_range zone (day ∷ days) xs e = more_in_range zone day (each_of (day_offset zone) days) xs e (offsets_in_range zone days)

-- the offsets so far, with those of the days from the i-th on
abbrev pub so_far : Zone → ℤ → ℕ → ℕ → List ℤ → Option (List ℤ)
so_far zone from days i front = with_front front (each_of (day_offset zone) (drop i (days_from from days)))

pub so_far-more : (zone : Zone) (from : ℤ) (days i : ℕ) (front more : List ℤ) (x : ℤ) (all : Option (List ℤ)) → i < days → day_offset zone (from +ℤ pos i) ≡ Some x → more ≡ front ++ to_z w32 (of_z w32 x) ∷ [] → so_far zone from days i front ≡ all → so_far zone from days (i + 1) more ≡ all
so_far-more zone from days i front more x all within today pushed told =
    let range = offset_in_range zone (from +ℤ pos i) x today in
    let fits : FitsSigned w32 x = omega (arith, ints, range.low, range.high) in
    let more_is : more ≡ front ++ x ∷ [] = pushed ∙ ap (λ y. front ++ y ∷ []) (to_z-of_z w32 x fits) in
    ap (so_far zone from days (i + 1)) more_is
    ∙ (sym (each_more (day_offset zone) (from +ℤ pos i) x front (drop i (days_from from days)) (drop (i + 1) (days_from from days)) (days_drop from days i within) today) ∙ told)

pub so_far-none : (zone : Zone) (from : ℤ) (days i : ℕ) (front : List ℤ) (all : Option (List ℤ)) → i < days → day_offset zone (from +ℤ pos i) ≡ None → so_far zone from days i front ≡ all → None ≡ all
so_far-none zone from days i front all within today told =
    sym (each_none (day_offset zone) (from +ℤ pos i) front (drop i (days_from from days)) (drop (i + 1) (days_from from days)) (days_drop from days i within) today) ∙ told

pub so_far-end : (zone : Zone) (from : ℤ) (days i : ℕ) (front : List ℤ) (all : Option (List ℤ)) → i ≤ days → days ≤ i → so_far zone from days i front ≡ all → Some front ≡ all
so_far-end zone from days i front all low high told =
    let past : i ≡ days = omega arith in
    sym (each_end (day_offset zone) front (drop i (days_from from days)) (ap (λ k. drop k (days_from from days)) past ∙ days_end from days)) ∙ told

pub days_length : (day : ℤ) (n : ℕ) → length (days_from day n) ≡ n
days_length day zero = refl
days_length day (suc n) = ap suc (days_length (day +ℤ pos 1) n)

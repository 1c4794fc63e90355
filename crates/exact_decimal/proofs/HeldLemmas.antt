-- A written exponent that is cut off far above a million is held as the whole one is.
use Rattle.std.proofs.Common.{◌≡◌, ℕ, ◌+◌, ◌*◌, ◌≤◌, ◌<◌, ◌^◌, Bool, true, false, ◌⊎◌, inl, inr, sym, ap, ◌∙◌, arith, min, pos, neg_ℤ, ◌-ℤ◌, ◌≤ℤ◌, ℤ}
use Rattle.std.proofs.lemmas.Int.{ints}
use Rattle.exact_decimal.specs.Decimals.{held, signed}

pub held_top : (e : ℤ) → pos 1_000_000 ≤ℤ e → held e ≡ pos 1_000_000
held_top e h = grind (arith, ints)

pub held_bottom : (e : ℤ) → e ≤ℤ neg_ℤ (pos 1_000_000) → held e ≡ neg_ℤ (pos 1_000_000)
held_bottom e h = grind (arith, ints)

pub held_cut : (negative : Bool) (v places : ℕ) → places < 2 ^ 64 → held (signed negative (min v (2 ^ 70)) -ℤ pos places) ≡ held (signed negative v -ℤ pos places)
held_cut negative v places small = by negative (within v)
  where
    within : (v : ℕ) → (v ≤ 2 ^ 70) ⊎ (2 ^ 70 ≤ v)
    within v = grind arith

    by : (negative : Bool) → (v ≤ 2 ^ 70) ⊎ (2 ^ 70 ≤ v) → held (signed negative (min v (2 ^ 70)) -ℤ pos places) ≡ held (signed negative v -ℤ pos places)
    by negative (inl h) = let same : min v (2 ^ 70) ≡ v = omega arith in ap (λ x. held (signed negative x -ℤ pos places)) same
    by true (inr h) =
        let same : min v (2 ^ 70) ≡ 2 ^ 70 = omega arith in
        ap (λ x. held (signed true x -ℤ pos places)) same ∙ (held_bottom (signed true (2 ^ 70) -ℤ pos places) (omega (arith, ints)) ∙ sym (held_bottom (signed true v -ℤ pos places) (omega (arith, ints))))
    by false (inr h) =
        let same : min v (2 ^ 70) ≡ 2 ^ 70 = omega arith in
        ap (λ x. held (signed false x -ℤ pos places)) same ∙ (held_top (signed false (2 ^ 70) -ℤ pos places) (omega (arith, ints)) ∙ sym (held_top (signed false v -ℤ pos places) (omega (arith, ints))))

-- one digit more
pub min_more : (a d : ℕ) → min (10 * min a (2 ^ 70) + d) (2 ^ 70) ≡ min (a * 10 + d) (2 ^ 70)
min_more a d = omega arith

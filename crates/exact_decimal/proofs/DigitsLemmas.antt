-- One digit more.
use Rattle.std.proofs.Common.{◌≡◌, ℕ, ◌==◌, Bool, true, false, cond, List, [], ◌∷◌, ◌++◌, refl}
use Rattle.std.proofs.lemmas.Bool.{eqb-true}
use Rattle.exact_decimal.specs.Digits.{with_digit}

-- a digit that is not 0, or that does not lead, is put at the end
pub with_digit-more : (ds : List ℕ) (d : ℕ) → (d ≡ 0 → ds ≡ [] → ⊥) → with_digit ds d ≡ ds ++ d ∷ []
with_digit-more [] d h = by (d == 0) refl
  where
    by : (c : Bool) → (d == 0) ≡ c → cond c [] (d ∷ []) ≡ d ∷ []
    by true e = absurd (h (eqb-true d 0 e) refl)
    by false e = refl
with_digit-more (x ∷ xs) d h = refl

pub ruleset significant_digit = (with_digit-more)

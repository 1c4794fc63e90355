-- Texts with no sign.
use Rattle.std.proofs.Common.{◌≡◌, ℕ, Bool, true, false, List, refl, [], ◌∷◌, ◌==◌, ap}
use Rattle.std.proofs.lemmas.Bool.{eqb-true}
use Rattle.digit_text.specs.Sign.{is_negative, without_sign}

-- a text that is no `-` and a rest has no sign
pub lacks_sign : (text : List ℕ) → ((rest : List ℕ) → text ≡ 45 ∷ rest → ⊥) → is_negative text ≡ false
lacks_sign [] none = refl
lacks_sign (byte ∷ rest) none = by (byte == 45) refl where
  by : (t : Bool) → (byte == 45) ≡ t → (byte == 45) ≡ false
  by true e = let same : byte ≡ 45 = eqb-true byte 45 e in absurd (none rest (ap (λ b. b ∷ rest) same))
  by false e = e

pub lacks_sign-rest : (text : List ℕ) → ((rest : List ℕ) → text ≡ 45 ∷ rest → ⊥) → text ≡ without_sign text
lacks_sign-rest text none = rw (lacks_sign text none) refl

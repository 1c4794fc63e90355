-- Enclosures that narrow as the depth grows, and sines and cosines that do so over a narrower range as well.
use Rattle.std.proofs.Common.{◌≡◌, ℕ, zero, suc, ◌+◌, ◌-◌, ◌≤◌, arith, subst}
use Rattle.fixed_interval.specs.Enclosure.{Enclosure, IsOrdered, LiesIn}
use Rattle.fixed_interval.proofs.EnclosureLaws.{LiesIn_refl, LiesIn_trans}
use Rattle.trig_series.specs.Sine.{sine, cosine}
use Rattle.trig_series.proofs.SineLaws.{sine_mono, cosine_mono}
use Rattle.trig_series.proofs.SineNesting.{sine_nests, cosine_nests}

-- each enclosure lies in the one a depth before
abbrev pub Narrows : (ℕ → Enclosure) → Type 0
Narrows value = (n : ℕ) → LiesIn (value (suc n)) (value n)

steps_deeper : (value : ℕ → Enclosure) → Narrows value → (n j : ℕ) → LiesIn (value (j + n)) (value n)
steps_deeper value narrows n zero =
    let e : n ≡ 0 + n = omega arith in
    subst (λ (k : ℕ). LiesIn (value k) (value n)) e (LiesIn_refl (value n))
steps_deeper value narrows n (suc j) =
    let e : suc (j + n) ≡ suc j + n = omega arith in
    let next : LiesIn (value (suc (j + n))) (value n) = LiesIn_trans _ _ _ (narrows (j + n)) (steps_deeper value narrows n j) in
    subst (λ (k : ℕ). LiesIn (value k) (value n)) e next

-- and so in the one at any smaller depth
pub lies_deeper : (value : ℕ → Enclosure) → Narrows value → (n n' : ℕ) → n' ≤ n → LiesIn (value n) (value n')
lies_deeper value narrows n n' deeper =
    let e : (n - n') + n' ≡ n = omega arith in
    subst (λ (k : ℕ). LiesIn (value k) (value n')) e (steps_deeper value narrows n' (n - n'))

pub sine_narrows : (n n' : ℕ) (a b : Enclosure) → n' ≤ n → IsOrdered a → LiesIn a b → LiesIn (sine n a) (sine n' b)
sine_narrows n n' a b deeper p h =
    LiesIn_trans _ _ _ (lies_deeper (λ k. sine k a) (λ k. sine_nests k a p) n n' deeper) (sine_mono n' a b p h)

pub cosine_narrows : (n n' : ℕ) (a b : Enclosure) → n' ≤ n → IsOrdered a → LiesIn a b → LiesIn (cosine n a) (cosine n' b)
cosine_narrows n n' a b deeper p h =
    LiesIn_trans _ _ _ (lies_deeper (λ k. cosine k a) (λ k. cosine_nests k a p) n n' deeper) (cosine_mono n' a b p h)

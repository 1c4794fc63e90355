-- One digit or byte more where several are to come.
use Rattle.std.proofs.Common.{◌≡◌, ℕ, zero, suc, ◌-◌, ◌<◌, ap, arith}
use Rattle.json_character.specs.Within.{after_unit, after_low, after_tail, unit_goes_on, low_goes_on, tail_goes_on}

less_one : (n : ℕ) → n ≡ suc n - 1
less_one n = omega arith

pub after_unit-more : (n v : ℕ) → 0 < n → after_unit n v ≡ unit_goes_on (n - 1) v
after_unit-more zero v h = absurd (omega arith)
after_unit-more (suc n) v h = ap (λ k. unit_goes_on k v) (less_one n)

pub after_low-more : (n v u : ℕ) → 0 < n → after_low n v u ≡ low_goes_on (n - 1) v u
after_low-more zero v u h = absurd (omega arith)
after_low-more (suc n) v u h = ap (λ k. low_goes_on k v u) (less_one n)

pub after_tail-more : (least n v : ℕ) → 0 < n → after_tail least n v ≡ tail_goes_on least (n - 1) v
after_tail-more least zero v h = absurd (omega arith)
after_tail-more least (suc n) v h = ap (λ k. tail_goes_on least k v) (less_one n)

pub ruleset more = (after_unit-more, after_low-more, after_tail-more)

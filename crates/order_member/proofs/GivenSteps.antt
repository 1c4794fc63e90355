-- What comes first of two steps that succeed.
use Rattle.std.proofs.Common.{◌≡◌, Result, Ok, Err, refl}
use Rattle.order_member.specs.Gives.{◌>>=◌}
use Rattle.order_member.specs.declared.fault.OrderFault.{OrderFault}

-- the first step gave a value, and the second what both gave
pub record Gave {A B : Type 0} (r : Result A OrderFault) (f : A → Result B OrderFault) (y : B) : Type 0 where
  pub value : A
  pub first : r ≡ Ok value
  pub rest : f value ≡ Ok y

pub gave : {A B : Type 0} (r : Result A OrderFault) (f : A → Result B OrderFault) (y : B) → (r >>= f) ≡ Ok y → Gave r f y
gave (Ok x) f y h = record { value = x; first = refl; rest = h }
gave (Err e) f y h = absurd (apart e y h)
  where
    apart : {B : Type 0} (e : OrderFault) (y : B) → ◌≡◌ {A = Result B OrderFault} (Err e) (Ok y) → ⊥
    apart e y h = cc

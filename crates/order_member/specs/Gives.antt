-- Answers and refusals, and what a call gives of them.
use Rattle.std.specs.Prelude.{◌≡◌, ◌⊎◌, Result, Ok, Err}
use Rattle.order_member.specs.declared.fault.OrderFault.{OrderFault}
use Rattle.order_member.specs.declared.fault.OrderFault.TheVariants.{NoMemory}

-- the first refusal of steps one after another
infixl 10 ◌>>=◌
abbrev pub ◌>>=◌ : {A B : Type 0} → Result A OrderFault → (A → Result B OrderFault) → Result B OrderFault
(Ok x) >>= f = f x
(Err e) >>= f = Err e

-- what a call answers, seen by view, is what reading gives, unless memory ran out
abbrev pub Gives : {X Y : Type 0} → (X → Y) → Result X OrderFault → Result Y OrderFault → Type 0
Gives view (Ok x) read = read ≡ Ok (view x)
Gives view (Err e) read = (e ≡ NoMemory) ⊎ (read ≡ Err e)

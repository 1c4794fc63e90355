-- Answers and faults, and what a call gives of them.
use Rattle.std.specs.Prelude.{◌≡◌, ◌⊎◌, Option, Some, None, Result, Ok, Err}
use Rattle.covering_check.specs.declared.fault.CoverFault.{CoverFault}
use Rattle.covering_check.specs.declared.fault.CoverFault.TheVariants.{NoMemory, NotLine}

-- the first fault of steps one after another
infixl 10 ◌>>=◌
abbrev pub ◌>>=◌ : {A B : Type 0} → Result A CoverFault → (A → Result B CoverFault) → Result B CoverFault
(Ok x) >>= f = f x
(Err e) >>= f = Err e

-- what a line must have
abbrev pub or_no_line : {A : Type 0} → Option A → Result A CoverFault
or_no_line None = Err NotLine
or_no_line (Some x) = Ok x

-- what a call answers, seen by view, is what reading gives, unless memory ran out
abbrev pub Gives : {X Y : Type 0} → (X → Y) → Result X CoverFault → Result Y CoverFault → Type 0
Gives view (Ok x) read = read ≡ Ok (view x)
Gives view (Err e) read = (e ≡ NoMemory) ⊎ (read ≡ Err e)

-- One byte of the machine, with the limits.
use Rattle.std.specs.Prelude.{◌≡◌, ℕ, ◌+◌, ◌≤◌, true, false, Some, None, length, nat_lt, nat_le}
use Rattle.json_value.specs.Machine.{State, first_item, first_name, numeral, characters, step}
use Rattle.exact_json.specs.Runs.{is_within}
use Rattle.json_character.specs.Within.{is_begun}
use Rattle.json_value.specs.declared.machine.Machine.{Machine}
use Rattle.json_value.specs.declared.machine.Next.{Next}
use Rattle.json_value.specs.declared.machine.Next.TheVariants.{Number}
use Rattle.exact_json.specs.declared.fault.JsonFault.{JsonFault}
use Rattle.exact_json.specs.declared.fault.JsonFault.TheVariants.{NotJson, TooDeep, LongNumber, NoMemory}

-- some character goes on from within a text, and a number's places are among its bytes
abbrev pub IsSound : State → Type 0
IsSound (characters role s w frames) = is_begun w ≡ true
IsSound (numeral phase n frames) = n.places ≤ n.length
IsSound _ = Unit {0}

-- a number that is being read has at most k bytes
abbrev pub IsShort : Machine → Next → ℕ → Type 0
IsShort m (Number phase) k = m.numeral.length ≤ k
IsShort m _ k = Unit {0}

abbrev pub Goes : State → ℕ → State → Type 0
Goes m b n = (step m b ≡ Some n) × (is_within n ≡ true)

-- a state at whose last byte, at this place, the fault comes
abbrev pub Passes : State → ℕ → JsonFault → Type 0
Passes (first_item frames) place (TooDeep p) = (nat_lt (length frames) 64 ≡ false) × (p ≡ place)
Passes (first_name frames) place (TooDeep p) = (nat_lt (length frames) 64 ≡ false) × (p ≡ place)
Passes (numeral phase n frames) place (LongNumber p) = (nat_le n.length 64 ≡ false) × (p + n.length ≡ place + 1)
Passes _ place _ = ⊥

abbrev pub Stops : State → ℕ → ℕ → JsonFault → Type 0
Stops m b place (NotJson p) = (step m b ≡ None) × (p ≡ place)
Stops m b place NoMemory = Unit {0}
Stops m b place (TooDeep p) = (n : State) × (step m b ≡ Some n) × Passes n place (TooDeep p)
Stops m b place (LongNumber p) = (n : State) × (step m b ≡ Some n) × Passes n place (LongNumber p)

-- What bytes are as JSON: a text within the limits with its tree, or the first fault and its place. This is the
-- answer of `read` apart from want of memory; all bytes have one, and one alone.
use Rattle.std.specs.Prelude.{◌≡◌, ℕ, List, Result, Ok, Err}
use Rattle.exact_json.specs.Grammar.{IsJsonWithin}
use Rattle.exact_json.specs.Read.{IsFaultOf}
use Rattle.json_value.specs.Tree.{Tree}
use Rattle.exact_json.specs.declared.fault.JsonFault.{JsonFault}
use Rattle.exact_json.specs.declared.fault.JsonFault.TheVariants.{NoMemory}

abbrev pub Reading : List ℕ → Result Tree JsonFault → Type 0
Reading bytes (Ok t) = IsJsonWithin t bytes
Reading bytes (Err NoMemory) = ⊥
Reading bytes (Err fault) = IsFaultOf bytes fault

abbrev pub ReadingsAgree : Type 0
ReadingsAgree = (bytes : List ℕ) (x y : Result Tree JsonFault) → Reading bytes x → Reading bytes y → x ≡ y

abbrev pub EveryTextIsRead : Type 0
EveryTextIsRead = (bytes : List ℕ) → (x : Result Tree JsonFault) × Reading bytes x

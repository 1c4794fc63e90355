-- The value of a line's text.
use Rattle.std.proofs.Common.{◌≡◌, ℕ, Bool, true, false, cond, List, Option, Some, None, Ok, Err, refl, ap, IsUtf8}
use Rattle.std.specs.Str.{is_utf8}
use Rattle.std.proofs.lemmas.Str.{IsUtf8-from_is_utf8, is_utf8-from_IsUtf8}
use Rattle.serde_json.specs.Data.{Data}
use Rattle.serde_json.specs.Read.{read}
use Rattle.covering_check.specs.declared.fault.CoverFault.TheVariants.{NotLine}
use Rattle.covering_check.specs.Checks.{value_in}
use Rattle.covering_check.specs.Gives.{or_no_line}

pub value_is : (line : List ℕ) (d : Data) → IsUtf8 line → read line ≡ Some d → value_in line ≡ Ok d
unfolding value_in
value_is line d utf8 is = rw (is_utf8-from_IsUtf8 line utf8) (ap (λ (o : Option Data). or_no_line o) is)

pub no_value : (line : List ℕ) → (IsUtf8 line → read line ≡ None) → value_in line ≡ Err NotLine
unfolding value_in
no_value line none = by (is_utf8 line) refl
  where
    by : (t : Bool) → is_utf8 line ≡ t → cond t (or_no_line (read line)) (or_no_line None) ≡ Err NotLine
    by true e = ap (λ (o : Option Data). or_no_line o) (none (IsUtf8-from_is_utf8 line e))
    by false e = refl

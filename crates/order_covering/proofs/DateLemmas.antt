-- The date of a day is a text.
use Rattle.std.proofs.Common.{◌≡◌, ℕ, true, List, [], ◌∷◌, Ok, Err, Result, refl, arith, IsUtf8}
use Rattle.std.specs.Prelude.{int_le, nat_lt, IsOk}
use Rattle.std.specs.List.{list_all}
use Rattle.std.proofs.lemmas.Bool.Decides.{nat_tests}
use Rattle.json.proofs.Printed.Utf8.{IsUtf8-are_ascii, are_ascii}
use Rattle.order_rule.specs.Offsets.{first_day, last_day}
use Rattle.order_text.proofs.DateTexts.{day_text_plain}
use Rattle.order_table.specs.declared.day.Day.{Day}
use Rattle.plane_edges.proofs.Truth.{and_left, and_right, and_true, le_true}
use Rattle.year_table.specs.Dates.{date_text}
use Rattle.year_table.specs.Rules.{is_rule_byte}

rule_small : (b : ℕ) → is_rule_byte b ≡ true → nat_lt b 128 ≡ true
rule_small b e = grind (arith, nat_tests)

plain_ascii : (bs : List ℕ) → list_all is_rule_byte bs ≡ true → are_ascii bs ≡ true
plain_ascii [] h = refl
plain_ascii (b ∷ bs) h =
    and_true (nat_lt b 128) (are_ascii bs) (rule_small b (and_left (is_rule_byte b) (list_all is_rule_byte bs) h))
    (plain_ascii bs (and_right (is_rule_byte b) (list_all is_rule_byte bs) h))

pub date_utf8 : (day : Day) → IsUtf8 (date_text day.number)
date_utf8 day =
    IsUtf8-are_ascii (date_text day.number) (plain_ascii (date_text day.number) (day_text_plain day.number
    (and_true (int_le first_day day.number) (int_le day.number last_day) (le_true first_day day.number day.not_early)
    (le_true day.number last_day day.not_late))))

-- what is well isn't refused
pub failed_none : {X E : Type 0} (r : Result X E) (e : E) → r ≡ Err e → IsOk r → ⊥
failed_none (Ok x) e is ok = absurd cc
failed_none (Err f) e is ok = cc

-- The rows of sunrise and sunset, and the nights of days.
use Rattle.std.proofs.Common.{◌≡◌, ◌∙◌, ℕ, zero, suc, List, [], ◌∷◌, length, map, get_or, refl, sym, ap, ap₂, subst, arith}
use Rattle.std.specs.Prelude.{ℤ, pos}
use Rattle.std.proofs.lemmas.List.{get_or-map, length-map}
use Rattle.std.proofs.lemmas.List.Elements.{All-from_recursion}
use Rattle.method_table.specs.declared.method.Asr.TheVariants.{Standard}
use Rattle.method_table.specs.declared.method.Method.TheVariants.{Mwl}
use Rattle.method_table.specs.declared.problem.Kind.TheVariants.{Above, Below}
use Rattle.method_table.specs.declared.problem.Problem.{Problem}
use Rattle.method_table.specs.Kind.{IsKind}
use Rattle.method_table.specs.Row.{Row, row_of}
use Rattle.cell_judge.specs.DayLaws.{IsDay}
use Rattle.cell_judge.specs.Limits.{AreInLimits, IsInLimits}
use Rattle.cell_judge.specs.Skies.{row_at}
use Rattle.cell_judge.proofs.DayLaws.{days_have_rows}
use Rattle.night_portion.specs.Laws.{DaysHaveNights, SunHasRows}
use Rattle.night_portion.specs.Sun.{night_rows, repeated}

-- two problems, one after the other, seven in all
abbrev pub seven_of : Problem → Problem → List Problem
seven_of p q = p ∷ q ∷ p ∷ q ∷ p ∷ q ∷ p ∷ []

-- the sun above angles of which it can be below
turned : (low high : ℤ) → IsKind (Below low high) → IsKind (Above low high)
turned low high is = record {
  above = λ l h e. is.below l h (let a : low ≡ l = cc in let b : high ≡ h = cc in cc);
  below = λ l h e. absurd cc;
  shadow = λ factor e. absurd cc;
}

pub sun_has_rows : SunHasRows
sun_has_rows day offset noon height is zero known =
    let row = days_have_rows Mwl Standard day offset noon height (pos 90) is 1 (omega arith) in
    record {
      kind = turned _ _ row.kind;
      framed = row.framed;
      limits = record { not_before = row.limits.not_before; not_after = row.limits.not_after };
    }
sun_has_rows day offset noon height is (suc zero) known = days_have_rows Mwl Standard day offset noon height (pos 90) is 4 (omega arith)
sun_has_rows day offset noon height is (suc (suc k)) known = absurd (omega arith)

pub sun_in_limits : (day offset noon : ℤ) (height : ℕ) → IsDay day offset noon height → (problems : List Problem) → map row_of problems ≡ night_rows day offset noon height →
    AreInLimits problems
sun_in_limits day offset noon height is problems same k d inside =
    let two : length problems ≡ 2 = sym (length-map problems row_of) ∙ ap length same in
    let P : List Row → Type 0 = λ list. IsInLimits (row_at list k) in
    subst IsInLimits (get_or-map row_of problems k d _ inside) (subst P (sym same) (sun_has_rows day offset noon height is k (omega (arith, two, inside))).limits)

-- the problems of sunrise and sunset, repeated
pub repeated_are : (sun : List Problem) (p q : Problem) → length sun ≡ 2 →
    map row_of (seven_of (get_or sun 0 p) (get_or sun 1 q)) ≡ repeated (map row_of sun)
repeated_are sun p q two =
    ap₂ (λ (r s : Row). r ∷ s ∷ r ∷ s ∷ r ∷ s ∷ r ∷ []) (sym (get_or-map row_of sun 0 p _ (omega (arith, two)))) (sym (get_or-map row_of sun 1 q _ (omega (arith, two))))

pub repeated_in_limits : (p q : Problem) → IsInLimits (row_of p) → IsInLimits (row_of q) → AreInLimits (seven_of p q)
repeated_in_limits p q a b = All-from_recursion (λ x. IsInLimits (row_of x)) (seven_of p q) (a, (b, (a, (b, (a, (b, (a, tt)))))))

pub days_have_nights : DaysHaveNights
days_have_nights m a day offset noon height interval is entries sun_entries = record {
  fajr = record { is_row = days_have_rows m a day offset noon height interval is 0 (omega arith); starts = refl };
  isha = record { is_row = days_have_rows m a day offset noon height interval is 6 (omega arith); starts = refl };
  rise = record { is_row = sun_has_rows day offset noon height is 0 (omega arith); starts = refl };
  set = record { is_row = sun_has_rows day offset noon height is 1 (omega arith); starts = refl };
}

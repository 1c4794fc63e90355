-- The rows of sunrise and sunset are two of a day's rows, the first turned to a start.
use Rattle.std.proofs.Common.{◌≡◌, ◌∙◌, ℕ, ◌<◌, List, [], ◌∷◌, length, map, get_or, ap, ap₂, sym, arith}
use Rattle.std.specs.Prelude.{ℤ}
use Rattle.std.proofs.lemmas.List.{get_or-map, length-map}
use Rattle.method_table.specs.declared.method.Asr.TheVariants.{Standard}
use Rattle.method_table.specs.declared.method.Method.TheVariants.{Mwl}
use Rattle.method_table.specs.declared.problem.Problem.{Problem}
use Rattle.method_table.specs.Horizon.{horizon}
use Rattle.method_table.specs.Row.{Row, above, row_of}
use Rattle.method_table.specs.Table.{rows}
use Rattle.night_portion.specs.Sun.{night_rows, start_of}

-- the row of a problem in a list
row_in : (problems : List Problem) (table : List Row) (k : ℕ) (p : Problem) (r : Row) → k < length problems → map row_of problems ≡ table →
    row_of (get_or problems k p) ≡ get_or table k r
row_in problems table k p r inside same = sym (get_or-map row_of problems k p r inside) ∙ ap (λ l. get_or l k r) same

pub night_rows_are : (problems : List Problem) (day offset noon interval : ℤ) (height : ℕ) (p q : Problem) (rise : Row) (range : ℤ × ℤ) →
    map row_of problems ≡ rows Mwl Standard day offset noon height interval →
    rise ≡ start_of (row_of (get_or problems 1 p)) (above range) → range ≡ horizon height →
    (rise ∷ row_of (get_or problems 4 q) ∷ []) ≡ night_rows day offset noon height
night_rows_are problems day offset noon interval height p q rise range same is_rise is_range =
    let table = rows Mwl Standard day offset noon height interval in
    let seven : length problems ≡ 7 = sym (length-map problems row_of) ∙ ap length same in
    let before = row_in problems table 1 p (row_of p) (omega (arith, seven)) same in
    let after = row_in problems table 4 q (row_of q) (omega (arith, seven)) same in
    ap₂ (λ a b. a ∷ b ∷ []) (is_rise ∙ ap₂ (λ r k. start_of r (above k)) before is_range) after

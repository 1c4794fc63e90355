-- Rows with equal parts are equal.
use Rattle.std.proofs.Common.{◌≡◌, ◌∙◌, ap, ℕ, ℤ, Option, [], ◌∷◌}
use Rattle.method_table.specs.declared.problem.Column.{Column}
use Rattle.method_table.specs.declared.problem.Kind.{Kind}
use Rattle.method_table.specs.declared.problem.Side.{Side}
use Rattle.method_table.specs.Row.{Row, row}
use Rattle.method_table.specs.Table.{exactly_or}

pub row_is : (r : Row) (column : Column) (side : Side) (first first' base base' : ℤ) (kind kind' : Kind) (shift shift' : ℤ) → r ≡ row column side first base kind shift → first ≡ first' → base ≡ base' → kind ≡ kind' → shift ≡ shift' → r ≡ row column side first' base' kind' shift'
row_is r column side first first' base base' kind kind' shift shift' e p q s t = cc

-- seven rows
pub rows_are : (a a' b b' c c' d d' e e' f f' g g' : Row) → a ≡ a' → b ≡ b' → c ≡ c' → d ≡ d' → e ≡ e' → f ≡ f' → g ≡ g' → (a ∷ b ∷ c ∷ d ∷ e ∷ f ∷ g ∷ []) ≡ (a' ∷ b' ∷ c' ∷ d' ∷ e' ∷ f' ∷ g' ∷ [])
rows_are a a' b b' c c' d d' e e' f f' g g' p q r s t u v = cc

pub exactly_or_is : (r : ℤ × ℤ) (o o' : Option ℕ) (other other' : ℤ × ℤ) → r ≡ exactly_or o other → o ≡ o' → other ≡ other' → r ≡ exactly_or o' other'
exactly_or_is r o o' other other' e p q =
    e ∙ (ap (λ (x : Option ℕ). exactly_or x other) p ∙ ap (λ (x : ℤ × ℤ). exactly_or o' x) q)

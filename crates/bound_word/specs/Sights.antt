-- What a seat has seen of the words of a bound. A word is 0 for nothing, else one more than a rank.
use Rattle.std.specs.Prelude.{ℕ, List, [], ◌∷◌, ◌++◌, max, Option, if◌then◌else◌, ◌==◌}
use Rattle.bound_word.specs.declared.rule.Sight.{Sight}

-- the greatest value of word k among these, 0 where there is none
abbrev pub greatest : List (ℕ × ℕ) → ℕ → ℕ
greatest [] k = 0
greatest (x ∷ xs) k = max (if x.0 == k then x.1 else 0) (greatest xs k)

abbrev pub sight : {F : Type 0} → Option F → List (ℕ × ℕ) → Sight F
sight content saw = record { content = content; saw = saw }

-- the view once word k was seen to be n
abbrev pub with_seen : {F : Type 0} → Sight F → ℕ → ℕ → Sight F
with_seen v k n = sight v.content ((k, n) ∷ v.saw)

-- the view of a seat that another was joined to
abbrev pub joined : {F : Type 0} → Sight F → Sight F → Sight F
joined v w = sight v.content (v.saw ++ w.saw)

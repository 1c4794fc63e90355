-- The words of the rules for nights.
use Rattle.std.specs.Prelude.{◌≡◌, ℕ, List, [], ◌∷◌, Option, Some, find, codes, bytes_eq}
use Rattle.night_rule.specs.declared.rule.NightRule.{NightRule}
use Rattle.night_rule.specs.declared.rule.NightRule.TheVariants.{Half, Seventh, ByAngle}

abbrev pub night_word : NightRule → List ℕ
night_word Half = codes "half"
night_word Seventh = codes "seventh"
night_word ByAngle = codes "angle"

abbrev pub night_rules : List NightRule
night_rules = Half ∷ Seventh ∷ ByAngle ∷ []

-- the rule that has this word, if one has
abbrev pub night_rule_of : List ℕ → Option NightRule
night_rule_of word = find (λ rule. bytes_eq (night_word rule) word) night_rules

-- the word of a rule is read as that rule
abbrev pub NightWordsAreRead : Type 0
NightWordsAreRead = (rule : NightRule) → night_rule_of (night_word rule) ≡ Some rule

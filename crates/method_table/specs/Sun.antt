-- The words of the suns.
use Rattle.std.specs.Prelude.{◌≡◌, ℕ, List, [], ◌∷◌, Option, Some, find, codes, bytes_eq}
use Rattle.method_table.specs.declared.sun.SunChoice.{SunChoice}
use Rattle.method_table.specs.declared.sun.SunChoice.TheVariants.{Usno, Meeus}

abbrev pub sun_word : SunChoice → List ℕ
sun_word Usno = codes "usno"
sun_word Meeus = codes "meeus"

abbrev pub suns : List SunChoice
suns = Usno ∷ Meeus ∷ []

-- the sun that has this word, if one has
abbrev pub sun_of : List ℕ → Option SunChoice
sun_of word = find (λ sun. bytes_eq (sun_word sun) word) suns

-- the word of a sun is read as that sun
abbrev pub SunWordsAreRead : Type 0
SunWordsAreRead = (sun : SunChoice) → sun_of (sun_word sun) ≡ Some sun

-- The methods after the manual of PrayTimes.org, and their words. The numbers are this project's own.
use Rattle.std.specs.Prelude.{◌≡◌, ℕ, List, [], ◌∷◌, Option, Some, find, codes, bytes_eq}
use Rattle.method_table.specs.declared.method.Method.{Method}
use Rattle.method_table.specs.declared.method.Method.TheVariants.{Mwl, Isna, Egypt, Karachi, Makkah, Tehran, Jafari}
use Rattle.method_table.specs.declared.method.Asr.{Asr}
use Rattle.method_table.specs.declared.method.Asr.TheVariants.{Standard, Hanafi}

abbrev pub method_word : Method → List ℕ
method_word Mwl = codes "mwl"
method_word Isna = codes "isna"
method_word Egypt = codes "egypt"
method_word Karachi = codes "karachi"
method_word Makkah = codes "makkah"
method_word Tehran = codes "tehran"
method_word Jafari = codes "jafari"

abbrev pub methods : List Method
methods = Mwl ∷ Isna ∷ Egypt ∷ Karachi ∷ Makkah ∷ Tehran ∷ Jafari ∷ []

-- the method that has this word, if one has
abbrev pub method_of : List ℕ → Option Method
method_of word = find (λ m. bytes_eq (method_word m) word) methods

-- the word of a method is read as that method
abbrev pub MethodWordsAreRead : Type 0
MethodWordsAreRead = (m : Method) → method_of (method_word m) ≡ Some m

abbrev pub asr_word : Asr → List ℕ
asr_word Standard = codes "standard"
asr_word Hanafi = codes "hanafi"

-- What the words of the methods and of the suns say.
use Rattle.std.proofs.Common.{◌≡◌, Some, refl}
use Rattle.method_table.specs.declared.method.Method.{Method}
use Rattle.method_table.specs.declared.method.Method.TheVariants.{Mwl, Isna, Egypt, Karachi, Makkah, Tehran, Jafari}
use Rattle.method_table.specs.Method.{method_of, method_word}
use Rattle.method_table.specs.declared.sun.SunChoice.TheVariants.{Usno, Meeus}
use Rattle.method_table.specs.Sun.{SunWordsAreRead}

-- the word of a method is read as that method
pub method_of-method_word : (m : Method) → method_of (method_word m) ≡ Some m
method_of-method_word Mwl = refl
method_of-method_word Isna = refl
method_of-method_word Egypt = refl
method_of-method_word Karachi = refl
method_of-method_word Makkah = refl
method_of-method_word Tehran = refl
method_of-method_word Jafari = refl

pub sun_of-sun_word : SunWordsAreRead
sun_of-sun_word Usno = refl
sun_of-sun_word Meeus = refl

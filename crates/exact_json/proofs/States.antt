-- Where within a number or a character the bytes so far end, by the names that the machine's definitions have for it.
pub use Rattle.exact_decimal.specs.declared.numeral.Numeral.{Numeral}
pub use Rattle.exact_decimal.specs.declared.numeral.Phase.{Phase}
pub use Rattle.exact_decimal.specs.declared.numeral.Phase.TheVariants.{AfterMinus as after_minus, AfterZero as after_zero, InWhole as in_whole, AfterPoint as after_point, InFraction as in_fraction, AfterLetter as after_letter, AfterSign as after_sign, InExponent as in_exponent}
pub use Rattle.json_character.specs.declared.within.Within.{Within}
pub use Rattle.json_character.specs.declared.within.Within.TheVariants.{Plain as plain, Escape as escape, Unit as unit, High as high, HighEscape as high_escape, Low as low, Tail as tail}
pub use Rattle.json_character.specs.declared.within.Outcome.{Outcome}
pub use Rattle.json_character.specs.declared.within.Outcome.TheVariants.{GoesOn as goes_on, Ends as ends, Refused as refused}

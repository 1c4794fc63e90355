-- What the words of the rules say.
use Rattle.std.proofs.Common.{refl}
use Rattle.night_rule.specs.declared.rule.NightRule.TheVariants.{Half, Seventh, ByAngle}
use Rattle.night_rule.specs.Rule.{NightWordsAreRead}

pub words_are_read : NightWordsAreRead
words_are_read Half = refl
words_are_read Seventh = refl
words_are_read ByAngle = refl

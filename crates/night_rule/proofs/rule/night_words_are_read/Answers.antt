use Rattle.night_rule.proofs.WordLemmas.{words_are_read}
use Rattle.night_rule.proofs.rule.night_words_are_read.Goals as goal

pub returns : goal.returns
returns c = words_are_read

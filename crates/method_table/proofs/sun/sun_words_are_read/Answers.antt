use Rattle.method_table.proofs.WordLemmas.{sun_of-sun_word}
use Rattle.method_table.proofs.sun.sun_words_are_read.Goals as goal

pub returns : goal.returns
returns c = sun_of-sun_word

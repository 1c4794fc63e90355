use Rattle.method_table.proofs.WordLemmas.{method_of-method_word}
use Rattle.method_table.proofs.method.method_words_are_read.Goals as goal

pub returns : goal.returns
returns c = method_of-method_word

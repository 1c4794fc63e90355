use Rattle.std.proofs.Common.{◌∙◌, ap, map, string_bytes}
use Rattle.timetable.proofs.ExampleLemmas.{no_words_are_wrong}
use Rattle.timetable.proofs.examples.no_words.Goals as goal

pub returns : goal.returns
returns c = (c.run_in_memory.ensures.wrong_words (no_words_are_wrong _ (ap (map string_bytes) (c.deref.ensures.value ∙ c.new-words.ensures.items)))).answered

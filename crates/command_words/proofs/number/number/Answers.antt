use Rattle.std.proofs.Common.{rules, sym, ◌∙◌}
use Rattle.command_words.proofs.NumberLemmas.{otherwise, spelled, unparsed}
use Rattle.command_words.proofs.number.number.Goals as goal
use Rattle.command_words.proofs.number.number.Goals.{then-eq, else-eq}

-- src/number.rt:14:9
pub returns-in_default : goal.returns-in_default
returns-in_default c = sym (unparsed c.args.word.now c.parse.result c.in_default.field-0 c.parse.ensures.value.0 c.in_default.is)

-- src/number.rt:9:1
pub returns : goal.returns
returns c = elim c.if-eq.branch [
  | then-eq w ↦ w.result-is ∙ sym (spelled c.args.word.now c.in-Ok.number (search rules) (search rules))
  | else-eq w ↦ w.result-is ∙ sym (otherwise c.args.word.now c.parse.result c.in-Ok.number c.parse.ensures.value.0 c.in-Ok.is (search rules))
]

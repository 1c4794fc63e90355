use Rattle.std.proofs.Common.{map, rules, string_bytes}
use Rattle.command_words.proofs.OptionLemmas.{demo_read}
use Rattle.command_words.proofs.words.demo.Goals as goal

pub returns-clause-value : goal.returns-clause-value
returns-clause-value c =
    demo_read _ (map string_bytes c.args.rest.now) _ c.in-Some.matches _ _ _ c.in_ok-demo_options.ensures c.in_ok-matches.ensures c.in-Some.is
    (search rules) (search rules) c.demo_of.ensures.value

use Rattle.std.proofs.Common.{map, rules, string_bytes}
use Rattle.command_words.proofs.OptionLemmas.{cover_read}
use Rattle.command_words.proofs.words.cover.Goals as goal

pub returns-clause-value : goal.returns-clause-value
returns-clause-value c =
    cover_read _ (map string_bytes c.args.rest.now) _ c.in-Some.matches _ _ _ c.in_ok-cover_options.ensures c.in_ok-matches.ensures c.in-Some.is
    (search rules) (search rules) c.cover_of.ensures.value

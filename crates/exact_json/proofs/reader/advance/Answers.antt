use Rattle.std.proofs.Common.{sym, ap, ◌∙◌, option_map}
use Rattle.json_value.specs.Seen.{seen_with}
use Rattle.exact_json.proofs.ReaderRuns.{short_more}
use Rattle.exact_json.proofs.reader.advance.Goals as goal

pub passed_limit-requires-clause-short : goal.passed_limit-requires-clause-short
passed_limit-requires-clause-short c =
    short_more c.args.machine.now c.step.new.machine c.args.next c.in-Some.next c.args.place c.args.b c.requires.formed c.requires.short
    (ap (option_map (seen_with c.step.new.machine)) (sym c.in-Some.is) ∙ c.in_ok-next.ensures)

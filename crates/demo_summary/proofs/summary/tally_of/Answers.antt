use Rattle.std.proofs.Common.{◌∙◌, FitsSigned, List, ap, rules, w32}
use Rattle.std.proofs.lemmas.Int.{to_z-of_z}
use Rattle.std.specs.Prelude.{zip}
use Rattle.order_table.specs.declared.day.Day.{Day}
use Rattle.demo_summary.specs.Summary.{total}
use Rattle.demo_summary.proofs.TallyLemmas.{of_day, tally_is}
use Rattle.demo_summary.proofs.summary.tally_of.Goals as goal

pub returns : goal.returns
returns c =
    let ready = c.args.ready.now in
    let entries = c.args.entries.now in
    let fits : FitsSigned w32 c.sum_of.result = search rules in
    tally_is ready.sky.sun ready.sky.district ready.sky.root ready.days.items entries _ c.requires.entries
    c.count_of.ensures c.count_of-2.ensures c.count_of-3.ensures c.count_of-4.ensures
    (to_z-of_z w32 c.sum_of.result fits ∙ c.sum_of.ensures ∙ ap (λ (days : List Day). total of_day (zip days entries)) c.deref.ensures.value)

use Rattle.std.proofs.Common.{◌∙◌, ◌+◌, ◌-◌, ◌++◌, ℕ, ◌≤◌, List, ap, arith, drop, map, sym, take}
use Rattle.std.proofs.lemmas.List.{length-drop, length-take-le}
use Rattle.source_sink.proofs.Transfers.{adds_more}
use Rattle.order_table.specs.declared.day.Day.{Day}
use Rattle.outcome.proofs.Streams.{stopped}
use Rattle.set_table.specs.Made.{searched}
use Rattle.set_table.specs.Table.{set_days_text, set_days_undecided}
use Rattle.set_table.proofs.TableLemmas.{days_around, days_between, text_of_both, undecided_of_both}
use Rattle.set_table.proofs.table.write_all_days.Goals as goal

pub returns-in-Err-clause-writes : goal.returns-in-Err-clause-writes
returns-in-Err-clause-writes g c =
    let skies = c.args.skies.now in
    let days = c.args.days.now in
    let begun = c.loop-begun.begun in
    let end = c.min-end.result in
    let before = take begun days in
    let here = take (end - begun) (drop begun days) in
    let text : List Day → List ℕ = λ ds. set_days_text (map (searched skies) ds) in
    stopped {X = ℕ} (text before) (text here) (text (drop end days)) _ c.in-Err.stop _ _ _ _ _ _
    (ap text (days_around days begun end (omega (arith, c.min-end.ensures, c.loop-begun-test.true)))
    ∙ text_of_both skies before (here ++ drop end days) ∙ ap (λ t. text before ++ t) (text_of_both skies here (drop end days)))
    c.loop-begun.invariant.written c.loop-begun.invariant.later c.in-Err.ensures.writes

pub loop-begun-preserved : goal.loop-begun-preserved
loop-begun-preserved g c =
    let skies = c.args.skies.now in
    let days = c.args.days.now in
    let begun = c.loop-begun.begun in
    let end = c.min-end.result in
    let before = take begun days in
    let here = take (end - begun) (drop begun days) in
    let text : List Day → List ℕ = λ ds. set_days_text (map (searched skies) ds) in
    let count : List Day → ℕ = λ ds. set_days_undecided (map (searched skies) ds) in
    let ordered : begun ≤ end = omega (arith, c.min-end.ensures, c.loop-begun-test.true) in
    let sum = days_between days begun end ordered in
    let found = c.in-Ok.ensures in
    record {
      count =
          ap (λ n. n + c.in-Ok.count) c.loop-begun.invariant.count
          ∙ ap (λ n. count before + n) found.count
          ∙ sym (ap count sum ∙ undecided_of_both skies before here);
      few = omega (arith, found.few, c.loop-begun.invariant.few, length-take-le (end - begun) (drop begun days) (omega (arith, length-drop begun days, c.min-end.ensures)), ordered);
      within = omega (arith, c.min-end.ensures);
      later = omega (arith, found.writes.later, c.loop-begun.invariant.later);
      written = adds_more _ _ _ (text before) (text here) _ c.loop-begun.invariant.written found.writes.whole
          (ap text sum ∙ text_of_both skies before here);
    }

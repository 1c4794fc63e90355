use Rattle.std.proofs.Common.{All, ◌∙◌, ◌+◌, ℕ, ap, arith, drop, map, refl, sym, take}
use Rattle.std.proofs.lemmas.List.Elements.{All-drop}
use Rattle.source_sink.proofs.Transfers.{adds_more}
use Rattle.outcome.proofs.Streams.{stopped}
use Rattle.set_search.specs.Searches.{IsFound, entries_on_days}
use Rattle.set_table.specs.Made.{searched}
use Rattle.set_table.specs.Table.{set_day_text, set_day_undecided, set_days_text, set_days_undecided}
use Rattle.set_table.proofs.TableLemmas.{days_left, days_rest, days_step, found_after, found_here, searched_with, undecided_step}
use Rattle.set_table.proofs.table.write_days.Goals as goal

pub returns-in-Err-clause-writes : goal.returns-in-Err-clause-writes
returns-in-Err-clause-writes g c =
    let skies = c.args.skies.now in
    let days = c.args.days.now in
    let i = c.loop-day.day-index in
    let day = c.day-item.result in
    let left = c.loop-day.invariant.left ∙ ap (entries_on_days skies) (days_left days i day (omega arith) c.day-item.is) in
    let here = searched_with skies day c.split_at.result.0.now (c.split_at.ensures.front ∙ found_here skies _ _ day _ left refl) in
    stopped {X = ℕ} (set_days_text (map (searched skies) (take i days))) (set_day_text (searched skies day))
    (set_days_text (map (searched skies) (drop (i + 1) days))) _ c.in-Err.stop _ _ _ _ _ _
    (days_rest skies days i day (omega arith) c.day-item.is) c.loop-day.invariant.written c.loop-day.invariant.later
    (rw (sym here) c.in-Err.ensures.writes)

pub loop-day-preserved : goal.loop-day-preserved
loop-day-preserved g c =
    let skies = c.args.skies.now in
    let days = c.args.days.now in
    let i = c.loop-day.day-index in
    let day = c.day-item.result in
    let left = c.loop-day.invariant.left ∙ ap (entries_on_days skies) (days_left days i day (omega arith) c.day-item.is) in
    let same = searched_with skies day c.split_at.result.0.now (c.split_at.ensures.front ∙ found_here skies _ _ day _ left refl) in
    let here = c.in-Ok.ensures in
    record {
      left = c.split_at.ensures.back ∙ found_after skies _ _ day _ left refl;
      found = rw c.split_at.ensures.back (All-drop (All IsFound) _ _ c.loop-day.invariant.found);
      count =
          ap (λ n. n + c.in-Ok.count) c.loop-day.invariant.count
          ∙ ap (λ n. set_days_undecided (map (searched skies) (take i days)) + n) (here.count ∙ ap set_day_undecided same)
          ∙ sym (undecided_step skies days i day (omega arith) c.day-item.is);
      few = omega (arith, here.few, c.loop-day.invariant.few);
      later = omega (arith, here.writes.later, c.loop-day.invariant.later);
      written = adds_more _ _ _ (set_days_text (map (searched skies) (take i days))) (set_day_text (searched skies day)) _
          c.loop-day.invariant.written (rw (sym same) here.writes.whole) (days_step skies days i day (omega arith) c.day-item.is);
    }

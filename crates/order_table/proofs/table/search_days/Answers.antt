use Rattle.std.proofs.Common.{◌∙◌, ◌+◌, ◌++◌, ℕ, Err, ap, arith, map, take, drop, subst, sym}
use Rattle.source_sink.proofs.Transfers.{adds_more}
use Rattle.order_table.specs.Made.{searched}
use Rattle.order_table.specs.declared.day.Day.{Day}
use Rattle.order_table.specs.Table.{DayTable, day_text, day_undecided, days_text, days_undecided}
use Rattle.outcome.specs.Writing.{Writes}
use Rattle.outcome.proofs.Streams.{stopped}
use Rattle.order_table.proofs.TableLemmas.{days_rest, days_step, searched_alike, undecided_step}
use Rattle.order_table.proofs.table.search_days.Goals as goal

pub returns-in-Err-clause-writes : goal.returns-in-Err-clause-writes
returns-in-Err-clause-writes g c =
    let found = searched c.args.sky.now.sun c.args.sky.now.district c.args.sky.now.root in
    let i = c.loop-day.day-index in
    let same = searched_alike _ _ _ _ _ _ c.loop-day.invariant.sun c.loop-day.invariant.district c.loop-day.invariant.root in
    let P : (Day → DayTable) → Type 0 = λ f. Writes {X = ℕ} (day_text (f c.day-item.result)) (Err c.in-Err.stop)
    (g.K.Sink.faults c.loop-day.out) (g.K.Sink.faults c.search_day.new.out) (g.K.Sink.held c.loop-day.out) (g.K.Sink.held c.search_day.new.out) in
    stopped {X = ℕ} (days_text (map found (take i c.args.days.now))) (day_text (found c.day-item.result))
    (days_text (map found (drop (i + 1) c.args.days.now))) _ c.in-Err.stop _ _ _ _ _ _
    (days_rest c.args.sky.now.sun c.args.sky.now.district c.args.sky.now.root c.args.days.now i c.day-item.result (omega arith) c.day-item.is)
    c.loop-day.invariant.written c.loop-day.invariant.later (subst P same c.in-Err.ensures.writes)

pub loop-day-preserved : goal.loop-day-preserved
loop-day-preserved g c =
    let sun = c.args.sky.now.sun in
    let polygons = c.args.sky.now.district in
    let root = c.args.sky.now.root in
    let found = searched sun polygons root in
    let days = c.args.days.now in
    let i = c.loop-day.day-index in
    let day = c.day-item.result in
    let same = searched_alike _ _ _ _ _ _ c.loop-day.invariant.sun c.loop-day.invariant.district c.loop-day.invariant.root in
    let here = c.in-Ok.ensures in
    record {
      sun = here.sun ∙ c.loop-day.invariant.sun;
      district = here.district ∙ c.loop-day.invariant.district;
      root = here.root ∙ c.loop-day.invariant.root;
      count =
          ap (λ n. n + c.in-Ok.count) c.loop-day.invariant.count ∙ ap (λ n. days_undecided (map found (take i days)) + n) (here.count ∙ ap (λ (f : Day → DayTable). day_undecided (f day)) same)
          ∙ sym (undecided_step sun polygons root days i c.day-item.result (omega arith) c.day-item.is);
      few = omega (arith, here.few, c.loop-day.invariant.few);
      later = omega (arith, here.writes.later, c.loop-day.invariant.later);
      written = adds_more _ _ _ (days_text (map found (take i days))) (day_text (searched c.loop-day.sky.sun c.loop-day.sky.district c.loop-day.sky.root day)) _
          c.loop-day.invariant.written here.writes.whole
          (days_step sun polygons root days i day (omega arith) c.day-item.is ∙ ap (λ (f : Day → DayTable). days_text (map found (take i days)) ++ day_text (f day)) (sym same));
    }

use Rattle.std.proofs.Common.{◌∙◌, ◌+◌, ◌++◌, ℕ, Err, ap, arith, drop, map, subst, sym, take}
use Rattle.source_sink.proofs.Transfers.{adds_more}
use Rattle.order_table.specs.Made.{searched}
use Rattle.order_table.specs.declared.day.Day.{Day}
use Rattle.order_table.specs.Table.{DayTable, day_text, day_undecided, days_text, days_undecided}
use Rattle.order_table.proofs.TableLemmas.{days_rest, days_step, searched_alike, undecided_step}
use Rattle.outcome.specs.Writing.{Writes}
use Rattle.outcome.proofs.Streams.{stopped}
use Rattle.worker_table.proofs.TableLemmas.{found_day}
use Rattle.worker_table.proofs.table.write_days.Goals as goal

pub write_searched-requires-clause-found : goal.write_searched-requires-clause-found
write_searched-requires-clause-found g c =
    rw (c.loop-i.invariant.sun, c.loop-i.invariant.district, c.loop-i.invariant.root)
    (found_day c.args.sky.now.sun c.args.sky.now.district c.args.sky.now.root c.args.days.now c.args.entries.now c.loop-i.i c.index-days-i.result _
    c.requires.entries c.loop-i-test.true c.index-days-i.is)

pub returns-in-Err-clause-writes : goal.returns-in-Err-clause-writes
returns-in-Err-clause-writes g c =
    let sun = c.args.sky.now.sun in
    let polygons = c.args.sky.now.district in
    let root = c.args.sky.now.root in
    let found = searched sun polygons root in
    let days = c.args.days.now in
    let i = c.loop-i.i in
    let day = c.index-days-i.result in
    let same = searched_alike _ _ _ _ _ _ c.loop-i.invariant.sun c.loop-i.invariant.district c.loop-i.invariant.root in
    let P : (Day → DayTable) → Type 0 = λ f. Writes {X = ℕ} (day_text (f day)) (Err c.in-Err.stop)
    (g.K.Sink.faults c.loop-i.out) (g.K.Sink.faults c.write_searched.new.out) (g.K.Sink.held c.loop-i.out) (g.K.Sink.held c.write_searched.new.out) in
    stopped {X = ℕ} (days_text (map found (take i days))) (day_text (found day)) (days_text (map found (drop (i + 1) days))) _ c.in-Err.stop _ _ _ _ _ _
    (days_rest sun polygons root days i day c.loop-i-test.true c.index-days-i.is) c.loop-i.invariant.written c.loop-i.invariant.later
    (subst P same c.in-Err.ensures.writes)

pub loop-i-preserved : goal.loop-i-preserved
loop-i-preserved g c =
    let sun = c.args.sky.now.sun in
    let polygons = c.args.sky.now.district in
    let root = c.args.sky.now.root in
    let found = searched sun polygons root in
    let days = c.args.days.now in
    let i = c.loop-i.i in
    let day = c.index-days-i.result in
    let same = searched_alike _ _ _ _ _ _ c.loop-i.invariant.sun c.loop-i.invariant.district c.loop-i.invariant.root in
    let here = c.in-Ok.ensures in
    record {
      sun = here.sun ∙ c.loop-i.invariant.sun;
      district = here.district ∙ c.loop-i.invariant.district;
      root = here.root ∙ c.loop-i.invariant.root;
      count =
          ap (λ n. n + c.in-Ok.count) c.loop-i.invariant.count ∙ ap (λ n. days_undecided (map found (take i days)) + n) (here.count ∙ ap (λ (f : Day → DayTable). day_undecided (f day)) same)
          ∙ sym (undecided_step sun polygons root days i day c.loop-i-test.true c.index-days-i.is);
      few = omega (arith, here.few, c.loop-i.invariant.few);
      later = omega (arith, here.writes.later, c.loop-i.invariant.later);
      written = adds_more _ _ _ (days_text (map found (take i days))) (day_text (searched c.loop-i.sky.sun c.loop-i.sky.district c.loop-i.sky.root day)) _
          c.loop-i.invariant.written here.writes.whole
          (days_step sun polygons root days i day c.loop-i-test.true c.index-days-i.is ∙ ap (λ (f : Day → DayTable). days_text (map found (take i days)) ++ day_text (f day)) (sym same));
    }

use Rattle.std.proofs.Common.{◌∙◌, ◌+◌, ℕ, Err, List, ap, arith, drop, map, subst, sym, take}
use Rattle.source_sink.specs.Outside.{Adds}
use Rattle.source_sink.proofs.Transfers.{adds_more}
use Rattle.order_table.specs.Made.{searched}
use Rattle.order_table.specs.Table.{days_undecided}
use Rattle.order_table.proofs.TableLemmas.{undecided_step}
use Rattle.outcome.specs.Writing.{Writes}
use Rattle.outcome.proofs.Streams.{stopped}
use Rattle.worker_table.proofs.TableLemmas.{found_day}
use Rattle.order_calendar.specs.Pieces.{day_text, days_text, sheet_seen}
use Rattle.order_calendar.proofs.PieceLemmas.{count_found, text_found, text_rest, text_step}
use Rattle.order_calendar.proofs.calendar.write_days.Goals as goal

pub returns-in-Err-clause-writes : goal.returns-in-Err-clause-writes
returns-in-Err-clause-writes g c =
    let s = sheet_seen c.args.sheet.now in
    let sun = c.args.sky.now.sun in
    let polygons = c.args.sky.now.district in
    let root = c.args.sky.now.root in
    let found = searched sun polygons root in
    let days = c.args.days.now in
    let i = c.loop-i.i in
    let day = c.index-days-i.result in
    let own = found_day sun polygons root days c.args.entries.now i day _ c.requires.entries c.loop-i-test.true c.index-days-i.is in
    let P : List ℕ → Type 0 = λ t. Writes {X = ℕ} t (Err c.in-Err.stop)
    (g.K.Sink.faults c.loop-i.out) (g.K.Sink.faults c.write_day.new.out) (g.K.Sink.held c.loop-i.out) (g.K.Sink.held c.write_day.new.out) in
    stopped {X = ℕ} (days_text s (map found (take i days))) (day_text s (found day)) (days_text s (map found (drop (i + 1) days))) _ c.in-Err.stop _ _ _ _ _ _
    (text_rest s found days i day c.loop-i-test.true c.index-days-i.is) c.loop-i.invariant.written c.loop-i.invariant.later
    (subst P (text_found sun polygons root day _ own s) c.in-Err.ensures.writes)

pub loop-i-preserved : goal.loop-i-preserved
loop-i-preserved g c =
    let s = sheet_seen c.args.sheet.now in
    let sun = c.args.sky.now.sun in
    let polygons = c.args.sky.now.district in
    let root = c.args.sky.now.root in
    let found = searched sun polygons root in
    let days = c.args.days.now in
    let i = c.loop-i.i in
    let day = c.index-days-i.result in
    let own = found_day sun polygons root days c.args.entries.now i day _ c.requires.entries c.loop-i-test.true c.index-days-i.is in
    let here = c.in-Ok.ensures in
    record {
      count =
          ap (λ n. n + c.in-Ok.count) c.loop-i.invariant.count
          ∙ ap (λ n. days_undecided (map found (take i days)) + n) (here.count ∙ count_found sun polygons root day _ own day.seven)
          ∙ sym (undecided_step sun polygons root days i day c.loop-i-test.true c.index-days-i.is);
      few = omega (arith, here.few, c.loop-i.invariant.few);
      later = omega (arith, here.writes.later, c.loop-i.invariant.later);
      written = adds_more _ _ _ (days_text s (map found (take i days))) (day_text s (found day)) _
          c.loop-i.invariant.written (subst (Adds (g.K.Sink.held c.loop-i.out) (g.K.Sink.held c.write_day.new.out)) (text_found sun polygons root day _ own s) here.writes.whole)
          (text_step s found days i day c.loop-i-test.true c.index-days-i.is);
    }

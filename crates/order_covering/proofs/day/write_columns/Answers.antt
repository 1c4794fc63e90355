use Rattle.std.proofs.Common.{◌≡◌, ◌+◌, ◌<◌, ◌∙◌, List, ℕ, Err, Ok, ap, arith, subst, sym, take}
use Rattle.std.specs.List.{flat_map, sum_by}
use Rattle.std.specs.String.{string_bytes}
use Rattle.outcome.specs.Writing.{Writes}
use Rattle.outcome.proofs.Streams.{written as written_whole}
use Rattle.order_covering.specs.Made.{columns_written, counted_at, written_at}
use Rattle.order_covering.proofs.CoveringLemmas.{column_at, counted_all, written_all}
use Rattle.order_covering.proofs.Pieces.{item_stopped, item_written, sum_more}
use Rattle.order_table.specs.Trees.{columns}
use Rattle.order_covering.proofs.day.write_columns.Goals as goal

pub returns-in-Err-clause-writes : goal.returns-in-Err-clause-writes
returns-in-Err-clause-writes g c =
    let sky = c.args.judge.now.sky.now in
    let k = c.loop-k.k in
    let known : k < 7 = omega arith in
    let f = written_at c.args.form sky.sun sky.district sky.root c.args.day.now (string_bytes c.in-Ok.date) in
    let P : List ℕ → Type 0 = λ date. Writes {X = ℕ} (written_at c.args.form sky.sun sky.district sky.root c.args.day.now date k) (Err c.in-Err.stop)
    (g.K.Sink.faults c.loop-k.out) (g.K.Sink.faults c.write_column.new.out) (g.K.Sink.held c.loop-k.out) (g.K.Sink.held c.write_column.new.out) in
    item_stopped f columns {Y = ℕ} {Z = ℕ} k k (columns_written c.args.form sky.sun sky.district sky.root c.args.day.now) c.in-Err.stop _ _ _ _ _ _
    (sym (written_all c.args.form sky.sun sky.district sky.root c.args.day.now (string_bytes c.in-Ok.date) c.in-Ok.ensures)) known (column_at k k known)
    c.loop-k.invariant.written c.loop-k.invariant.later (subst P c.as_str.ensures.value c.in-Err.ensures.writes)

pub loop-k-preserved : goal.loop-k-preserved
loop-k-preserved g c =
    let sky = c.args.judge.now.sky.now in
    let k = c.loop-k.k in
    let known : k < 7 = omega arith in
    let f = written_at c.args.form sky.sun sky.district sky.root c.args.day.now (string_bytes c.in-Ok.date) in
    let n = counted_at sky.sun sky.district sky.root c.args.day.now in
    let here = c.in-Ok-write_column.ensures in
    let P : List ℕ → Type 0 = λ date. Writes {X = ℕ} (written_at c.args.form sky.sun sky.district sky.root c.args.day.now date k) (Ok c.in-Ok-write_column.count)
    (g.K.Sink.faults c.loop-k.out) (g.K.Sink.faults c.write_column.new.out) (g.K.Sink.held c.loop-k.out) (g.K.Sink.held c.write_column.new.out) in
    let line = subst P c.as_str.ensures.value here.writes in
    record {
      count = ap (λ (m : ℕ). m + c.in-Ok-write_column.count) c.loop-k.invariant.count
          ∙ ap (λ (m : ℕ). sum_by n (take k columns) + m) here.count ∙ sym (sum_more n columns k k known (column_at k k known));
      few = omega (arith, here.few, c.loop-k.invariant.few);
      later = omega (arith, line.later, c.loop-k.invariant.later);
      written = item_written f columns k k _ _ _ known (column_at k k known) c.loop-k.invariant.written line.whole;
    }

pub returns-clause-writes : goal.returns-clause-writes
returns-clause-writes g c =
    let sky = c.args.judge.now.sky.now in
    let end : c.loop-k.k ≡ 7 = omega arith in
    let all : take c.loop-k.k columns ≡ columns = ap (λ (k : ℕ). take k columns) end in
    let f = written_at c.args.form sky.sun sky.district sky.root c.args.day.now (string_bytes c.in-Ok.date) in
    written_whole (columns_written c.args.form sky.sun sky.district sky.root c.args.day.now) _ c.loop-k.undecided _ _ _ _
    (ap (flat_map f) all ∙ written_all c.args.form sky.sun sky.district sky.root c.args.day.now (string_bytes c.in-Ok.date) c.in-Ok.ensures)
    c.loop-k.invariant.later c.loop-k.invariant.written

pub returns-clause-count : goal.returns-clause-count
returns-clause-count g c =
    let sky = c.args.judge.now.sky.now in
    let end : c.loop-k.k ≡ 7 = omega arith in
    let all : take c.loop-k.k columns ≡ columns = ap (λ (k : ℕ). take k columns) end in
    c.loop-k.invariant.count ∙ ap (sum_by (counted_at sky.sun sky.district sky.root c.args.day.now)) all
    ∙ counted_all sky.sun sky.district sky.root c.args.day.now

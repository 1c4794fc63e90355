use Rattle.std.proofs.Common.{◌≡◌, ◌+◌, ◌-◌, ◌∙◌, ℕ, ap, arith, map, subst, sym, take, drop}
use Rattle.std.specs.List.{flat_map}
use Rattle.std.proofs.lemmas.List.{length-take}
use Rattle.source_sink.specs.Outside.{Adds}
use Rattle.order_covering.specs.Made.{written}
use Rattle.order_covering.proofs.CoveringLemmas.{count_parts}
use Rattle.order_covering.proofs.Pieces.{part_stopped, part_written}
use Rattle.order_table.specs.Made.{searched}
use Rattle.order_table.specs.Table.{days_undecided}
use Rattle.order_covering.proofs.days.write_days.Goals as goal

pub returns-in-Err-clause-writes : goal.returns-in-Err-clause-writes
returns-in-Err-clause-writes g c =
    let sky = c.args.sky.now in
    part_stopped (written c.args.form sky.sun sky.district sky.root) c.args.days.now {Y = ℕ} {Z = ℕ} c.loop-at.at (c.min-end.result - c.loop-at.at)
    c.in-Err.stop _ _ _ _ _ _ c.loop-at.invariant.written c.loop-at.invariant.later c.in-Err.ensures.writes

pub loop-at-preserved : goal.loop-at-preserved
loop-at-preserved g c =
    let sky = c.args.sky.now in
    let days = c.args.days.now in
    let at = c.loop-at.at in
    let end = c.min-end.result in
    let n = end - at in
    let S = searched sky.sun sky.district sky.root in
    let here = c.in-Ok.ensures in
    let later = c.loop-at.invariant.inside in
    let split : at + n ≡ end = omega (arith, c.min-end.ensures, later) in
    let long = length-take n (drop at days) in
    let P : ℕ → Type 0 = λ m. Adds (g.K.Sink.held c.args.out.now) (g.K.Sink.held c.write_some.new.out)
    (flat_map (written c.args.form sky.sun sky.district sky.root) (take m days)) in
    record {
      inside = omega (arith, c.min-end.ensures);
      count = ap (λ (m : ℕ). m + c.in-Ok.count) c.loop-at.invariant.count
          ∙ ap (λ (m : ℕ). days_undecided (map S (take at days)) + m) here.count
          ∙ sym (count_parts sky.sun sky.district sky.root days at n) ∙ ap (λ (m : ℕ). days_undecided (map S (take m days))) split;
      few = omega (arith, here.few, long, split, c.loop-at.invariant.few);
      later = omega (arith, here.writes.later, c.loop-at.invariant.later);
      written = subst P split (part_written (written c.args.form sky.sun sky.district sky.root) days at n _ _ _ c.loop-at.invariant.written here.writes.whole);
    }

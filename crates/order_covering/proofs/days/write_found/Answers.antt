use Rattle.std.proofs.Common.{ℕ, arith, refl, sym}
use Rattle.order_covering.specs.Made.{written}
use Rattle.order_covering.proofs.Pieces.{item_stopped}
use Rattle.order_covering.proofs.days.write_found.Goals as goal

pub returns-in-Err-clause-writes : goal.returns-in-Err-clause-writes
returns-in-Err-clause-writes g c =
    let sky = c.args.sky.now in
    item_stopped (written c.args.form sky.sun sky.district sky.root) c.args.days.now {Y = ℕ} {Z = ℕ} c.loop-i.i c.index-days-i.result _ c.in-Err.stop _ _ _ _ _ _
    refl (omega arith) (sym c.index-days-i.is) c.loop-i.invariant.written c.loop-i.invariant.later c.in-Err.ensures.writes

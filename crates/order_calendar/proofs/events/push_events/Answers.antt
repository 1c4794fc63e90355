use Rattle.std.proofs.Common.{arith}
use Rattle.cell_split.specs.declared.verdict.Entry.TheVariants.{Minute}
use Rattle.order_calendar.specs.Pieces.{sheet_seen}
use Rattle.order_calendar.proofs.PieceLemmas.{found_all, found_step}
use Rattle.order_calendar.proofs.events.push_events.Goals as goal

pub loop-i-preserved : goal.loop-i-preserved
loop-i-preserved c =
    found_step (sheet_seen c.args.sheet.now) c.args.day.now.number c.args.problems.now c.args.entries.now c.loop-i.i c.index-problems-i.result (Minute 0)
    (omega arith) (omega arith) c.index-problems-i.is _ _ _ c.loop-i.invariant c.in_ok-push_event.ensures

pub returns : goal.returns
returns c =
    found_all (sheet_seen c.args.sheet.now) c.args.day.now.number c.args.problems.now c.args.entries.now c.loop-i.i _ _ (omega arith) c.loop-i.invariant

use Rattle.std.proofs.Common.{arith}
use Rattle.cell_split.specs.declared.verdict.Entry.TheVariants.{Minute}
use Rattle.order_table.proofs.TextLemmas.{opens_all, opens_step}
use Rattle.order_table.proofs.text.push_opens.Goals as goal

pub loop-i-preserved : goal.loop-i-preserved
loop-i-preserved c =
    opens_step c.args.problems.now c.args.entries.now c.loop-i.i c.index-problems-i.result (Minute 0) (omega arith) (omega arith) c.index-problems-i.is _ _ _
    c.loop-i.invariant c.in_ok-push_open.ensures

pub returns : goal.returns
returns c = opens_all c.args.problems.now c.args.entries.now c.loop-i.i _ _ (omega arith) c.loop-i.invariant

use Rattle.std.proofs.Common.{arith}
use Rattle.cell_split.proofs.LeafLemmas.{quarter_is_task}
use Rattle.cell_split.proofs.judge.Judge.judge_quarters.Goals as goal

pub judge-requires : goal.judge-requires
judge-requires g c = quarter_is_task (g.Self.Judge.content c.args.self.now) c.args.t c.children.result c.requires.task c.children.ensures.value c.requires.quartered 0 _ (omega arith)

pub judge-requires-2 : goal.judge-requires-2
judge-requires-2 g c = quarter_is_task (g.Self.Judge.content c.args.self.now) c.args.t c.children.result c.requires.task c.children.ensures.value c.requires.quartered 1 _ (omega arith)

pub judge-requires-3 : goal.judge-requires-3
judge-requires-3 g c = quarter_is_task (g.Self.Judge.content c.args.self.now) c.args.t c.children.result c.requires.task c.children.ensures.value c.requires.quartered 2 _ (omega arith)

pub judge-requires-4 : goal.judge-requires-4
judge-requires-4 g c = quarter_is_task (g.Self.Judge.content c.args.self.now) c.args.t c.children.result c.requires.task c.children.ensures.value c.requires.quartered 3 _ (omega arith)

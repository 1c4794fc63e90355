use Rattle.cell_judge.proofs.QuarterLemmas.{are_cells}
use Rattle.cell_judge.proofs.sky.Sky.judge_quarters_for.Goals as goal

pub judge_quarter-requires-clause-cell : goal.judge_quarter-requires-clause-cell
judge_quarter-requires-clause-cell c = (are_cells c.args.self.now.root c.args.cell.now _ _ _ _ c.requires.cell c.quarters_of-quarters.ensures.all).0

pub judge_quarter-requires-2-clause-cell : goal.judge_quarter-requires-2-clause-cell
judge_quarter-requires-2-clause-cell c = (are_cells c.args.self.now.root c.args.cell.now _ _ _ _ c.requires.cell c.quarters_of-quarters.ensures.all).1.0

pub judge_quarter-requires-3-clause-cell : goal.judge_quarter-requires-3-clause-cell
judge_quarter-requires-3-clause-cell c = (are_cells c.args.self.now.root c.args.cell.now _ _ _ _ c.requires.cell c.quarters_of-quarters.ensures.all).1.1.0

pub judge_quarter-requires-4-clause-cell : goal.judge_quarter-requires-4-clause-cell
judge_quarter-requires-4-clause-cell c = (are_cells c.args.self.now.root c.args.cell.now _ _ _ _ c.requires.cell c.quarters_of-quarters.ensures.all).1.1.1.0

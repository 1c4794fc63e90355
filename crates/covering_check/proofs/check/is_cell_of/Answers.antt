use Rattle.covering_check.proofs.CellTests.{cell_test}
use Rattle.covering_check.proofs.check.is_cell_of.Goals as goal

pub returns : goal.returns
returns c = cell_test c.args.root.now c.args.cell.now c.within.result c.within.ensures

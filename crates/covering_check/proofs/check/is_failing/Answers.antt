use Rattle.std.proofs.Common.{sym, ◌∙◌, ap}
use Rattle.covering_check.specs.Cells.{is_cell_of}
use Rattle.covering_check.proofs.CellTests.{cell_is}
use Rattle.covering_check.proofs.check.is_failing.Goals as goal

pub judge-requires : goal.judge-requires
judge-requires g c = record {
  known = c.requires;
  cell = cell_is _ c.in-UpTo.cell (ap (λ root. is_cell_of root c.in-UpTo.cell) (sym c.root.ensures) ∙ (sym c.is_cell_of.ensures ∙ c.if-not-is_cell_of.false));
}

use Rattle.order_covering.proofs.CoveringLemmas.{letters_line, runs_written}
use Rattle.order_covering.proofs.line.line_of.Goals as goal

pub returns-in-Letters : goal.returns-in-Letters
returns-in-Letters c = letters_line _ _ _ _ _ c.in-Letters.is c.cover_line_1.ensures.line

pub returns-in-Runs : goal.returns-in-Runs
returns-in-Runs c = runs_written _ _ _ _ _ c.in-Runs.is c.cover_line.ensures.line

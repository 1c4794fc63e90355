use Rattle.covering_laws.proofs.Documents.{line_no_feed}
use Rattle.covering_laws.proofs.laws.written_lines_are_single.Goals as goal

pub returns : goal.returns
returns c = line_no_feed

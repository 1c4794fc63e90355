use Rattle.set_search.proofs.PrintLemmas.{join_printable}
use Rattle.set_search.proofs.join.joined_at.Goals as goal

pub returns-clause-printable : goal.returns-clause-printable
returns-clause-printable c = rw (c.join_entries.ensures, c.deref.ensures.value) (join_printable _ c.in_ok-entries.ensures.found)

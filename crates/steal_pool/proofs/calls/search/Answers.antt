use Rattle.std.proofs.Common.{arith}
use Rattle.steal_pool.proofs.calls.search.Goals as goal

pub search_in-requires-clause-problems : goal.search_in-requires-clause-problems
search_in-requires-clause-problems g c = λ κs. let some = c.if-problems-eq0.false in omega (arith, some, c.problems.ensures)

pub returns : goal.returns
returns g c = let found = c.in_ok-found.ensures in rw (c.of.ensures, c.of-2.ensures, found.held) found.harvest

use Rattle.std.proofs.Common.{arith}
use Rattle.steal_pool.proofs.calls.search_ranks.Goals as goal

pub search_in-requires-clause-problems : goal.search_in-requires-clause-problems
search_in-requires-clause-problems g c = λ κs. let some = c.if-problems-eq0.false in omega (arith, some, c.problems.ensures)

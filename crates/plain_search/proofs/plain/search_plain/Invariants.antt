use Rattle.std.proofs.Common.{◌≡◌, ◌≤◌}
use Rattle.plain_search.specs.Collected.{Searched}
use Rattle.plain_search.proofs.plain.search_plain.Given as goal

-- the problems before this one are searched
abbrev pub invariant-loop-problem : goal.invariant-loop-problem
invariant-loop-problem g l =
    let content = g.J.Judge.content l.judge in
    record {
      root : l.cell ≡ content.root;
      end : l.problem ≤ content.problems;
      searched : Searched content l.problem l.ranks.items l.leaves.items;
    }

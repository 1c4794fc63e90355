use Rattle.std.proofs.Common.{◌≡◌, ℕ, ◌<◌, subst, rules}
use Rattle.cell_split.proofs.LeafLemmas.{root_is_task}
use Rattle.plain_search.specs.Collected.{Searched}
use Rattle.plain_search.proofs.Harvesting.{harvested, searched-more, searched-none}
use Rattle.plain_search.proofs.plain.search_plain.Goals as goal

pub visit-requires : goal.visit-requires
visit-requires g c =
    let content = g.J.Judge.content c.args.judge.now in
    let inside : c.loop-problem.problem < content.problems = search rules in
    rw c.loop-problem.invariant.root (root_is_task content (g.met.J.Judge.lawful c.args.judge.now) c.loop-problem.problem inside)

pub loop-problem-init : goal.loop-problem-init
loop-problem-init g c = record {
  root = search rules;
  end = search rules;
  searched = rw (c.new-ranks.ensures.items, c.new-leaves.ensures.items) (searched-none (g.J.Judge.content c.args.judge.now));
}

pub loop-problem-preserved : goal.loop-problem-preserved
loop-problem-preserved g c =
    let content = g.J.Judge.content c.args.judge.now in
    let now = rw c.loop-problem.invariant.root at c.in_ok-visit.ensures in
    record {
      root = c.loop-problem.invariant.root;
      end = search rules;
      searched = rw c.in_ok-push.ensures.items (searched-more content c.loop-problem.problem c.loop-problem.ranks.items c.visit.new.refuted c.loop-problem.leaves.items c.visit.new.found.items c.loop-problem.invariant.searched now);
    }

pub returns : goal.returns
returns g c =
    let content = g.J.Judge.content c.args.judge.now in
    let all : c.loop-problem.problem ≡ content.problems = search rules in
    let P : ℕ → Type 0 = λ n. Searched content n c.loop-problem.ranks.items c.loop-problem.leaves.items in
    rw (c.of.ensures, c.of-2.ensures) (harvested content c.loop-problem.ranks.items c.loop-problem.leaves.items (subst P all c.loop-problem.invariant.searched))

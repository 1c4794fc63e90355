use Rattle.cell_split.proofs.LeafLemmas.{root_is_task}
use Rattle.cell_split.specs.Tree.{leaves, root_task}
use Rattle.plain_search.specs.Harvests.{ordinal_of}
use Rattle.plain_search.proofs.Rising.{top_ordinals}
use Rattle.plain_search.proofs.ranks_alone.top_ranks.Goals as goal

pub rise-requires : goal.rise-requires
rise-requires g c =
    let content = g.J.Judge.content c.args.judge.now in
    rw c.root.ensures (root_is_task content (g.met.J.Judge.lawful c.args.judge.now) c.args.k c.requires)

pub returns : goal.returns
returns g c =
    let content = g.J.Judge.content c.args.judge.now in
    let all = leaves content (root_task content c.args.k) in
    rw (c.of.ensures.refuted, c.of.ensures.left_open) (top_ordinals all (ordinal_of c.rise.new.found.refuted) (ordinal_of c.rise.new.found.left_open) (rw c.root.ensures at c.rise.ensures))

use Rattle.steal_pool.proofs.stealing.search_in.Goals as goal

pub returns : goal.returns
returns g c =
    let enough = rw c.deref.ensures.value at (c.lack_memory.ensures c.if-lack_memory.false) in
    c.in_ok-found.ensures (c.in_ok-joined.ensures.owes (c.run_crew.ensures.owes enough c.in_ok-members.ensures.owes))

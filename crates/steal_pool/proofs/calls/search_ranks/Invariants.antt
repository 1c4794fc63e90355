use Rattle.steal_pool.proofs.calls.search_ranks.Given as goal

-- the deques are of this judge's trees
abbrev pub ghosts-search_in : goal.ghosts-search_in
ghosts-search_in g a = record { case = g.J.Judge.content a.judge.now }

use Rattle.json_tests.proofs.json_texts.+write_tree.Given as goal

abbrev pub decreases-write_tree : goal.decreases-write_tree
decreases-write_tree l = l.depth

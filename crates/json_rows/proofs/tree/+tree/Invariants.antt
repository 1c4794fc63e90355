use Rattle.std.proofs.Common.{◌+◌, ◌*◌}
use Rattle.json_rows.proofs.tree.+tree.Given as goal

abbrev pub decreases-write_list : goal.decreases-write_list
decreases-write_list l = 2 * l.depth + 2

abbrev pub decreases-write_table : goal.decreases-write_table
decreases-write_table l = 2 * l.depth + 2

abbrev pub decreases-write_tree : goal.decreases-write_tree
decreases-write_tree l = 2 * l.depth + 1

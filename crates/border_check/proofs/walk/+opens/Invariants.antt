use Rattle.std.proofs.Common.{◌+◌, ◌*◌}
use Rattle.border_check.proofs.walk.+opens.Given as goal

abbrev pub decreases-first_open : goal.decreases-first_open
decreases-first_open l = 3 * l.square.size + 2

abbrev pub decreases-first_open_below : goal.decreases-first_open_below
decreases-first_open_below l = 3 * l.square.size + 1

abbrev pub decreases-first_open_in : goal.decreases-first_open_in
decreases-first_open_in l = 3 * l.square.size

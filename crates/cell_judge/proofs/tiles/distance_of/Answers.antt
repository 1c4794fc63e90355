use Rattle.cell_judge.proofs.TileLemmas.{part_ends}
use Rattle.cell_judge.proofs.tiles.distance_of.Goals as goal

pub returns-clause-room : goal.returns-clause-room
returns-clause-room c =
    rw c.power_of_two.ensures.value (part_ends c.args.length c.args.size c.args.part c.requires.length c.requires.size c.requires.part)

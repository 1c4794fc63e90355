use Rattle.std.specs.Prelude.{map}
use Rattle.method_table.specs.Row.{row_of}
use Rattle.cell_judge.proofs.Lawful.{skies_are_lawful}
use Rattle.cell_judge.proofs.sky.Sky.turn_to.Goals as goal

pub invariant_of-self-clause-lawful : goal.invariant_of-self-clause-lawful
invariant_of-self-clause-lawful c =
    let sky = c.args.self.now in skies_are_lawful sky.sun sky.district (map row_of c.args.problems) sky.root sky.lawful.root

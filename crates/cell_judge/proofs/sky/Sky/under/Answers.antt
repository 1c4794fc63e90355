use Rattle.std.specs.Prelude.{map}
use Rattle.method_table.specs.Row.{row_of}
use Rattle.cell_judge.proofs.Lawful.{skies_are_lawful}
use Rattle.cell_judge.proofs.sky.Sky.under.Goals as goal

pub invariant_of-self-clause-lawful : goal.invariant_of-self-clause-lawful
invariant_of-self-clause-lawful c = skies_are_lawful c.args.sun c.args.self.district (map row_of c.args.self.problems) c.args.self.root c.args.self.lawful.root

use Rattle.std.specs.Prelude.{map}
use Rattle.method_table.specs.declared.sun.SunChoice.TheVariants.{Usno}
use Rattle.method_table.specs.Row.{row_of}
use Rattle.cell_judge.proofs.Lawful.{skies_are_lawful}
use Rattle.cell_judge.proofs.sky.Sky.new_in.Goals as goal

pub invariant_of-result-clause-lawful : goal.invariant_of-result-clause-lawful
invariant_of-result-clause-lawful c = skies_are_lawful Usno c.args.district (map row_of c.args.problems) c.args.root c.requires.root

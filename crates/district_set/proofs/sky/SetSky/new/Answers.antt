use Rattle.district_set.proofs.Lawful.{lawful_set}
use Rattle.district_set.proofs.sky.SetSky.new.Goals as goal

pub invariant_of-result-clause-lawful : goal.invariant_of-result-clause-lawful
invariant_of-result-clause-lawful g c = lawful_set g.J.Judge.content g.met.J.Judge.lawful c.args.skies.now c.requires.some c.requires.alike

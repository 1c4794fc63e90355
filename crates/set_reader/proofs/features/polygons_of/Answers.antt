use Rattle.set_reader.proofs.PartsLemmas.{all_copied}
use Rattle.set_reader.proofs.features.polygons_of.Goals as goal

pub returns : goal.returns
returns c = all_copied c.args.features.now c.in_ok-concat.field-0.items c.in_ok-concat.ensures.ok

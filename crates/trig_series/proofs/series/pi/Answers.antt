use Rattle.std.proofs.Common.{◌∙◌, sym}
use Rattle.trig_series.proofs.PiLaws.{grid_pi-is}
use Rattle.trig_series.proofs.series.pi.Goals as goal

pub returns : goal.returns
returns c = c.new.ensures ∙ sym grid_pi-is

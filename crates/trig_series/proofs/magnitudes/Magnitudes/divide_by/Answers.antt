use Rattle.std.proofs.Common.{◌/◌, pos, ◌∙◌}
use Rattle.trig_series.proofs.MagnitudeSteps.{divided, div_ceil-is}
use Rattle.trig_series.proofs.magnitudes.Magnitudes.divide_by.Goals as goal

pub returns : goal.returns
returns c = (λ i. record { lo = pos (c.args.self.least / c.args.n); hi = pos (div_ceil-is c.args.self.greatest c.args.n c.requires.positive i) }) ∙ divided c.args.self.least c.args.self.greatest c.args.n c.requires.positive

use Rattle.std.proofs.Common.{pos, ◌∙◌}
use Rattle.trig_series.proofs.MagnitudeSteps.{multiplied}
use Rattle.trig_series.proofs.magnitudes.Magnitudes.product.Goals as goal

pub returns : goal.returns
returns c = (λ i. record { lo = pos (c.floor_product.ensures i); hi = pos (c.ceil_product.ensures i) }) ∙ multiplied c.args.self.least c.args.self.greatest c.args.other.least c.args.other.greatest c.args.self.ordered c.args.other.ordered

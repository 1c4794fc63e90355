use Rattle.std.proofs.Common.{arith}
use borrow.Author.Tests.{leb-true}
use Rattle.trig_series.proofs.MagnitudeSteps.{level}
use Rattle.trig_series.proofs.magnitudes.Magnitudes.is_level.Goals as goal

pub returns-then-self-eq0 : goal.returns-then-self-eq0
returns-then-self-eq0 c e n h =
    let least = leb-true c.args.self.greatest c.min.result e in
    level c.args.self.least c.args.self.greatest c.args.square.least c.args.square.greatest n c.if-self-eq0.true (omega (arith, least, c.min.ensures)) (omega (arith, least, c.min.ensures)) c.args.square.ordered c.args.square.at_most_one h

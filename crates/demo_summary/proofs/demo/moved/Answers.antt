use Rattle.demo_summary.proofs.DemoLemmas.{moved_is}
use Rattle.demo_summary.proofs.demo.moved.Goals as goal

pub returns : goal.returns
returns c =
    moved_is c.args.centre c.args.direction c.args.distance c.requires.west c.requires.east c.requires.short c.requires.low c.requires.high

use Rattle.std.proofs.Common.{arith, ap, ◌∙◌}
use Rattle.std.proofs.lemmas.Int.{ints}
use Rattle.plane_edges.specs.Plane.{Box}
use Rattle.region.specs.Named.{named}
use Rattle.cell_judge.proofs.StripLemmas.{box_is, strip_at}
use Rattle.cell_judge.proofs.sky.Sky.named_by_edges.Goals as goal

pub meets-requires-clause-low : goal.meets-requires-clause-low
meets-requires-clause-low c =
    let sky = c.args.self.now in
    let at = strip_at sky.district sky.root.y sky.strips c.in-Some.number c.strip.result.now sky.strips_are c.strip.ensures in
    omega (arith, ints, at.low, c.in-Some.ensures)

pub meets-requires-clause-high : goal.meets-requires-clause-high
meets-requires-clause-high c =
    let sky = c.args.self.now in
    let at = strip_at sky.district sky.root.y sky.strips c.in-Some.number c.strip.result.now sky.strips_are c.strip.ensures in
    omega (arith, ints, at.low, c.in-Some.ensures)

pub returns-in-Some : goal.returns-in-Some
returns-in-Some c =
    let sky = c.args.self.now in
    let r = c.rect_of-r.ensures in
    let at = strip_at sky.district sky.root.y sky.strips c.in-Some.number c.strip.result.now sky.strips_are c.strip.ensures in
    c.meets.ensures sky.district at.is_strip
    ∙ ap (λ (box : Box). named box sky.district) (box_is c.rect_of-r.result c.args.cell.now r.west r.east r.south r.north)

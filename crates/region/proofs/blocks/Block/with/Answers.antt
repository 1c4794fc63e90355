use Rattle.std.proofs.Common.{rules, refl, FitsSigned}
use Rattle.std.specs.Int.{w64}
use Rattle.std.proofs.lemmas.Int.{to_z-of_z}
use Rattle.region.proofs.blocks.Block.with.Goals as goal
use Rattle.region.proofs.InBlocks.{held_wider}

pub returns-clause-held : goal.returns-clause-held
returns-clause-held c =
    let f1 : FitsSigned w64 c.least.result = search rules in
    let f2 : FitsSigned w64 c.greatest.result = search rules in
    let f3 : FitsSigned w64 c.least-2.result = search rules in
    let f4 : FitsSigned w64 c.greatest-2.result = search rules in
    let xa : FitsSigned w64 c.args.edge.now.xa = search rules in
    let xb : FitsSigned w64 c.args.edge.now.xb = search rules in
    let ya : FitsSigned w64 c.args.edge.now.ya = search rules in
    let yb : FitsSigned w64 c.args.edge.now.yb = search rules in
    let o1 : FitsSigned w64 c.args.self.west = search rules in
    let o2 : FitsSigned w64 c.args.self.east = search rules in
    let o3 : FitsSigned w64 c.args.self.south = search rules in
    let o4 : FitsSigned w64 c.args.self.north = search rules in
    simp to_z-of_z (record {
      polygon_is = c.requires.polygon;
      xa_east = simp to_z-of_z at c.least.ensures.second;
      xb_east = simp to_z-of_z at c.least.ensures.third;
      xa_west = simp to_z-of_z at c.greatest.ensures.second;
      xb_west = simp to_z-of_z at c.greatest.ensures.third;
      ya_north = simp to_z-of_z at c.least-2.ensures.second;
      yb_north = simp to_z-of_z at c.least-2.ensures.third;
      ya_south = simp to_z-of_z at c.greatest-2.ensures.second;
      yb_south = simp to_z-of_z at c.greatest-2.ensures.third;
    })

pub returns-clause-wider : goal.returns-clause-wider
returns-clause-wider c = λ e h.
    let f1 : FitsSigned w64 c.least.result = search rules in
    let f2 : FitsSigned w64 c.greatest.result = search rules in
    let f3 : FitsSigned w64 c.least-2.result = search rules in
    let f4 : FitsSigned w64 c.greatest-2.result = search rules in
    let o1 : FitsSigned w64 c.args.self.west = search rules in
    let o2 : FitsSigned w64 c.args.self.east = search rules in
    let o3 : FitsSigned w64 c.args.self.south = search rules in
    let o4 : FitsSigned w64 c.args.self.north = search rules in
    simp to_z-of_z (held_wider _ c.args.self e (record {
      polygon = refl;
      west = simp to_z-of_z at c.least.ensures.first;
      east = simp to_z-of_z at c.greatest.ensures.first;
      south = simp to_z-of_z at c.least-2.ensures.first;
      north = simp to_z-of_z at c.greatest-2.ensures.first;
    }) h)

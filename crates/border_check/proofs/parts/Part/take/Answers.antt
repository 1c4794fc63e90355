use Rattle.std.proofs.Common.{map, rules, FitsSigned, [], ◌∷◌, refl, ap, ◌∙◌}
use Rattle.std.specs.Int.{w64}
use Rattle.std.proofs.lemmas.Int.{to_z-of_z}
use Rattle.plane_edges.specs.EdgePoints.{corner}
use Rattle.plane_edges.specs.Plane.{crosses}
use Rattle.border_check.specs.Views.{box_of, segment_of}
use Rattle.border_check.specs.Shares.{PartView, grown, meets}
use Rattle.border_check.proofs.Growing.{grow_one}
use Rattle.border_check.proofs.parts.Part.take.Goals as goal

pub returns : goal.returns
returns c =
    let box = box_of c.args.r.now in
    let x0 : FitsSigned w64 c.args.r.now.x0 = search rules in
    let y0 : FitsSigned w64 c.args.r.now.y0 = search rules in
    let crossed = simp to_z-of_z at c.crosses.ensures in
    let odd = c.differ-self-inside.ensures ∙ rw crossed refl in
    grow_one (meets box) (crosses (corner box)) (map segment_of c.self.inside.edges.items) (map segment_of c.keep_edge.new.edges.items)
    c.self.inside.odd c.differ-self-inside.result (segment_of c.args.edge.now) c.in_ok-keep_edge.ensures odd
    ∙ ap (λ (part : PartView). grown (meets box) (crosses (corner box)) part (segment_of c.args.edge.now ∷ [])) c.self.view_is

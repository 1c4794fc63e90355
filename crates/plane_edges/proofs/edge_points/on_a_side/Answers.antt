use Rattle.std.proofs.Common.{rules, refl, FitsSigned}
use Rattle.std.specs.Int.{w64}
use Rattle.std.proofs.lemmas.Int.{to_z-of_z}
use Rattle.plane_edges.proofs.Truth.{or_after, or_first}
use Rattle.plane_edges.proofs.edge_points.on_a_side.Goals as goal

pub returns-in-Some-at_longitude : goal.returns-in-Some-at_longitude
returns-in-Some-at_longitude c =
    let x0 : FitsSigned w64 c.args.r.now.x0 = search rules in
    or_after _ _ _ c.in_default.ensures
    (or_first _ _ _ _ (simp to_z-of_z at c.in-Some-at_longitude.ensures) refl)

pub returns-in-Some-at_longitude-2 : goal.returns-in-Some-at_longitude-2
returns-in-Some-at_longitude-2 c =
    let x0 : FitsSigned w64 c.args.r.now.x0 = search rules in
    let x1 : FitsSigned w64 c.args.r.now.x1 = search rules in
    or_after _ _ _ c.in_default.ensures
    (or_after _ _ _ (simp to_z-of_z at c.in_default-at_longitude.ensures)
    (or_first _ _ _ _ (simp to_z-of_z at c.in-Some-at_longitude-2.ensures) refl))

pub returns-in-Some-at_latitude : goal.returns-in-Some-at_latitude
returns-in-Some-at_latitude c =
    let x0 : FitsSigned w64 c.args.r.now.x0 = search rules in
    let x1 : FitsSigned w64 c.args.r.now.x1 = search rules in
    let y0 : FitsSigned w64 c.args.r.now.y0 = search rules in
    or_after _ _ _ c.in_default.ensures
    (or_after _ _ _ (simp to_z-of_z at c.in_default-at_longitude.ensures)
    (or_after _ _ _ (simp to_z-of_z at c.in_default-at_longitude-2.ensures)
    (or_first _ _ _ _ (simp to_z-of_z at c.in-Some-at_latitude.ensures) refl)))

pub returns : goal.returns
returns c =
    let x0 : FitsSigned w64 c.args.r.now.x0 = search rules in
    let x1 : FitsSigned w64 c.args.r.now.x1 = search rules in
    let y0 : FitsSigned w64 c.args.r.now.y0 = search rules in
    let y1 : FitsSigned w64 c.args.r.now.y1 = search rules in
    or_after _ _ _ c.in_default.ensures
    (or_after _ _ _ (simp to_z-of_z at c.in_default-at_longitude.ensures)
    (or_after _ _ _ (simp to_z-of_z at c.in_default-at_longitude-2.ensures)
    (or_after _ _ _ (simp to_z-of_z at c.in_default-at_latitude.ensures)
    (simp to_z-of_z at c.at_latitude-2.ensures))))

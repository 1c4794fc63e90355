use Rattle.std.proofs.Common.{FitsSigned, rules, w64}
use Rattle.std.proofs.lemmas.Int.{to_z-of_z}
use Rattle.cell_judge.proofs.TileLemmas.{is_tile}
use Rattle.cell_judge.proofs.tiles.seat_of.Goals as goal

pub returns : goal.returns
returns c =
    let root_x : FitsSigned w64 c.args.root.now.x = search rules in
    let root_y : FitsSigned w64 c.args.root.now.y = search rules in
    let cell_x : FitsSigned w64 c.args.cell.now.x = search rules in
    let cell_y : FitsSigned w64 c.args.cell.now.y = search rules in
    is_tile c.args.root.now c.args.cell.now c.in_ok-column.column c.in_ok-row.row _ _
    c.in_ok-column.ensures (simp to_z-of_z at c.distance.ensures) c.in_ok-row.ensures (simp to_z-of_z at c.distance-2.ensures)

use Rattle.std.proofs.Common.{◌≡◌, arith, to_z, of_z, w64, ◌+ℤ◌}
use Rattle.std.proofs.lemmas.Int.{ints}
use Rattle.cell_split.specs.Split.{half}
use Rattle.cell_split.proofs.CellLemmas.{cell_limits}
use Rattle.cell_split.proofs.split.quarters.Goals as goal

pub returns : goal.returns
returns c =
    let cell = c.args.c.now in
    let limits = cell_limits cell c.requires.cell in
    let x : to_z w64 (of_z w64 cell.x) ≡ cell.x = omega (arith, ints) in
    let y : to_z w64 (of_z w64 cell.y) ≡ cell.y = omega (arith, ints) in
    let east : to_z w64 (of_z w64 (to_z w64 (of_z w64 cell.x) +ℤ to_z w64 (of_z w64 c.side_of-side.result))) ≡ cell.x +ℤ half cell = omega (arith, ints) in
    let north : to_z w64 (of_z w64 (to_z w64 (of_z w64 cell.y) +ℤ to_z w64 (of_z w64 c.side_of-side.result))) ≡ cell.y +ℤ half cell = omega (arith, ints) in
    cc

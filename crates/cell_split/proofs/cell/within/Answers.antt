use Rattle.std.proofs.Common.{◌≡◌, ◌-ℤ◌, ◌^◌, ℕ, ap, arith, refl, to_z, of_z, w64}
use Rattle.std.proofs.lemmas.Bool.{false≢true}
use Rattle.std.proofs.lemmas.Int.{ints}
use Rattle.cell_split.specs.Cells.{side}
use Rattle.cell_split.proofs.CellLemmas.{IsCellOf-from, IsCellOf-room}
use Rattle.cell_split.proofs.cell.within.Goals as goal

pub returns-then-in_width : goal.returns-then-in_width
returns-then-in_width c =
    let cell = c.args.c.now in
    let root = c.args.root.now in
    let root_side : 2 ^ root.size ≡ 2 ^ 29 = ap (λ (n : ℕ). 2 ^ n) c.requires.size in
    let room : to_z w64 (of_z w64 (to_z w64 (of_z w64 c.side_of.result) -ℤ to_z w64 (of_z w64 c.side_of-2.result))) ≡ side root -ℤ side cell = omega (arith, ints) in
    let x = c.if-in_width.ensures.0 refl in (
      λ h. let y = c.lies_from-in_height.ensures.0 h in
          IsCellOf-from root cell (side root -ℤ side cell) c.requires (c.if-not-is_formed.ensures.0 refl) refl
          (omega (arith, ints, x.0)) (omega (arith, ints, x.1)) (omega (arith, ints, y.0)) (omega (arith, ints, y.1)),
      λ h. let fits = IsCellOf-room root cell (side root -ℤ side cell) refl h in
          c.lies_from-in_height.ensures.1 (omega (arith, ints), omega (arith, ints, fits.1)),
    )

pub returns-else-in_width : goal.returns-else-in_width
returns-else-in_width c =
    let cell = c.args.c.now in
    let root = c.args.root.now in
    let root_side : 2 ^ root.size ≡ 2 ^ 29 = ap (λ (n : ℕ). 2 ^ n) c.requires.size in
    let room : to_z w64 (of_z w64 (to_z w64 (of_z w64 c.side_of.result) -ℤ to_z w64 (of_z w64 c.side_of-2.result))) ≡ side root -ℤ side cell = omega (arith, ints) in (
      λ h. absurd (false≢true (rw c.if-in_width.false at h)),
      λ h. let fits = IsCellOf-room root cell (side root -ℤ side cell) refl h in
          c.lies_from-in_width.ensures.1 (omega (arith, ints), omega (arith, ints, fits.0)),
    )

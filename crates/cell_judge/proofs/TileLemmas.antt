-- The tiles of a root: their arithmetic, and the tables of the places that are named for them.
use Rattle.std.proofs.Common.{◌≡◌, ℕ, ◌+◌, ◌-◌, ◌*◌, ◌/◌, ◌^◌, ◌<◌, ◌≤◌, List, [], ◌∷◌, length, sym, ap, ◌∙◌, arith}
use Rattle.std.specs.Prelude.{ℤ, pos, ◌+ℤ◌, ◌-ℤ◌, ◌≤ℤ◌, min}
use Rattle.std.proofs.Math.Nat.{lt_of_mul-lt-mul_right, mul-le-mul_right}
use Rattle.std.proofs.lemmas.Int.{ints}
use Rattle.std.proofs.lemmas.Nat.{pow-add, pow_pos, div-add-mod'}
use Rattle.ring_survey.specs.Extent.{least, greatest}
use Rattle.ring_survey.proofs.Reach.{all_in}
use Rattle.cell_split.specs.declared.cell.Cell.{Cell}
use Rattle.cell_split.specs.Cells.{side}
use Rattle.cell_split.specs.Laws.{box_of}
use Rattle.cell_judge.specs.Tiles.{parts, tile}

-- the tiles of a row make the root's side
row_is_whole : (size : ℕ) → size ≤ 29 → 2 ^ (29 - size) * 2 ^ size ≡ 2 ^ 29
row_is_whole size h =
    let all : (29 - size) + size ≡ 29 = omega arith in
    sym (pow-add 2 (29 - size) size) ∙ ap (λ (n : ℕ). 2 ^ n) all

-- a part that begins within a length that is shorter than the side ends within the side
pub part_ends : (length size part : ℕ) → length < 2 ^ 29 → size ≤ 29 → part < parts length size → part * 2 ^ size + 2 ^ size ≤ 2 ^ 29
part_ends length size part short h known =
    let whole = row_is_whole size h in
    let quotient = div-add-mod' length (2 ^ size) in
    let begins = mul-le-mul_right (2 ^ size) (let k : part ≤ length / 2 ^ size = omega arith in k) in
    let inside : part * 2 ^ size < 2 ^ (29 - size) * 2 ^ size = omega (arith, whole, quotient, begins) in
    let fewer : part < 2 ^ (29 - size) = lt_of_mul-lt-mul_right (2 ^ size) inside in
    let next = mul-le-mul_right (2 ^ size) fewer in
    omega (arith, whole, next)

-- a part of the side that begins none of a length begins beyond it
pub part_beyond : (length size part : ℕ) → parts (min length (2 ^ 29 - 1)) size ≤ part → part * 2 ^ size + 2 ^ size ≤ 2 ^ 29 → length < part * 2 ^ size
part_beyond length size part late ends =
    let some = pow_pos size in
    let quotient = div-add-mod' (min length (2 ^ 29 - 1)) (2 ^ size) in
    let after = mul-le-mul_right (2 ^ size) late in
    omega (arith, quotient, after)

-- the cell in a column and a row has the box of their tile
pub is_tile : (root cell : Cell) (column row east north : ℕ)
    → column * 2 ^ cell.size ≡ east → pos east ≡ cell.x -ℤ root.x → row * 2 ^ cell.size ≡ north → pos north ≡ cell.y -ℤ root.y
    → box_of cell ≡ box_of (tile root cell.size column row)
is_tile root cell column row east north column_is east_is row_is north_is =
    let x : cell.x ≡ root.x +ℤ pos (column * 2 ^ cell.size) = omega (arith, ints, column_is, east_is) in
    let y : cell.y ≡ root.y +ℤ pos (row * 2 ^ cell.size) = omega (arith, ints, row_is, north_is) in
    λ i. record { x0 = x i; x1 = x i +ℤ side cell; y0 = y i; y1 = y i +ℤ side cell }

-- of the numbers of a list the least is at most the greatest
pub least_at_most : (zs : List ℤ) → least zs ≤ℤ greatest zs
least_at_most [] = omega (arith, ints)
least_at_most (z ∷ zs) = let all = all_in (z ∷ zs) in omega (arith, ints, all.0, all.1)

-- Where the cells of roots lie.
use Rattle.std.proofs.Common.{◌≡◌, ℕ, ◌^◌, ◌≤◌, ℤ, pos, neg_ℤ, ◌+ℤ◌, ◌-ℤ◌, ◌≤ℤ◌, ap, arith}
use Rattle.std.proofs.lemmas.Int.{ints}
use Rattle.cell_split.specs.declared.cell.Cell.{Cell}
use Rattle.cell_split.specs.Cells.{IsCell, IsCellOf, IsFormed, IsRoot, side}

-- the box lies within the limits of all roots, and the ranks within a frame
pub record IsInLimits (c : Cell) : Type 0 where
  pub west : neg_ℤ (pos 46080000000) ≤ℤ c.x
  pub east : (c.x +ℤ side c) ≤ℤ pos 46616870912
  pub south : neg_ℤ (pos 8320000000) ≤ℤ c.y
  pub north : (c.y +ℤ side c) ≤ℤ pos 8856870912
  pub last : c.last ≤ 720

pub cell_limits : (c : Cell) → IsCell c → IsInLimits c
cell_limits c h =
    let root_side : 2 ^ h.root.size ≡ 2 ^ 29 = ap (λ (n : ℕ). 2 ^ n) h.is_root.size in
    record {
      west = omega (arith, ints);
      east = omega (arith, ints);
      south = omega (arith, ints);
      north = omega (arith, ints);
      last = omega arith;
    }

-- a box lies in a root's exactly where its corner is no farther from the root's corner than the sides leave room
pub IsCellOf-from : (root c : Cell) (room : ℤ) → IsRoot root → IsFormed c → room ≡ side root -ℤ side c → root.x ≤ℤ c.x → c.x ≤ℤ (root.x +ℤ room) → root.y ≤ℤ c.y → c.y ≤ℤ (root.y +ℤ room) → IsCellOf root c
IsCellOf-from root c room r f e west east south north = record {
  formed = f;
  inside = record {
    west = west;
    east = omega (arith, ints);
    south = south;
    north = omega (arith, ints);
    first = omega arith;
    last = omega arith;
  };
}

pub IsCellOf-room : (root c : Cell) (room : ℤ) → room ≡ side root -ℤ side c → IsCellOf root c → (c.x ≤ℤ (root.x +ℤ room)) × (c.y ≤ℤ (root.y +ℤ room))
IsCellOf-room root c room e h = (omega (arith, ints), omega (arith, ints))

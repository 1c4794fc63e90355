-- What the test of a root's cell says.
use Rattle.std.proofs.Common.{◌≡◌, ◌↔◌, ◌≤◌, Bool, IsTrue, true, false, refl, sym, arith, ◌+ℤ◌}
use Rattle.std.specs.Prelude.{◌&&◌, nat_le, int_le}
use Rattle.std.proofs.lemmas.Bool.{false≢true}
use Rattle.std.proofs.lemmas.Bool.Decides.{nat_tests}
use Rattle.plane_edges.proofs.Truth.{and_left, and_right, and_true, is_le, le_true}
use Rattle.cell_split.specs.declared.cell.Cell.{Cell}
use Rattle.cell_split.specs.Cells.{IsCellOf, IsFormed, LiesIn, side}
use Rattle.covering_check.specs.Cells.{is_cell_of, is_formed, lies_in}

nat_le_true : (m n : _) → m ≤ n → nat_le m n ≡ true
nat_le_true m n h = grind (arith, nat_tests)

is_nat_le : (m n : _) → nat_le m n ≡ true → m ≤ n
is_nat_le m n h = grind (arith, nat_tests)

formed_is : (c : Cell) → is_formed c ≡ true → IsFormed c
formed_is c h =
    let sizes = and_left (nat_le 4 c.size && nat_le c.size 29) (nat_le c.first c.last && nat_le c.last 720) h in
    let ranks = and_right (nat_le 4 c.size && nat_le c.size 29) (nat_le c.first c.last && nat_le c.last 720) h in
    record {
      not_small = is_nat_le 4 c.size (and_left (nat_le 4 c.size) (nat_le c.size 29) sizes);
      not_large = is_nat_le c.size 29 (and_right (nat_le 4 c.size) (nat_le c.size 29) sizes);
      ordered = is_nat_le c.first c.last (and_left (nat_le c.first c.last) (nat_le c.last 720) ranks);
      in_frame = is_nat_le c.last 720 (and_right (nat_le c.first c.last) (nat_le c.last 720) ranks);
    }

inside_is : (root c : Cell) → lies_in root c ≡ true → LiesIn root c
inside_is root c h =
    let w = int_le root.x c.x in
    let e = int_le (c.x +ℤ side c) (root.x +ℤ side root) in
    let s = int_le root.y c.y in
    let n = int_le (c.y +ℤ side c) (root.y +ℤ side root) in
    let f = nat_le root.first c.first in
    let l = nat_le c.last root.last in
    let box = and_left ((w && e) && (s && n)) (f && l) h in
    let ranks = and_right ((w && e) && (s && n)) (f && l) h in
    record {
      west = is_le root.x c.x (and_left w e (and_left (w && e) (s && n) box));
      east = is_le (c.x +ℤ side c) (root.x +ℤ side root) (and_right w e (and_left (w && e) (s && n) box));
      south = is_le root.y c.y (and_left s n (and_right (w && e) (s && n) box));
      north = is_le (c.y +ℤ side c) (root.y +ℤ side root) (and_right s n (and_right (w && e) (s && n) box));
      first = is_nat_le root.first c.first (and_left f l ranks);
      last = is_nat_le c.last root.last (and_right f l ranks);
    }

pub cell_is : (root c : Cell) → is_cell_of root c ≡ true → IsCellOf root c
unfolding is_cell_of
cell_is root c h =
    record { formed = formed_is c (and_left (is_formed c) (lies_in root c) h); inside = inside_is root c (and_right (is_formed c) (lies_in root c) h) }

formed_true : (c : Cell) → IsFormed c → is_formed c ≡ true
formed_true c h =
    and_true (nat_le 4 c.size && nat_le c.size 29) (nat_le c.first c.last && nat_le c.last 720)
    (and_true (nat_le 4 c.size) (nat_le c.size 29) (nat_le_true 4 c.size h.not_small) (nat_le_true c.size 29 h.not_large))
    (and_true (nat_le c.first c.last) (nat_le c.last 720) (nat_le_true c.first c.last h.ordered) (nat_le_true c.last 720 h.in_frame))

inside_true : (root c : Cell) → LiesIn root c → lies_in root c ≡ true
inside_true root c h =
    let w = int_le root.x c.x in
    let e = int_le (c.x +ℤ side c) (root.x +ℤ side root) in
    let s = int_le root.y c.y in
    let n = int_le (c.y +ℤ side c) (root.y +ℤ side root) in
    let f = nat_le root.first c.first in
    let l = nat_le c.last root.last in
    and_true ((w && e) && (s && n)) (f && l)
    (and_true (w && e) (s && n)
    (and_true w e (le_true root.x c.x h.west) (le_true (c.x +ℤ side c) (root.x +ℤ side root) h.east))
    (and_true s n (le_true root.y c.y h.south) (le_true (c.y +ℤ side c) (root.y +ℤ side root) h.north)))
    (and_true f l (nat_le_true root.first c.first h.first) (nat_le_true c.last root.last h.last))

pub cell_true : (root c : Cell) → IsCellOf root c → is_cell_of root c ≡ true
unfolding is_cell_of
cell_true root c h =
    and_true (is_formed c) (lies_in root c) (formed_true c h.formed) (inside_true root c h.inside)

pub cell_test : (root c : Cell) (b : Bool) → (IsTrue b ↔ IsCellOf root c) → b ≡ is_cell_of root c
cell_test root c true h = sym (cell_true root c (h.0 refl))
cell_test root c false h = by (is_cell_of root c) refl
  where
    by : (t : Bool) → is_cell_of root c ≡ t → false ≡ t
    by true e = absurd (false≢true (h.1 (cell_is root c e)))
    by false e = refl

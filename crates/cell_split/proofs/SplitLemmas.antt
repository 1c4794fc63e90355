-- What a cell is split into.
use Rattle.std.proofs.Common.{◌≡◌, ℕ, zero, suc, ◌+◌, ◌-◌, ◌*◌, ◌^◌, ◌<◌, ◌≤◌, eq-eqb, ℤ, pos, ◌+ℤ◌, ◌*ℤ◌, ◌≤ℤ◌, Bool, true, false, cond, ◌⊎◌, inl, inr, refl, sym, ap, ◌∙◌, arith}
use Rattle.std.specs.Prelude.{take, nat_lt, ◌&&◌, ◌==◌}
use Rattle.std.proofs.Math.Nat.{pow-suc}
use Rattle.std.proofs.lemmas.Bool.{cases_lt, false≢true}
use Rattle.std.proofs.lemmas.Bool.Decides.{nat_tests}
use Rattle.std.proofs.lemmas.Int.{ints, by_lt_z}
use Rattle.plane_edges.specs.Plane.{Place}
use Rattle.cell_split.specs.declared.cell.Cell.{Cell}
use Rattle.cell_split.specs.declared.cell.Children.{Children}
use Rattle.cell_split.specs.Cells.{IsFormed, LiesIn, is_smallest, side}
use Rattle.cell_split.specs.Laws.{AreApart, Covers, east, later, south, west}
use Rattle.cell_split.specs.Split.{at_ranks, children_of, half, halves, is_long, middle, none, quarter, quarters, rank_count, split}
use Rattle.cell_split.specs.Tree.{levels}
use Rattle.cell_split.proofs.Every.{Every, Pairs, Somewhere, by_test}

-- a cell is divided by its ranks, or in place, or not at all
pub by_split : (P : Children → Type 0) (c : Cell) → (is_long c ≡ true → P (halves c)) → (is_long c ≡ false → nat_lt 4 c.size ≡ true → P (quarters c)) → (is_long c ≡ false → nat_lt 4 c.size ≡ false → P (none c)) → P (split c)
unfolding split
by_split P c long large small =
    by_test P (is_long c) (halves c) (cond (nat_lt 4 c.size) (quarters c) (none c)) long
    (λ e. by_test P (nat_lt 4 c.size) (quarters c) (none c) (large e) (small e))

and_both : (a b : Bool) → (a && b) ≡ true → (a ≡ true) × (b ≡ true)
and_both true b h = (refl, h)
and_both false b h = absurd (false≢true h)

-- what a cell that is divided by its ranks has
pub long_ranks : (c : Cell) → is_long c ≡ true → c.first < c.last
long_ranks c h =
    let several : 1 < rank_count c = grind (arith, nat_tests, (and_both (nat_lt 1 (rank_count c)) _ h).0) in
    omega arith

-- a cell that isn't divided by its ranks is large, or smallest
pub large_size : (c : Cell) → nat_lt 4 c.size ≡ true → 4 < c.size
large_size c h = grind (arith, nat_tests)

pub small_size : (c : Cell) → nat_lt 4 c.size ≡ false → c.size ≤ 4
small_size c h = grind (arith, nat_tests)

-- the side is twice its half
pub side_halves : (c : Cell) → 4 < c.size → side c ≡ half c +ℤ half c
side_halves c l = ap pos (by_size c.size (omega arith))
  where
    by_size : (n : ℕ) → 0 < n → 2 ^ n ≡ 2 ^ (n - 1) + 2 ^ (n - 1)
    by_size zero h = absurd (omega arith)
    by_size (suc k) h = let e : suc k - 1 ≡ k = omega arith in rw (e, pow-suc) (omega arith)

pub levels_fall : (c : Cell) → Every (λ d. levels d < levels c) (children_of c)
levels_fall c =
    by_split (λ s. Every (λ d. levels d < levels c) (take s.count s.cells)) c
    (λ e. let l = long_ranks c e in (omega arith, (omega arith, tt)))
    (λ e k. let l : 4 < c.size = grind (arith, nat_tests) in (omega arith, (omega arith, (omega arith, (omega arith, tt)))))
    (λ e k. tt)

-- a cell lies in itself, and what lies in a part lies in the whole
pub LiesIn_refl : (c : Cell) → LiesIn c c
LiesIn_refl c = record { west = omega (arith, ints); east = omega (arith, ints); south = omega (arith, ints); north = omega (arith, ints); first = omega arith; last = omega arith }

pub LiesIn_trans : (a b c : Cell) → LiesIn a b → LiesIn b c → LiesIn a c
LiesIn_trans a b c h k = record { west = omega (arith, ints); east = omega (arith, ints); south = omega (arith, ints); north = omega (arith, ints); first = omega arith; last = omega arith }

-- a child: formed, and in its parent
abbrev pub IsPart : Cell → Cell → Type 0
IsPart c d = IsFormed d × LiesIn c d

ranks_part : (c : Cell) (first last : ℕ) → IsFormed c → c.first ≤ first → first ≤ last → last ≤ c.last → IsPart c (at_ranks c first last)
ranks_part c first last f a b d =
    let formed : IsFormed (at_ranks c first last) = record { not_small = f.not_small; not_large = f.not_large; ordered = b; in_frame = omega arith } in
    let inside : LiesIn c (at_ranks c first last) = record { west = omega (arith, ints); east = omega (arith, ints); south = omega (arith, ints); north = omega (arith, ints); first = a; last = d } in
    (formed, inside)

quarter_part : (c : Cell) (x y : ℤ) → IsFormed c → 4 < c.size → c.x ≤ℤ x → x ≤ℤ (c.x +ℤ half c) → c.y ≤ℤ y → y ≤ℤ (c.y +ℤ half c) → IsPart c (quarter c x y)
quarter_part c x y f l a b p q =
    let whole : side c ≡ half c +ℤ half c = side_halves c l in
    let formed : IsFormed (quarter c x y) = record { not_small = omega arith; not_large = omega arith; ordered = f.ordered; in_frame = f.in_frame } in
    let inside : LiesIn c (quarter c x y) = record { west = a; east = omega (arith, ints); south = p; north = omega (arith, ints); first = omega arith; last = omega arith } in
    (formed, inside)

pub children_parts : (c : Cell) → IsFormed c → Every (IsPart c) (children_of c)
children_parts c f =
    by_split (λ s. Every (IsPart c) (take s.count s.cells)) c
    (λ e. let l = long_ranks c e in (
      ranks_part c (middle c) c.last f (omega arith) (omega arith) (omega arith),
      (ranks_part c c.first (middle c - 1) f (omega arith) (omega arith) (omega arith), tt),
    ))
    (λ e k. let l = large_size c k in (
      quarter_part c c.x c.y f l (omega (arith, ints)) (omega (arith, ints)) (omega (arith, ints)) (omega (arith, ints)),
      (
        quarter_part c (c.x +ℤ half c) c.y f l (omega (arith, ints)) (omega (arith, ints)) (omega (arith, ints)) (omega (arith, ints)),
        (
          quarter_part c c.x (c.y +ℤ half c) f l (omega (arith, ints)) (omega (arith, ints)) (omega (arith, ints)) (omega (arith, ints)),
          (quarter_part c (c.x +ℤ half c) (c.y +ℤ half c) f l (omega (arith, ints)) (omega (arith, ints)) (omega (arith, ints)) (omega (arith, ints)), tt),
        ),
      ),
    ))
    (λ e k. tt)

-- two children are apart
pub children_apart : (c : Cell) → IsFormed c → Pairs AreApart (children_of c)
children_apart c f =
    by_split (λ s. Pairs AreApart (take s.count s.cells)) c
    (λ e. let l = long_ranks c e in ((later (omega arith), tt), (tt, tt)))
    (λ e k. (
      (west (omega (arith, ints)), (south (omega (arith, ints)), (west (omega (arith, ints)), tt))),
      (
        (east (omega (arith, ints)), (south (omega (arith, ints)), tt)),
        (
          (west (omega (arith, ints)), tt),
          (tt, tt),
        ),
      ),
    ))
    (λ e k. tt)

-- what lies between two ends lies in one half or the other; d is a place's denominator
halves_cover : (x s h d a : ℤ) → s ≡ h +ℤ h → (x *ℤ d) ≤ℤ a → a ≤ℤ ((x +ℤ s) *ℤ d) → ((x *ℤ d) ≤ℤ a × a ≤ℤ ((x +ℤ h) *ℤ d)) ⊎ (((x +ℤ h) *ℤ d) ≤ℤ a × a ≤ℤ (((x +ℤ h) +ℤ h) *ℤ d))
halves_cover x s h d a e low high =
    let whole : x +ℤ s ≡ (x +ℤ h) +ℤ h = omega (arith, ints) in
    by_lt_z a ((x +ℤ h) *ℤ d) (λ k. inl (low, omega (arith, ints))) (λ k. inr (k, rw (← whole) high))

quarters_cover : (c : Cell) (p : Place) (rank : ℕ) → 4 < c.size → Covers p rank c → Somewhere (Covers p rank) (take (quarters c).count (quarters c).cells)
quarters_cover c p rank l h =
    let e = side_halves c l in
    elim (halves_cover c.x (side c) (half c) p.d p.a e h.in_box.west h.in_box.east) [
      | inl x ↦ elim (halves_cover c.y (side c) (half c) p.d p.b e h.in_box.south h.in_box.north) [
        | inl y ↦ inl (record { in_box = record { positive = h.in_box.positive; west = x.0; east = x.1; south = y.0; north = y.1 }; from_first = h.from_first; to_last = h.to_last })
        | inr y ↦ inr (inr (inl (record { in_box = record { positive = h.in_box.positive; west = x.0; east = x.1; south = y.0; north = y.1 }; from_first = h.from_first; to_last = h.to_last })))
      ]
      | inr x ↦ elim (halves_cover c.y (side c) (half c) p.d p.b e h.in_box.south h.in_box.north) [
        | inl y ↦ inr (inl (record { in_box = record { positive = h.in_box.positive; west = x.0; east = x.1; south = y.0; north = y.1 }; from_first = h.from_first; to_last = h.to_last }))
        | inr y ↦ inr (inr (inr (inl (record { in_box = record { positive = h.in_box.positive; west = x.0; east = x.1; south = y.0; north = y.1 }; from_first = h.from_first; to_last = h.to_last }))))
      ]
    ]

and_true : (a b : Bool) → a ≡ true → b ≡ true → (a && b) ≡ true
and_true true b e k = k
and_true false b e k = e

-- a small box with several ranks is divided by them
long_again : (c : Cell) → c.first < c.last → 2 ^ c.size ≤ 16 → is_long c ≡ true
long_again c l small =
    and_true (nat_lt 1 (rank_count c)) (nat_lt (2 ^ c.size) (rank_count c * 2 ^ 25)) (grind (arith, nat_tests)) (grind (arith, nat_tests))

-- a cell that has no children is smallest
pub smallest_is : (c : Cell) → IsFormed c → is_long c ≡ false → nat_lt 4 c.size ≡ false → is_smallest c ≡ true
smallest_is c f e k =
    let size : c.size ≡ 4 = omega (arith, small_size c k) in
    let one : c.first ≡ c.last =
    elim (cases_lt c.first c.last) [
      | inl l ↦ absurd (false≢true (sym e ∙ long_again c l (omega (arith, ap (λ (n : ℕ). 2 ^ n) size))))
      | inr l ↦ omega (arith, f.ordered)
    ] in
    and_true (c.size == 4) (c.first == c.last) (eq-eqb c.size 4 size) (eq-eqb c.first c.last one)

pub children_cover : (c : Cell) → IsFormed c → is_smallest c ≡ false → (p : Place) (rank : ℕ) → Covers p rank c → Somewhere (Covers p rank) (children_of c)
children_cover c f many p rank h =
    by_split (λ s. Somewhere (Covers p rank) (take s.count s.cells)) c
    (λ e. let l = long_ranks c e in elim (cases_lt rank (middle c)) [
      | inl k ↦ inr (inl (record { in_box = h.in_box; from_first = h.from_first; to_last = omega arith }))
      | inr k ↦ inl (record { in_box = h.in_box; from_first = k; to_last = h.to_last })
    ])
    (λ e k. quarters_cover c p rank (large_size c k) h)
    (λ e k. absurd (false≢true (sym many ∙ smallest_is c f e k)))

-- a cell that has four children is divided in place
pub quartered : (c : Cell) → (split c).count ≡ 4 → split c ≡ quarters c
quartered c =
    by_split (λ s. s.count ≡ 4 → s ≡ quarters c) c
    (λ e h. absurd (omega (arith, h)))
    (λ e k h. refl)
    (λ e k h. absurd (omega (arith, h)))

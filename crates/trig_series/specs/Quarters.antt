-- How a range of angles is cut into pieces within 45 degrees of zero. Angles are in angle units, of which 144,000,000,000 make one degree.
-- Quarter c reaches from 90c - 45 to 90c + 45 degrees, both ends included, so the point on a seam belongs to two quarters.
use Rattle.std.specs.Prelude.{ℕ, zero, suc, ℤ, pos, neg_ℤ, ◌+ℤ◌, ◌-ℤ◌, ◌*ℤ◌, ◌≤ℤ◌}
use Rattle.std.specs.Int.{int_min, int_max, int_gap}
use Rattle.fixed_interval.specs.Fraction.{Fraction, ◌≤ᶠ◌, over, plus, times, least, greatest, floor_at, ceil_at}
use Rattle.fixed_interval.specs.Enclosure.{Enclosure, hull}
use Rattle.fixed_interval.specs.Grid.{Ends, Range, grid_hull}

-- 45, 90 and 180 degrees
abbrev pub eighth_turn : ℕ
eighth_turn = 6_480_000_000_000

abbrev pub quarter_turn : ℕ
quarter_turn = 12_960_000_000_000

abbrev pub half_turn : ℕ
half_turn = 25_920_000_000_000

-- the first quarter that ends at the angle or beyond it
unfoldable pub first_quarter : Fraction → ℤ
first_quarter angle = ceil_at 1 (times (plus angle (over (neg_ℤ (pos eighth_turn)) 1)) (over (pos 1) quarter_turn))

-- the last quarter that begins at the angle or before it
unfoldable pub last_quarter : Fraction → ℤ
last_quarter angle = floor_at 1 (times (plus angle (over (pos eighth_turn) 1)) (over (pos 1) quarter_turn))

-- the angle less 90c degrees
unfoldable pub turned_back : ℤ → Fraction → Fraction
turned_back c angle = plus angle (over (neg_ℤ (pos quarter_turn *ℤ c)) 1)

-- the part of the range in quarter c, turned back
unfoldable pub piece : Enclosure → ℤ → Enclosure
piece range c = record {
  lo = greatest (turned_back c range.lo) (over (neg_ℤ (pos eighth_turn)) 1);
  hi = least (turned_back c range.hi) (over (pos eighth_turn) 1);
}

-- quarter c and the range have a point in common
pub record IsMet (range : Enclosure) (c : ℤ) : Type 0 where
  pub begins_in_time : over (neg_ℤ (pos eighth_turn)) 1 ≤ᶠ turned_back c range.hi
  pub ends_in_time : turned_back c range.lo ≤ᶠ over (pos eighth_turn) 1

-- the hull of what f gives at the whole numbers from c to c + n
unfoldable pub hull_from : (ℤ → Enclosure) → ℤ → ℕ → Enclosure
hull_from f c zero = f c
hull_from f c (suc n) = hull (hull_from f c n) (f (c +ℤ pos (suc n)))

-- the hull of what f gives at each quarter that the range meets
unfoldable pub over_quarters : (ℤ → Enclosure) → Enclosure → Enclosure
over_quarters f range = let first = first_quarter range.lo in hull_from f first (int_gap first (last_quarter range.hi))

-- ---- the same on the grid, for a range between whole units

-- quarter c and the range have a point in common
pub record Meets (range : Range) (c : ℤ) : Type 0 where
  pub begins_in_time : (pos quarter_turn *ℤ c) ≤ℤ (range.hi +ℤ pos eighth_turn)
  pub ends_in_time : (range.lo -ℤ pos eighth_turn) ≤ℤ (pos quarter_turn *ℤ c)

unfoldable pub grid_piece : Range → ℤ → Range
grid_piece range c = record {
  lo = int_max (range.lo -ℤ (pos quarter_turn *ℤ c)) (neg_ℤ (pos eighth_turn));
  hi = int_min (range.hi -ℤ (pos quarter_turn *ℤ c)) (pos eighth_turn);
}

unfoldable pub grid_hull_from : (ℤ → Ends) → ℤ → ℕ → Ends
grid_hull_from f c zero = f c
grid_hull_from f c (suc n) = grid_hull (grid_hull_from f c n) (f (c +ℤ pos (suc n)))

unfoldable pub grid_over_quarters : (ℤ → Ends) → Range → Ends
grid_over_quarters f range = let first = first_quarter (over range.lo 1) in grid_hull_from f first (int_gap first (last_quarter (over range.hi 1)))

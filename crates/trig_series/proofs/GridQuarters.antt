-- Quarters and pieces on the grid: they hold the exact ones, and those of a narrower range lie in those of a wider one.
use Rattle.std.proofs.Common.{◌≡◌, ℕ, zero, suc, ℤ, pos, neg_ℤ, ◌+ℤ◌, ◌-ℤ◌, ◌*ℤ◌, ◌≤ℤ◌, arith, sym, subst}
use Rattle.std.specs.Int.{int_gap, int_min, int_max}
use Rattle.std.proofs.lemmas.Int.{ints, clamps, by_lt_z}
use Rattle.fixed_interval.specs.Fraction.{Fraction, ◌≤ᶠ◌, over, plus}
use Rattle.fixed_interval.specs.Enclosure.{Enclosure, IsOrdered, LiesIn}
use Rattle.fixed_interval.specs.Grid.{Ends, Range, enclosure_of, enclosure_of_range, grid_hull}
use Rattle.fixed_interval.proofs.FractionLaws.{≤ᶠ_trans, least_left, least_right, greatest_left, greatest_right}
use Rattle.fixed_interval.proofs.EnclosureLaws.{LiesIn_trans, hull_left, hull_right}
use Rattle.fixed_interval.proofs.GridLaws.{grid_hull-is}
use Rattle.fixed_interval.proofs.Inclusion.{ends_lie, lower_end, upper_end, rounded_out_holds, ranges_lie, range_ordered, grid_hull_ordered}
use Rattle.trig_series.specs.Quarters.{eighth_turn, quarter_turn, first_quarter, last_quarter, turned_back, piece, over_quarters, grid_piece, grid_hull_from, grid_over_quarters}
use Rattle.trig_series.proofs.QuarterLaws.{int_gap-is, begins_in_time, ends_in_time}
use Rattle.trig_series.proofs.ExactQuarters.{first_quarter_mono, last_quarter_mono, piece_mono, over_quarters_below}

-- ---- pieces
over_int_max : (x y : ℤ) (f : Fraction) → over x 1 ≤ᶠ f → over y 1 ≤ᶠ f → over (int_max x y) 1 ≤ᶠ f
over_int_max x y f h k = by_lt_z x y (λ u. let same : y ≡ int_max x y = omega (arith, ints, clamps, u) in subst (λ (z : ℤ). over z 1 ≤ᶠ f) same k) (λ u. let same : x ≡ int_max x y = omega (arith, ints, clamps, u) in subst (λ (z : ℤ). over z 1 ≤ᶠ f) same h)

over_int_min : (x y : ℤ) (f : Fraction) → f ≤ᶠ over x 1 → f ≤ᶠ over y 1 → f ≤ᶠ over (int_min x y) 1
over_int_min x y f h k = by_lt_z y x (λ u. let same : y ≡ int_min x y = omega (arith, ints, clamps, u) in subst (λ (z : ℤ). f ≤ᶠ over z 1) same k) (λ u. let same : x ≡ int_min x y = omega (arith, ints, clamps, u) in subst (λ (z : ℤ). f ≤ᶠ over z 1) same h)

turned_below : (z c : ℤ) → over (z -ℤ (pos quarter_turn *ℤ c)) 1 ≤ᶠ turned_back c (over z 1)
unfolding turned_back plus over
turned_below z c = record { crossed = omega (arith, ints) }

turned_above : (z c : ℤ) → turned_back c (over z 1) ≤ᶠ over (z -ℤ (pos quarter_turn *ℤ c)) 1
unfolding turned_back plus over
turned_above z c = record { crossed = omega (arith, ints) }

piece_whole : (r : Range) (c : ℤ) → LiesIn (piece (enclosure_of_range r) c) (enclosure_of_range (grid_piece r c))
unfolding piece enclosure_of_range grid_piece
piece_whole r c = record {
  low = over_int_max _ _ _ (≤ᶠ_trans _ _ _ (turned_below r.lo c) (greatest_left _ _)) (greatest_right _ _);
  high = over_int_min _ _ _ (≤ᶠ_trans _ _ _ (least_left _ _) (turned_above r.hi c)) (least_right _ _);
}

pub piece_holds : (a : Enclosure) (r : Range) (c : ℤ) → LiesIn a (enclosure_of_range r) → LiesIn (piece a c) (enclosure_of_range (grid_piece r c))
piece_holds a r c h = LiesIn_trans _ _ _ (piece_mono a (enclosure_of_range r) c h) (piece_whole r c)

lower_of_range : (r s : Range) → LiesIn (enclosure_of_range r) (enclosure_of_range s) → s.lo ≤ℤ r.lo
unfolding enclosure_of_range over
lower_of_range r s h = omega (arith, ints, h.low.crossed)

upper_of_range : (r s : Range) → LiesIn (enclosure_of_range r) (enclosure_of_range s) → r.hi ≤ℤ s.hi
unfolding enclosure_of_range over
upper_of_range r s h = omega (arith, ints, h.high.crossed)

pub grid_piece_mono : (r s : Range) (c : ℤ) → LiesIn (enclosure_of_range r) (enclosure_of_range s) → LiesIn (enclosure_of_range (grid_piece r c)) (enclosure_of_range (grid_piece s c))
unfolding grid_piece
grid_piece_mono r s c h =
    let q = pos quarter_turn *ℤ c in
    let low : (s.lo -ℤ q) ≤ℤ (r.lo -ℤ q) = omega (arith, ints, lower_of_range r s h) in
    let high : (r.hi -ℤ q) ≤ℤ (s.hi -ℤ q) = omega (arith, ints, upper_of_range r s h) in
    ranges_lie _ _ (lower (s.lo -ℤ q) (r.lo -ℤ q) (neg_ℤ (pos eighth_turn)) low) (upper (r.hi -ℤ q) (s.hi -ℤ q) (pos eighth_turn) high)
  where
    lower : (x y z : ℤ) → x ≤ℤ y → int_max x z ≤ℤ int_max y z
    lower x y z h = omega (arith, ints, clamps)

    upper : (x y z : ℤ) → x ≤ℤ y → int_min x z ≤ℤ int_min y z
    upper x y z h = omega (arith, ints, clamps)

pub grid_piece_ordered : (r : Range) (c : ℤ) → r.lo ≤ℤ r.hi → first_quarter (over r.lo 1) ≤ℤ c → c ≤ℤ last_quarter (over r.hi 1) → IsOrdered (enclosure_of_range (grid_piece r c))
unfolding grid_piece
grid_piece_ordered r c o h k =
    let q = pos quarter_turn *ℤ c in
    range_ordered _ (core (r.lo -ℤ q) (r.hi -ℤ q) (omega (arith, ints, ends_in_time r.lo c h)) (omega (arith, ints, begins_in_time r.hi c k)) (omega (arith, ints, o)))
  where
    core : (x y : ℤ) → x ≤ℤ pos eighth_turn → neg_ℤ (pos eighth_turn) ≤ℤ y → x ≤ℤ y → int_max x (neg_ℤ (pos eighth_turn)) ≤ℤ int_min y (pos eighth_turn)
    core x y p q o = omega (arith, ints, clamps)

-- ---- hulls
pub grid_hull_from_holds : (f : ℤ → Ends) (c : ℤ) (n : ℕ) (d : ℤ) (e : Enclosure) → c ≤ℤ d → d ≤ℤ (c +ℤ pos n) → LiesIn e (enclosure_of (f d)) → LiesIn e (enclosure_of (grid_hull_from f c n))
unfolding grid_hull_from grid_hull
grid_hull_from_holds f c zero d e h k l = let same : d ≡ c = omega (arith, ints) in subst (λ (q : ℤ). LiesIn e (enclosure_of (f q))) same l
grid_hull_from_holds f c (suc n) d e h k l = by_lt_z (c +ℤ pos n) d
    (λ u. let same : d ≡ c +ℤ pos (suc n) = omega (arith, ints, u) in rounded_out_holds _ _ (LiesIn_trans _ _ _ (subst (λ (q : ℤ). LiesIn e (enclosure_of (f q))) same l) (hull_right (enclosure_of (grid_hull_from f c n)) (enclosure_of (f (c +ℤ pos (suc n)))))))
    (λ u. rounded_out_holds _ _ (LiesIn_trans _ _ _ (grid_hull_from_holds f c n d e h u l) (hull_left (enclosure_of (grid_hull_from f c n)) (enclosure_of (f (c +ℤ pos (suc n)))))))

grid_hull_least : (a b e : Ends) → LiesIn (enclosure_of a) (enclosure_of e) → LiesIn (enclosure_of b) (enclosure_of e) → LiesIn (enclosure_of (grid_hull a b)) (enclosure_of e)
grid_hull_least a b e h k = subst (λ (x : Ends). LiesIn (enclosure_of x) (enclosure_of e)) (sym (grid_hull-is a b)) (ends_lie _ e (lower a.lo b.lo e.lo (lower_end a e h) (lower_end b e k)) (upper a.hi b.hi e.hi (upper_end a e h) (upper_end b e k)))
  where
    lower : (x y z : ℤ) → z ≤ℤ x → z ≤ℤ y → z ≤ℤ int_min x y
    lower x y z h k = omega (arith, ints, clamps)

    upper : (x y z : ℤ) → x ≤ℤ z → y ≤ℤ z → int_max x y ≤ℤ z
    upper x y z h k = omega (arith, ints, clamps)

pub grid_hull_from_below : (f : ℤ → Ends) (c : ℤ) (n : ℕ) (e : Ends) → ((d : ℤ) → c ≤ℤ d → d ≤ℤ (c +ℤ pos n) → LiesIn (enclosure_of (f d)) (enclosure_of e)) → LiesIn (enclosure_of (grid_hull_from f c n)) (enclosure_of e)
unfolding grid_hull_from
grid_hull_from_below f c zero e h = h c (omega (arith, ints)) (omega (arith, ints))
grid_hull_from_below f c (suc n) e h = grid_hull_least (grid_hull_from f c n) (f (c +ℤ pos (suc n))) e (grid_hull_from_below f c n e (λ d s t. h d s (omega (arith, ints, t)))) (h (c +ℤ pos (suc n)) (omega (arith, ints)) (omega (arith, ints)))

pub grid_hull_from_ordered : (f : ℤ → Ends) (c : ℤ) (n : ℕ) → IsOrdered (enclosure_of (f c)) → IsOrdered (enclosure_of (grid_hull_from f c n))
unfolding grid_hull_from
grid_hull_from_ordered f c zero o = o
grid_hull_from_ordered f c (suc n) o = grid_hull_ordered _ _ (grid_hull_from_ordered f c n o)

pub grid_over_quarters_ordered : (f : ℤ → Ends) (r : Range) → IsOrdered (enclosure_of (f (first_quarter (over r.lo 1)))) → IsOrdered (enclosure_of (grid_over_quarters f r))
unfolding grid_over_quarters
grid_over_quarters_ordered f r o = grid_hull_from_ordered f (first_quarter (over r.lo 1)) (int_gap (first_quarter (over r.lo 1)) (last_quarter (over r.hi 1))) o

pub grid_over_quarters_below : (f : ℤ → Ends) (r : Range) (e : Ends) → first_quarter (over r.lo 1) ≤ℤ last_quarter (over r.hi 1) → ((d : ℤ) → first_quarter (over r.lo 1) ≤ℤ d → d ≤ℤ last_quarter (over r.hi 1) → LiesIn (enclosure_of (f d)) (enclosure_of e)) → LiesIn (enclosure_of (grid_over_quarters f r)) (enclosure_of e)
unfolding grid_over_quarters
grid_over_quarters_below f r e o h = grid_hull_from_below f (first_quarter (over r.lo 1)) (int_gap (first_quarter (over r.lo 1)) (last_quarter (over r.hi 1))) e (λ d t u. h d t (omega (arith, ints, u, int_gap-is (first_quarter (over r.lo 1)) (last_quarter (over r.hi 1)) o)))

pub grid_over_quarters_holds : (f : ℤ → Ends) (r : Range) (d : ℤ) (e : Enclosure) → first_quarter (over r.lo 1) ≤ℤ d → d ≤ℤ last_quarter (over r.hi 1) → LiesIn e (enclosure_of (f d)) → LiesIn e (enclosure_of (grid_over_quarters f r))
unfolding grid_over_quarters
grid_over_quarters_holds f r d e h k l = grid_hull_from_holds f (first_quarter (over r.lo 1)) (int_gap (first_quarter (over r.lo 1)) (last_quarter (over r.hi 1))) d e h (omega (arith, ints, k, int_gap-is (first_quarter (over r.lo 1)) (last_quarter (over r.hi 1)) (omega (arith, ints, h, k)))) l

-- the grid holds the exact
pub over_quarters_held : (f : ℤ → Enclosure) (g : ℤ → Ends) (a : Enclosure) (r : Range) → first_quarter a.lo ≤ℤ last_quarter a.hi → LiesIn a (enclosure_of_range r) → ((d : ℤ) → first_quarter a.lo ≤ℤ d → d ≤ℤ last_quarter a.hi → LiesIn (f d) (enclosure_of (g d))) → LiesIn (over_quarters f a) (enclosure_of (grid_over_quarters g r))
unfolding enclosure_of_range
over_quarters_held f g a r o l h = over_quarters_below f a (enclosure_of (grid_over_quarters g r)) o (λ d s t. grid_over_quarters_holds g r d (f d) (omega (arith, ints, s, first_quarter_mono (over r.lo 1) a.lo l.low)) (omega (arith, ints, t, last_quarter_mono a.hi (over r.hi 1) l.high)) (h d s t))

pub grid_over_quarters_mono : (f g : ℤ → Ends) (r s : Range) → first_quarter (over r.lo 1) ≤ℤ last_quarter (over r.hi 1) → LiesIn (enclosure_of_range r) (enclosure_of_range s) → ((d : ℤ) → first_quarter (over r.lo 1) ≤ℤ d → d ≤ℤ last_quarter (over r.hi 1) → LiesIn (enclosure_of (f d)) (enclosure_of (g d))) → LiesIn (enclosure_of (grid_over_quarters f r)) (enclosure_of (grid_over_quarters g s))
unfolding enclosure_of_range
grid_over_quarters_mono f g r s o l h = grid_over_quarters_below f r (grid_over_quarters g s) o (λ d t u. grid_over_quarters_holds g s d (enclosure_of (f d)) (omega (arith, ints, t, first_quarter_mono (over s.lo 1) (over r.lo 1) l.low)) (omega (arith, ints, u, last_quarter_mono (over r.hi 1) (over s.hi 1) l.high)) (h d t u))

-- Quarters and pieces of ranges with fraction ends: those of a narrower range lie in those of a wider one.
use Rattle.std.proofs.Common.{◌≡◌, ℕ, zero, suc, ◌+◌, ◌*◌, ◌<◌, ℤ, pos, neg_ℤ, ◌+ℤ◌, ◌*ℤ◌, ◌≤ℤ◌, arith, subst, lit≤, lt_of_mul-lt-mul_right}
use Rattle.std.specs.Int.{int_gap, int_div_euclid}
use Rattle.std.proofs.lemmas.Int.{ints, by_lt_z}
use borrow.Author.Differences.{up, down, same_in}
use Rattle.fixed_interval.specs.Fraction.{Fraction, ◌≤ᶠ◌, over, negate, plus, times, floor_at, ceil_at}
use Rattle.fixed_interval.specs.Enclosure.{Enclosure, IsOrdered, LiesIn}
use Rattle.fixed_interval.proofs.Whole.{parts, div-parts}
use Rattle.fixed_interval.proofs.FractionLaws.{≤ᶠ_refl, ≤ᶠ_trans, plus_mono, times_mono, least_right, least_mono, least_above, greatest_right, greatest_mono, greatest_below, floor_below, floor_greatest, floor_mono, ceil_above, ceil_least, ceil_mono, over_mono}
use Rattle.fixed_interval.proofs.EnclosureLaws.{LiesIn_trans, hull_left, hull_right, hull_least, hull_ordered}
use Rattle.trig_series.specs.Quarters.{eighth_turn, quarter_turn, first_quarter, last_quarter, turned_back, piece, IsMet, hull_from, over_quarters}
use Rattle.trig_series.proofs.QuarterLaws.{int_gap-is}

part_positive : (n : ℕ) → pos 0 ≤ℤ (over (pos 1) n).top
unfolding over
part_positive n = lit_positive
  where
    lit_positive : pos 0 ≤ℤ pos 1
    lit_positive = omega (arith, ints)

pub first_quarter_mono : (a b : Fraction) → a ≤ᶠ b → first_quarter a ≤ℤ first_quarter b
unfolding first_quarter
first_quarter_mono a b h =
    let seam = over (neg_ℤ (pos eighth_turn)) 1 in
    ceil_mono 1 _ _ (lit≤ tt) (times_mono (plus a seam) (plus b seam) (over (pos 1) quarter_turn) (plus_mono a b seam seam h (≤ᶠ_refl seam)) (part_positive quarter_turn))

pub last_quarter_mono : (a b : Fraction) → a ≤ᶠ b → last_quarter a ≤ℤ last_quarter b
unfolding last_quarter
last_quarter_mono a b h =
    let seam = over (pos eighth_turn) 1 in
    floor_mono 1 _ _ (lit≤ tt) (times_mono (plus a seam) (plus b seam) (over (pos 1) quarter_turn) (plus_mono a b seam seam h (≤ᶠ_refl seam)) (part_positive quarter_turn))

pub turned_back_mono : (c : ℤ) (a b : Fraction) → a ≤ᶠ b → turned_back c a ≤ᶠ turned_back c b
unfolding turned_back
turned_back_mono c a b h = plus_mono a b _ _ h (≤ᶠ_refl (over (neg_ℤ (pos quarter_turn *ℤ c)) 1))

pub piece_mono : (a b : Enclosure) (c : ℤ) → LiesIn a b → LiesIn (piece a c) (piece b c)
unfolding piece
piece_mono a b c h = record {
  low = greatest_mono (turned_back c b.lo) (turned_back c a.lo) _ _ (turned_back_mono c b.lo a.lo h.low) (≤ᶠ_refl (over (neg_ℤ (pos eighth_turn)) 1));
  high = least_mono (turned_back c a.hi) (turned_back c b.hi) _ _ (turned_back_mono c a.hi b.hi h.high) (≤ᶠ_refl (over (pos eighth_turn) 1));
}

-- ---- a quarter that the range meets has a piece in order
-- c quarters lie at or before the angle and an eighth of a turn
begins_by : (a : Fraction) (c : ℤ) → c ≤ℤ last_quarter a → over c 1 ≤ᶠ times (plus a (over (pos eighth_turn) 1)) (over (pos 1) quarter_turn)
unfolding last_quarter
begins_by a c h = ≤ᶠ_trans _ _ _ (over_mono 1 c (floor_at 1 (times (plus a (over (pos eighth_turn) 1)) (over (pos 1) quarter_turn))) h) (floor_below 1 (times (plus a (over (pos eighth_turn) 1)) (over (pos 1) quarter_turn)) (lit≤ tt))

ends_by : (a : Fraction) (c : ℤ) → first_quarter a ≤ℤ c → times (plus a (over (neg_ℤ (pos eighth_turn)) 1)) (over (pos 1) quarter_turn) ≤ᶠ over c 1
unfolding first_quarter
ends_by a c h = ≤ᶠ_trans _ _ _ (ceil_above 1 (times (plus a (over (neg_ℤ (pos eighth_turn)) 1)) (over (pos 1) quarter_turn)) (lit≤ tt)) (over_mono 1 (ceil_at 1 (times (plus a (over (neg_ℤ (pos eighth_turn)) 1)) (over (pos 1) quarter_turn))) c h)

seam_before : (a : Fraction) (c : ℤ) → over c 1 ≤ᶠ times (plus a (over (pos eighth_turn) 1)) (over (pos 1) quarter_turn) → over (neg_ℤ (pos eighth_turn)) 1 ≤ᶠ turned_back c a
unfolding over times plus turned_back
seam_before a c h = record { crossed = core a.top a.bottom c h.crossed }
  where
    core : (t : ℤ) (b : ℕ) (c : ℤ) → (c *ℤ pos ((b * 1) * quarter_turn)) ≤ℤ ((((t *ℤ pos 1) +ℤ (pos eighth_turn *ℤ pos b)) *ℤ pos 1) *ℤ pos 1) → (neg_ℤ (pos eighth_turn) *ℤ pos (b * 1)) ≤ℤ (((t *ℤ pos 1) +ℤ (neg_ℤ (pos quarter_turn *ℤ c) *ℤ pos b)) *ℤ pos 1)
    core t b c h =
        let turned : neg_ℤ (pos quarter_turn *ℤ c) *ℤ pos b ≡ neg_ℤ (c *ℤ pos ((b * 1) * quarter_turn)) = same_in _ _ (simp parts (omega arith)) in
        rw turned (omega (arith, ints, h))

seam_after : (a : Fraction) (c : ℤ) → times (plus a (over (neg_ℤ (pos eighth_turn)) 1)) (over (pos 1) quarter_turn) ≤ᶠ over c 1 → turned_back c a ≤ᶠ over (pos eighth_turn) 1
unfolding over times plus turned_back
seam_after a c h = record { crossed = core a.top a.bottom c h.crossed }
  where
    core : (t : ℤ) (b : ℕ) (c : ℤ) → ((((t *ℤ pos 1) +ℤ (neg_ℤ (pos eighth_turn) *ℤ pos b)) *ℤ pos 1) *ℤ pos 1) ≤ℤ (c *ℤ pos ((b * 1) * quarter_turn)) → (((t *ℤ pos 1) +ℤ (neg_ℤ (pos quarter_turn *ℤ c) *ℤ pos b)) *ℤ pos 1) ≤ℤ (pos eighth_turn *ℤ pos (b * 1))
    core t b c h =
        let turned : neg_ℤ (pos quarter_turn *ℤ c) *ℤ pos b ≡ neg_ℤ (c *ℤ pos ((b * 1) * quarter_turn)) = same_in _ _ (simp parts (omega arith)) in
        rw turned (omega (arith, ints, h))

-- and the other way round: a quarter that the range meets is one of those from the first to the last
begins : (a : Fraction) (c : ℤ) → over (neg_ℤ (pos eighth_turn)) 1 ≤ᶠ turned_back c a → over c 1 ≤ᶠ times (plus a (over (pos eighth_turn) 1)) (over (pos 1) quarter_turn)
unfolding over times plus turned_back
begins a c h = record { crossed = core a.top a.bottom c h.crossed }
  where
    core : (t : ℤ) (b : ℕ) (c : ℤ) → (neg_ℤ (pos eighth_turn) *ℤ pos (b * 1)) ≤ℤ (((t *ℤ pos 1) +ℤ (neg_ℤ (pos quarter_turn *ℤ c) *ℤ pos b)) *ℤ pos 1) → (c *ℤ pos ((b * 1) * quarter_turn)) ≤ℤ ((((t *ℤ pos 1) +ℤ (pos eighth_turn *ℤ pos b)) *ℤ pos 1) *ℤ pos 1)
    core t b c h =
        let turned : neg_ℤ (pos quarter_turn *ℤ c) *ℤ pos b ≡ neg_ℤ (c *ℤ pos ((b * 1) * quarter_turn)) = same_in _ _ (simp parts (omega arith)) in
        let s = rw turned at h in
        omega (arith, ints, s)

finishes : (a : Fraction) (c : ℤ) → turned_back c a ≤ᶠ over (pos eighth_turn) 1 → times (plus a (over (neg_ℤ (pos eighth_turn)) 1)) (over (pos 1) quarter_turn) ≤ᶠ over c 1
unfolding over times plus turned_back
finishes a c h = record { crossed = core a.top a.bottom c h.crossed }
  where
    core : (t : ℤ) (b : ℕ) (c : ℤ) → (((t *ℤ pos 1) +ℤ (neg_ℤ (pos quarter_turn *ℤ c) *ℤ pos b)) *ℤ pos 1) ≤ℤ (pos eighth_turn *ℤ pos (b * 1)) → ((((t *ℤ pos 1) +ℤ (neg_ℤ (pos eighth_turn) *ℤ pos b)) *ℤ pos 1) *ℤ pos 1) ≤ℤ (c *ℤ pos ((b * 1) * quarter_turn))
    core t b c h =
        let turned : neg_ℤ (pos quarter_turn *ℤ c) *ℤ pos b ≡ neg_ℤ (c *ℤ pos ((b * 1) * quarter_turn)) = same_in _ _ (simp parts (omega arith)) in
        let s = rw turned at h in
        omega (arith, ints, s)

pub met_between : (range : Enclosure) (c : ℤ) → first_quarter range.lo ≤ℤ c → c ≤ℤ last_quarter range.hi → IsMet range c
met_between range c h k = record { begins_in_time = seam_before range.hi c (begins_by range.hi c k); ends_in_time = seam_after range.lo c (ends_by range.lo c h) }

pub between_met : (range : Enclosure) (c : ℤ) → IsMet range c → (first_quarter range.lo ≤ℤ c) × (c ≤ℤ last_quarter range.hi)
unfolding first_quarter last_quarter
between_met range c m = (ceil_least 1 c (times (plus range.lo (over (neg_ℤ (pos eighth_turn)) 1)) (over (pos 1) quarter_turn)) (lit≤ tt) (finishes range.lo c m.ends_in_time), floor_greatest 1 c (times (plus range.hi (over (pos eighth_turn) 1)) (over (pos 1) quarter_turn)) (lit≤ tt) (begins range.hi c m.begins_in_time))

pub piece_ordered : (a : Enclosure) (c : ℤ) → IsOrdered a → first_quarter a.lo ≤ℤ c → c ≤ℤ last_quarter a.hi → IsOrdered (piece a c)
unfolding piece
piece_ordered a c o h k = record {
  ordered = greatest_below _ _ _
      (least_above _ _ _ (turned_back_mono c a.lo a.hi o.ordered) (seam_after a.lo c (ends_by a.lo c h)))
      (least_above _ _ _ (seam_before a.hi c (begins_by a.hi c k)) (over_mono 1 (neg_ℤ (pos eighth_turn)) (pos eighth_turn) (omega (arith, ints))));
}

some_quarter : (a : Fraction) → first_quarter a ≤ℤ last_quarter a
unfolding first_quarter last_quarter over times plus negate floor_at ceil_at
some_quarter a = core (neg_ℤ ((((a.top *ℤ pos 1) +ℤ (neg_ℤ (pos eighth_turn) *ℤ pos a.bottom)) *ℤ pos 1)) *ℤ pos 1) ((((a.top *ℤ pos 1) +ℤ (pos eighth_turn *ℤ pos a.bottom)) *ℤ pos 1) *ℤ pos 1) ((a.bottom * 1) * quarter_turn) (omega (arith, a.positive)) (apart a.top a.bottom)
  where
    apart : (t : ℤ) (b : ℕ) → (neg_ℤ ((((t *ℤ pos 1) +ℤ (neg_ℤ (pos eighth_turn) *ℤ pos b)) *ℤ pos 1)) *ℤ pos 1) +ℤ ((((t *ℤ pos 1) +ℤ (pos eighth_turn *ℤ pos b)) *ℤ pos 1) *ℤ pos 1) ≡ pos ((b * 1) * quarter_turn)
    apart t b = omega (arith, ints)

    core : (x y : ℤ) (k : ℕ) → 0 < k → x +ℤ y ≡ pos k → neg_ℤ (int_div_euclid x (pos k)) ≤ℤ int_div_euclid y (pos k)
    core x y k h e = below (int_div_euclid x (pos k)) (int_div_euclid y (pos k)) (omega (arith, ints, e, (div-parts x k h).1, (div-parts y k h).1))
      where
        below : (q p : ℤ) → (down q + down p) * k < (up q + up p + 1) * k → neg_ℤ q ≤ℤ p
        below q p l = let m : down q + down p < up q + up p + 1 = lt_of_mul-lt-mul_right k l in omega (arith, ints, m)

-- each angle lies in some quarter
pub first_not_after_last : (a b : Fraction) → a ≤ᶠ b → first_quarter a ≤ℤ last_quarter b
first_not_after_last a b h = joined (first_quarter a) (first_quarter b) (last_quarter b) (first_quarter_mono a b h) (some_quarter b)
  where
    joined : (x y z : ℤ) → x ≤ℤ y → y ≤ℤ z → x ≤ℤ z
    joined x y z h k = omega (arith, ints)

-- within an eighth of a turn of zero
pub piece_within : (a : Enclosure) (c : ℤ) → LiesIn (piece a c) (record { lo = over (neg_ℤ (pos eighth_turn)) 1; hi = over (pos eighth_turn) 1 })
unfolding piece
piece_within a c = record { low = greatest_right _ _; high = least_right _ _ }

-- ---- hulls over quarters
-- the hull holds each part
pub hull_from_holds : (f : ℤ → Enclosure) (c : ℤ) (n : ℕ) (d : ℤ) (e : Enclosure) → c ≤ℤ d → d ≤ℤ (c +ℤ pos n) → LiesIn e (f d) → LiesIn e (hull_from f c n)
unfolding hull_from
hull_from_holds f c zero d e h k l = let same : d ≡ c = omega (arith, ints) in subst (λ (q : ℤ). LiesIn e (f q)) same l
hull_from_holds f c (suc n) d e h k l = by_lt_z (c +ℤ pos n) d
    (λ u. let same : d ≡ c +ℤ pos (suc n) = omega (arith, ints, u) in LiesIn_trans _ _ _ (subst (λ (q : ℤ). LiesIn e (f q)) same l) (hull_right (hull_from f c n) (f (c +ℤ pos (suc n)))))
    (λ u. LiesIn_trans _ _ _ (hull_from_holds f c n d e h u l) (hull_left (hull_from f c n) (f (c +ℤ pos (suc n)))))

-- and lies in what holds each part
pub hull_from_below : (f : ℤ → Enclosure) (c : ℤ) (n : ℕ) (e : Enclosure) → ((d : ℤ) → c ≤ℤ d → d ≤ℤ (c +ℤ pos n) → LiesIn (f d) e) → LiesIn (hull_from f c n) e
unfolding hull_from
hull_from_below f c zero e h = h c (omega (arith, ints)) (omega (arith, ints))
hull_from_below f c (suc n) e h = hull_least (hull_from f c n) (f (c +ℤ pos (suc n))) e (hull_from_below f c n e (λ d s t. h d s (omega (arith, ints, t)))) (h (c +ℤ pos (suc n)) (omega (arith, ints)) (omega (arith, ints)))

pub over_quarters_holds : (f : ℤ → Enclosure) (a : Enclosure) (d : ℤ) (e : Enclosure) → first_quarter a.lo ≤ℤ d → d ≤ℤ last_quarter a.hi → LiesIn e (f d) → LiesIn e (over_quarters f a)
unfolding over_quarters
over_quarters_holds f a d e h k l = hull_from_holds f (first_quarter a.lo) (int_gap (first_quarter a.lo) (last_quarter a.hi)) d e h (omega (arith, ints, k, int_gap-is (first_quarter a.lo) (last_quarter a.hi) (omega (arith, ints, h, k)))) l

pub over_quarters_below : (f : ℤ → Enclosure) (a e : Enclosure) → first_quarter a.lo ≤ℤ last_quarter a.hi → ((d : ℤ) → first_quarter a.lo ≤ℤ d → d ≤ℤ last_quarter a.hi → LiesIn (f d) e) → LiesIn (over_quarters f a) e
unfolding over_quarters
over_quarters_below f a e o h = hull_from_below f (first_quarter a.lo) (int_gap (first_quarter a.lo) (last_quarter a.hi)) e (λ d s t. h d s (omega (arith, ints, t, int_gap-is (first_quarter a.lo) (last_quarter a.hi) o)))

-- a narrower range meets fewer quarters
pub over_quarters_mono : (f g : ℤ → Enclosure) (a b : Enclosure) → first_quarter a.lo ≤ℤ last_quarter a.hi → LiesIn a b → ((d : ℤ) → first_quarter a.lo ≤ℤ d → d ≤ℤ last_quarter a.hi → LiesIn (f d) (g d)) → LiesIn (over_quarters f a) (over_quarters g b)
over_quarters_mono f g a b o l h = over_quarters_below f a (over_quarters g b) o (λ d s t. over_quarters_holds g b d (f d) (omega (arith, ints, s, first_quarter_mono b.lo a.lo l.low)) (omega (arith, ints, t, last_quarter_mono a.hi b.hi l.high)) (h d s t))

pub hull_from_ordered : (f : ℤ → Enclosure) (c : ℤ) (n : ℕ) → IsOrdered (f c) → IsOrdered (hull_from f c n)
unfolding hull_from
hull_from_ordered f c zero o = o
hull_from_ordered f c (suc n) o = hull_ordered _ _ (hull_from_ordered f c n o)

pub over_quarters_ordered : (f : ℤ → Enclosure) (a : Enclosure) → ((d : ℤ) → first_quarter a.lo ≤ℤ d → d ≤ℤ last_quarter a.hi → IsOrdered (f d)) → first_quarter a.lo ≤ℤ last_quarter a.hi → IsOrdered (over_quarters f a)
unfolding over_quarters
over_quarters_ordered f a o h = hull_from_ordered f (first_quarter a.lo) (int_gap (first_quarter a.lo) (last_quarter a.hi)) (o (first_quarter a.lo) (omega (arith, ints)) h)

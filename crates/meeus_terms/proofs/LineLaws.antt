-- What a polynomial that rises or falls gives over a range of minutes: in order, within that of more minutes, and on the
-- grid around it.
use Rattle.std.proofs.Common.{◌≡◌, Bool, true, false, if◌then◌else◌, int_le, ℤ, pos, neg_ℤ, ◌+ℤ◌, ◌*ℤ◌, ◌≤ℤ◌, arith, refl, sym, ap, subst, lit≤, ◌∙◌}
use Rattle.std.specs.Int.{int_div_euclid}
use Rattle.std.proofs.lemmas.Int.{ints}
use Rattle.fixed_interval.specs.Fraction.{Fraction, ◌≤ᶠ◌, over, times, least, greatest, floor_at, ceil_at}
use Rattle.fixed_interval.specs.Enclosure.{Enclosure, IsOrdered, LiesIn}
use Rattle.fixed_interval.specs.Grid.{Range, enclosure_of_range, range_around}
use Rattle.fixed_interval.proofs.FractionLaws.{≤ᶠ_refl, ≤ᶠ_trans, le_parts, least_above, least_right, least_mono, greatest_left, greatest_mono, over_mono, from_over, ceil_least, floor_at_most_ceil, times_mono}
use Rattle.fixed_interval.proofs.Inclusion.{range_ordered, range_around_holds, range_around_mono, range_around_ordered}
use Rattle.fixed_interval.proofs.Whole.{plus-times, div-parts}
use Rattle.meeus_terms.specs.Polynomials.{held, centuries, rising, falling}
use Rattle.meeus_terms.proofs.Monotony.{IsNear}

-- ---- the minutes, held within the limits

abbrev pub first_limit : Fraction
first_limit = over (neg_ℤ (pos 53_200_000)) 1

abbrev pub last_limit : Fraction
last_limit = over (pos 53_200_000) 1

held_mono : (j k : Fraction) → j ≤ᶠ k → held j ≤ᶠ held k
unfolding held
held_mono j k h = least_mono _ _ _ _ (greatest_mono _ _ _ _ (≤ᶠ_refl _) h) (≤ᶠ_refl _)

held_first : (k : Fraction) → first_limit ≤ᶠ held k
unfolding held
held_first k = least_above _ _ _ (greatest_left _ _) (over_mono 1 _ _ (omega (arith, ints)))

held_last : (k : Fraction) → held k ≤ᶠ last_limit
unfolding held
held_last k = least_right _ _

-- within the limits a minute is itself
pub held_within : (k : Fraction) → first_limit ≤ᶠ k → k ≤ᶠ last_limit → held k ≡ k
unfolding held least greatest
held_within k h l = ap (λ (j : Fraction). least j last_limit) (above (int_le (first_limit.top *ℤ pos k.bottom) (k.top *ℤ pos first_limit.bottom)) refl) ∙ below (int_le (k.top *ℤ pos last_limit.bottom) (last_limit.top *ℤ pos k.bottom)) refl
  where
    above : (t : Bool) → int_le (first_limit.top *ℤ pos k.bottom) (k.top *ℤ pos first_limit.bottom) ≡ t → (if t then k else first_limit) ≡ k
    above true e = refl
    above false e = absurd (omega (arith, ints, e, h.crossed))

    below : (t : Bool) → int_le (k.top *ℤ pos last_limit.bottom) (last_limit.top *ℤ pos k.bottom) ≡ t → (if t then k else last_limit) ≡ k
    below true e = refl
    below false e = absurd (omega (arith, ints, e, l.crossed))

pub centuries_mono : (j k : Fraction) → j ≤ᶠ k → centuries j ≤ᶠ centuries k
unfolding centuries over
centuries_mono j k h = times_mono _ _ _ (held_mono j k h) (omega (arith, ints))

near_times : (k : Fraction) → first_limit ≤ᶠ k → k ≤ᶠ last_limit → IsNear (times k (over (pos 1) 52_596_000))
unfolding times over
near_times k h l = record { near = omega (arith, ints, le_parts _ _ h, le_parts _ _ l) }

-- the first and the last of all centuries
centuries_first : (k : Fraction) → centuries first_limit ≤ᶠ centuries k
unfolding centuries over held least greatest
centuries_first k = times_mono _ _ _ (held_first k) (omega (arith, ints))

centuries_last : (k : Fraction) → centuries k ≤ᶠ centuries last_limit
unfolding centuries over held least greatest
centuries_last k = times_mono _ _ _ (held_last k) (omega (arith, ints))

pub centuries_near : (k : Fraction) → IsNear (centuries k)
unfolding centuries
centuries_near k = near_times (held k) (held_first k) (held_last k)

-- ---- lines

pub record IsRising (f : Fraction → Fraction) : Type 0 where
  pub rises : (x y : Fraction) → IsNear x → IsNear y → x ≤ᶠ y → f x ≤ᶠ f y

pub record IsFalling (f : Fraction → Fraction) : Type 0 where
  pub falls : (x y : Fraction) → IsNear x → IsNear y → x ≤ᶠ y → f y ≤ᶠ f x

abbrev pub limits : Enclosure
limits = record { lo = first_limit; hi = last_limit }

-- a line over minutes keeps order and keeps `lies in`, and over any minutes lies in what it is over all
pub record IsLine (line : Enclosure → Enclosure) : Type 0 where
  pub ordered : (m : Enclosure) → IsOrdered m → IsOrdered (line m)
  pub mono : (m m' : Enclosure) → LiesIn m m' → LiesIn (line m) (line m')
  pub among : (m : Enclosure) → LiesIn (line m) (line limits)

at_minutes : (f : Fraction → Fraction) → IsRising f → (j k : Fraction) → j ≤ᶠ k → f (centuries j) ≤ᶠ f (centuries k)
at_minutes f s j k h = s.rises _ _ (centuries_near j) (centuries_near k) (centuries_mono j k h)

back_at_minutes : (f : Fraction → Fraction) → IsFalling f → (j k : Fraction) → j ≤ᶠ k → f (centuries k) ≤ᶠ f (centuries j)
back_at_minutes f s j k h = s.falls _ _ (centuries_near j) (centuries_near k) (centuries_mono j k h)

pub rising_line : (f : Fraction → Fraction) → IsRising f → IsLine (rising f)
unfolding rising
rising_line f s = record {
  ordered = λ m h. record { ordered = at_minutes f s _ _ h.ordered };
  mono = λ m m' h. record { low = at_minutes f s _ _ h.low; high = at_minutes f s _ _ h.high };
  among = λ m. record { low = s.rises _ _ (centuries_near _) (centuries_near _) (centuries_first _); high = s.rises _ _ (centuries_near _) (centuries_near _) (centuries_last _) };
}

pub falling_line : (f : Fraction → Fraction) → IsFalling f → IsLine (falling f)
unfolding falling
falling_line f s = record {
  ordered = λ m h. record { ordered = back_at_minutes f s _ _ h.ordered };
  mono = λ m m' h. record { low = back_at_minutes f s _ _ h.high; high = back_at_minutes f s _ _ h.low };
  among = λ m. record { low = s.falls _ _ (centuries_near _) (centuries_near _) (centuries_last _); high = s.falls _ _ (centuries_near _) (centuries_near _) (centuries_first _) };
}

-- the line over minutes is within its whole units over a range that has them
pub line_holds : (line : Enclosure → Enclosure) → IsLine line → (m : Enclosure) (r : Range) → LiesIn m (enclosure_of_range r) → LiesIn (line m) (enclosure_of_range (range_around (line (enclosure_of_range r))))
line_holds line s m r h = range_around_holds _ _ (s.mono _ _ h)

-- ---- lines on the grid

-- r is a range within s
pub record IsWithin (r s : Range) : Type 0 where
  pub ordered : r.lo ≤ℤ r.hi
  pub low : s.lo ≤ℤ r.lo
  pub high : r.hi ≤ℤ s.hi

units_in_order : (r : Range) → IsOrdered (enclosure_of_range r) → r.lo ≤ℤ r.hi
unfolding enclosure_of_range
units_in_order r h = from_over 1 _ _ (lit≤ tt) h.ordered

units_within : (r s : Range) → IsOrdered (enclosure_of_range r) → LiesIn (enclosure_of_range r) (enclosure_of_range s) → IsWithin r s
unfolding enclosure_of_range
units_within r s h k = record { ordered = units_in_order r h; low = from_over 1 _ _ (lit≤ tt) k.low; high = from_over 1 _ _ (lit≤ tt) k.high }

-- what holds something in order is in order
pub order_of_held : (m : Enclosure) (r : Range) → IsOrdered m → LiesIn m (enclosure_of_range r) → r.lo ≤ℤ r.hi
order_of_held m r p h = units_in_order r (record { ordered = ≤ᶠ_trans _ _ _ h.low (≤ᶠ_trans _ _ _ p.ordered h.high) })

pub grid_line_within : (line : Enclosure → Enclosure) → IsLine line → (s : Range) → range_around (line limits) ≡ s → (r : Range) → r.lo ≤ℤ r.hi → IsWithin (range_around (line (enclosure_of_range r))) s
grid_line_within line l s e r h =
    subst (λ (t : Range). IsWithin (range_around (line (enclosure_of_range r))) t) e
    (units_within _ _ (range_around_ordered _ (l.ordered _ (range_ordered r h))) (range_around_mono _ _ (l.among _)))

-- a number is within one unit
next_unit : (a : Fraction) → a ≤ᶠ over (floor_at 1 a +ℤ pos 1) 1
unfolding floor_at over
next_unit a =
    let q = int_div_euclid (a.top *ℤ pos 1) (pos a.bottom) in
    record { crossed = rw (plus-times q (pos 1) (pos a.bottom)) (omega (arith, ints, (div-parts (a.top *ℤ pos 1) a.bottom a.positive).1)) }

pub one_unit : (a : Fraction) → ceil_at 1 a ≤ℤ (floor_at 1 a +ℤ pos 1)
one_unit a = ceil_least 1 _ a (lit≤ tt) (next_unit a)

-- so is a line at one minute
pub record IsOneUnit (r : Range) : Type 0 where
  pub ordered : r.lo ≤ℤ r.hi
  pub narrow : r.hi ≤ℤ (r.lo +ℤ pos 1)

at_one : (a : Enclosure) → a.lo ≡ a.hi → IsOneUnit (range_around a)
unfolding range_around
at_one a e = record {
  ordered = subst (λ (x : Fraction). floor_at 1 a.lo ≤ℤ ceil_at 1 x) e (floor_at_most_ceil 1 a.lo a.lo (lit≤ tt) (≤ᶠ_refl _));
  narrow = subst (λ (x : Fraction). ceil_at 1 x ≤ℤ (floor_at 1 a.lo +ℤ pos 1)) e (one_unit a.lo);
}

pub rising_at_one : (f : Fraction → Fraction) (r : Range) → r.hi ≡ r.lo → IsOneUnit (range_around (rising f (enclosure_of_range r)))
unfolding rising enclosure_of_range
rising_at_one f r e = at_one _ (ap (λ (z : ℤ). f (centuries (over z 1))) (sym e))

pub falling_at_one : (f : Fraction → Fraction) (r : Range) → r.hi ≡ r.lo → IsOneUnit (range_around (falling f (enclosure_of_range r)))
unfolding falling enclosure_of_range
falling_at_one f r e = at_one _ (ap (λ (z : ℤ). f (centuries (over z 1))) e)

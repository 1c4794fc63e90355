-- Enclosures: all numbers from one exact fraction to another, and the operations on them, exact, as interval arithmetic has them
-- (R. E. Moore, Interval Analysis, 1966).
-- The ends of an enclosure are in order where its maker keeps them so (`IsOrdered`).
use Rattle.std.specs.Prelude.{ℕ, zero, suc, ◌*◌, ◌^◌, ℤ, pos, negsuc, nat_le, ◌==◌, ◌+◌, if◌then◌else◌}
use Rattle.fixed_interval.specs.Fraction.{Fraction, ◌≤ᶠ◌, ◌<ᶠ◌, over, negate, plus, times, least, greatest, absolute, floor_at, ceil_at}

pub record Enclosure : Type 0 where
  pub lo : Fraction
  pub hi : Fraction

pub record IsOrdered (a : Enclosure) : Type 0 where
  pub ordered : a.lo ≤ᶠ a.hi

-- every number of a is one of b
pub record LiesIn (a b : Enclosure) : Type 0 where
  pub low : b.lo ≤ᶠ a.lo
  pub high : a.hi ≤ᶠ b.hi

pub record IsAboveZero (a : Enclosure) : Type 0 where
  pub above : over (pos 0) 1 <ᶠ a.lo

pub record IsBelowZero (a : Enclosure) : Type 0 where
  pub below : a.hi <ᶠ over (pos 0) 1

-- the one number x
unfoldable pub point : Fraction → Enclosure
point x = record { lo = x; hi = x }

unfoldable pub negated : Enclosure → Enclosure
negated a = record { lo = negate a.hi; hi = negate a.lo }

unfoldable pub sum : Enclosure → Enclosure → Enclosure
sum a b = record { lo = plus a.lo b.lo; hi = plus a.hi b.hi }

unfoldable pub difference : Enclosure → Enclosure → Enclosure
difference a b = sum a (negated b)

-- the least and the greatest of the four products of ends
unfoldable pub product : Enclosure → Enclosure → Enclosure
product a b = record {
  lo = least (least (times a.lo b.lo) (times a.lo b.hi)) (least (times a.hi b.lo) (times a.hi b.hi));
  hi = greatest (greatest (times a.lo b.lo) (times a.lo b.hi)) (greatest (times a.hi b.lo) (times a.hi b.hi));
}

-- each end times the whole number n
unfoldable pub scale_units : Enclosure → ℕ → Enclosure
scale_units a n = record { lo = times a.lo (over (pos n) 1); hi = times a.hi (over (pos n) 1) }

-- each end over the whole number n; an n of 0 counts as 1
unfoldable pub divide_by : Enclosure → ℕ → Enclosure
divide_by a n = record { lo = times a.lo (over (pos 1) n); hi = times a.hi (over (pos 1) n) }

-- a product over a whole number
unfoldable pub times_ratio : Enclosure → Enclosure → ℕ → Enclosure
times_ratio a b n = divide_by (product a b) n

-- the least enclosure that holds both
unfoldable pub hull : Enclosure → Enclosure → Enclosure
hull a b = record { lo = least a.lo b.lo; hi = greatest a.hi b.hi }

-- the absolute values: the least of them is an end's, or 0 between ends of both signs
unfoldable pub magnitude : Enclosure → Enclosure
magnitude a = record { lo = greatest (greatest a.lo (negate a.hi)) (over (pos 0) 1); hi = greatest (negate a.lo) a.hi }

-- x |x| at each end: a square that keeps the sign
unfoldable pub signed_square : Enclosure → Enclosure
signed_square a = record { lo = times a.lo (absolute a.lo); hi = times a.hi (absolute a.hi) }

-- the greatest whole number of at most k whose square is at most n
unfoldable pub root_from : ℕ → ℕ → ℕ
root_from n zero = 0
root_from n (suc k) = if nat_le (suc k * suc k) n then suc k else root_from n k

-- the square root of n, rounded down
unfoldable pub whole_root : ℕ → ℕ
whole_root n = root_from n n

-- the square root of n, rounded up
unfoldable pub root_up : ℕ → ℕ
root_up n = if whole_root n * whole_root n == n then whole_root n else whole_root n + 1

-- z, or 0 where it is negative
unfoldable pub natural : ℤ → ℕ
natural (pos n) = n
natural (negsuc _) = 0

-- the square root at depth n: the lower end down and the upper end up to a multiple of 2^-8n; a negative end counts as 0
unfoldable pub root : ℕ → Enclosure → Enclosure
root n a = record {
  lo = over (pos (whole_root (natural (floor_at (2 ^ (16 * n)) a.lo)))) (2 ^ (8 * n));
  hi = over (pos (root_up (natural (ceil_at (2 ^ (16 * n)) a.hi)))) (2 ^ (8 * n));
}

-- The minutes that a rule's portion of the night gives, after the manual of PrayTimes.org. The night of a day is that of its own
-- sunrise and sunset, a day earlier or later: this is the project's own.
use Rattle.std.specs.Prelude.{◌^◌, ℤ, pos, neg_ℤ, ◌+ℤ◌, ◌-ℤ◌, ◌*ℤ◌, ◌≤ℤ◌}
use Rattle.std.specs.Int.{int_div_euclid}
use Rattle.night_rule.specs.declared.rule.NightRule.{NightRule}
use Rattle.night_rule.specs.declared.rule.NightRule.TheVariants.{Half, Seventh, ByAngle}

-- half the night, one seventh, or one sixtieth for each degree of the angle (60 degrees in angle units)
abbrev pub portion : NightRule → ℤ → ℤ × ℤ
portion Half angle = (pos 1, pos 2)
portion Seventh angle = (pos 1, pos 7)
portion ByAngle angle = (angle, pos 8640000000000)

-- a part of the whole, as a fraction a / b
pub record IsPortion (a b : ℤ) : Type 0 where
  pub not_negative : pos 0 ≤ℤ a
  pub at_most_all : a ≤ℤ b
  pub positive : pos 1 ≤ℤ b
  pub small : b ≤ℤ pos (2 ^ 43)

-- a local minute, with room beyond all frames
pub record IsNear (minute : ℤ) : Type 0 where
  pub not_low : neg_ℤ (pos 4000) ≤ℤ minute
  pub not_high : minute ≤ℤ pos 4000

-- and a day more
pub record IsWithinTwoNights (minute : ℤ) : Type 0 where
  pub not_low : neg_ℤ (pos 5440) ≤ℤ minute
  pub not_high : minute ≤ℤ pos 5440

-- so many times a minute that is within them
pub record IsShare (times product : ℤ) : Type 0 where
  pub not_low : (neg_ℤ (pos 5440) *ℤ times) ≤ℤ product
  pub not_high : product ≤ℤ (pos 5440 *ℤ times)

-- the least whole number that is at least n / b, for a positive b
unfoldable pub ceiling : ℤ → ℤ → ℤ
ceiling n b = neg_ℤ (int_div_euclid (neg_ℤ n) b)

-- b times the minute that lies the part a / b of the way from one minute to another
abbrev pub weighted : ℤ → ℤ → ℤ → ℤ → ℤ
weighted from to a b = from *ℤ (b -ℤ a) +ℤ to *ℤ a

-- that minute, rounded up
abbrev pub part_way : ℤ → ℤ → ℤ → ℤ → ℤ
part_way from to a b = ceiling (weighted from to a b) b

-- before sunrise, towards the sunset of the day before
abbrev pub fajr_bound : ℤ → ℤ → ℤ → ℤ → ℤ
fajr_bound rise set a b = part_way rise (set -ℤ pos 1440) a b

-- after sunset, towards the sunrise of the day after
abbrev pub isha_bound : ℤ → ℤ → ℤ → ℤ → ℤ
isha_bound rise set a b = part_way set (rise +ℤ pos 1440) a b

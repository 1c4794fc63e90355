-- The days of an order, and the offset of each.
use Rattle.std.specs.Prelude.{ℕ, zero, suc, ℤ, pos, neg_ℤ, ◌+ℤ◌, ◌≤ℤ◌, int_le, Bool, true, ◌&&◌, List, [], ◌∷◌, Option}
use Rattle.ring_survey.specs.Each.{each_of}
use Rattle.year_table.specs.Rules.{is_rule}
use Rattle.year_table.specs.Zones.{day_offset}
use Rattle.year_table.specs.declared.zone.Zone.{Zone}
use Rattle.year_table.specs.declared.zone.Zone.TheVariants.{Fixed, Rule}

-- 1900-01-01 and 2100-12-31
abbrev pub first_day : ℤ
first_day = neg_ℤ (pos 25567)

abbrev pub last_day : ℤ
last_day = pos 47846

abbrev pub is_day : ℤ → Bool
is_day day = int_le first_day day && int_le day last_day

-- so many days, one after another
abbrev pub days_from : ℤ → ℕ → List ℤ
days_from day zero = []
days_from day (suc n) = day ∷ days_from (day +ℤ pos 1) n

-- the offset of each day, if each has one
unfoldable pub offsets_of : Zone → ℤ → ℕ → Option (List ℤ)
offsets_of zone day days = each_of (day_offset zone) (days_from day days)

-- the rule of a zone, if it has one, is one of POSIX
abbrev pub is_zone : Zone → Bool
is_zone (Fixed minutes) = true
is_zone (Rule text) = is_rule text

-- an offset in minutes
pub record IsOffset (offset : ℤ) : Type 0 where
  pub low : neg_ℤ (pos 720) ≤ℤ offset
  pub high : offset ≤ℤ pos 840

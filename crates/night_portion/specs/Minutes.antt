-- The two minutes of a night.
use Rattle.std.specs.Prelude.{ℕ, ◌==◌, if◌then◌else◌, ℤ, pos, ◌+ℤ◌, List, Option, Some, None, slice_index_or}
use Rattle.std.specs.Int.{int_max, int_min}
use Rattle.method_table.specs.declared.method.Method.{Method}
use Rattle.method_table.specs.declared.method.Method.TheVariants.{Makkah}
use Rattle.method_table.specs.declared.problem.Kind.{Kind}
use Rattle.method_table.specs.declared.problem.Kind.TheVariants.{Above, Below}
use Rattle.method_table.specs.Row.{Row, minute_of}
use Rattle.night_rule.specs.declared.rule.NightRule.{NightRule}
use Rattle.cell_split.specs.declared.verdict.Entry.{Entry}
use Rattle.cell_split.specs.declared.verdict.Entry.TheVariants.{Minute, Whole, Never, Open}
use Rattle.cell_judge.specs.Skies.{row_at}
use Rattle.night_portion.specs.Bounds.{fajr_bound, isha_bound, portion}

-- the rows that a night's minutes are made of, each with its entry
pub record Night : Type 0 where
  pub fajr : Row × Entry
  pub isha : Row × Entry
  pub rise : Row × Entry
  pub set : Row × Entry

abbrev pub answered : List Row → List Entry → ℕ → Row × Entry
answered rows entries k = (row_at rows k, slice_index_or entries k Never)

-- of a day's seven rows, and of those of its sunrise and sunset
abbrev pub night_of : List Row → List Entry → List Row → List Entry → Night
night_of rows entries sun_rows sun_entries = record {
  fajr = answered rows entries 0;
  isha = answered rows entries 6;
  rise = answered sun_rows sun_entries 0;
  set = answered sun_rows sun_entries 1;
}

-- the rank from which on an entry's ranks are safe; 721 for none
abbrev pub safe_rank : Entry → ℕ
safe_rank (Minute rank) = rank
safe_rank Whole = 0
safe_rank Never = 721
safe_rank (Open safe from cell) = safe

-- the local minute of that rank, without the shift, where there is one
abbrev pub safe_minute : Row × Entry → Option ℤ
safe_minute x = if safe_rank x.1 == 721 then None else Some (minute_of x.0 (safe_rank x.1))

-- the angle of a condition
abbrev pub angle_of : Kind → ℤ
angle_of (Above low high) = low
angle_of (Below low high) = low
angle_of kind = pos 0

-- the part of the night that a rule gives to a prayer
abbrev pub portion_of : NightRule → Row × Entry → ℤ × ℤ
portion_of rule x = portion rule (angle_of x.0.kind)

-- ---- Fajr

-- the later of its own minute and its portion's: none where it, sunrise or sunset has none
abbrev pub fajr_by : ℤ × ℤ → Option ℤ → Option ℤ → Option ℤ → Option ℤ
fajr_by part (Some f) (Some r) (Some s) = Some (int_max f (fajr_bound r s part.0 part.1))
fajr_by part _ _ _ = None

unfoldable pub fajr_minute : NightRule → Night → Option ℤ
fajr_minute rule n = fajr_by (portion_of rule n.fajr) (safe_minute n.fajr) (safe_minute n.rise) (safe_minute n.set)

-- ---- Isha

-- the portion's minute, where sunrise and sunset have one
abbrev pub isha_limit : ℤ × ℤ → Option ℤ → Option ℤ → Option ℤ
isha_limit part (Some r) (Some s) = Some (isha_bound r s part.0 part.1)
isha_limit part _ _ = None

-- the earlier of two minutes, or the one that is there
abbrev pub earlier : Option ℤ → Option ℤ → Option ℤ
earlier (Some m) (Some n) = Some (int_min m n)
earlier (Some m) None = Some m
earlier None n = n

-- the minute after an interval
abbrev pub after : ℤ → Option ℤ → Option ℤ
after interval (Some m) = Some (m +ℤ interval)
after interval None = None

-- the earlier of its own minute and its portion's; where it follows Maghrib after an interval, the portion has no say
abbrev pub isha_by : Method → ℤ → ℤ × ℤ → Option ℤ → Option ℤ → Option ℤ → Option ℤ
isha_by Makkah interval part i r s = after interval i
isha_by _ interval part i r s = earlier i (isha_limit part r s)

unfoldable pub isha_minute : NightRule → Method → Night → Option ℤ
isha_minute rule method n =
    isha_by method n.isha.0.shift (portion_of rule n.isha) (safe_minute n.isha) (safe_minute n.rise) (safe_minute n.set)

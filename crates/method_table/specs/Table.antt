-- The table of the methods, and the rows that it makes of a day. Its numbers are this project's own, after the manual of
-- PrayTimes.org.
use Rattle.std.specs.Prelude.{ℕ, ◌*◌, ℤ, pos, ◌+ℤ◌, ◌-ℤ◌, ◌*ℤ◌, List, [], ◌∷◌, Option, Some, None}
use Rattle.std.specs.Int.{int_div_euclid, int_rem_euclid}
use Rattle.method_table.specs.declared.method.Asr.{Asr}
use Rattle.method_table.specs.declared.method.Asr.TheVariants.{Standard, Hanafi}
use Rattle.method_table.specs.declared.method.Method.{Method}
use Rattle.method_table.specs.declared.method.Method.TheVariants.{Mwl, Isna, Egypt, Karachi, Makkah, Tehran, Jafari}
use Rattle.method_table.specs.declared.problem.Column.TheVariants.{Fajr, FajrEnd, Dhuhr, Asr as AsrColumn, Maghrib, MaghribEnd, Isha}
use Rattle.method_table.specs.declared.problem.Kind.TheVariants.{Past, Shadow}
use Rattle.method_table.specs.declared.problem.Side.TheVariants.{Start, End}
use Rattle.method_table.specs.Horizon.{horizon}
use Rattle.method_table.specs.Row.{Row, row, above, below}

-- Four minutes a degree: a minute is 250,000 microdegrees, and west + east is twice the middle longitude. Rounded to the
-- nearest minute.
abbrev pub minutes_east : ℤ → ℤ → ℤ
minutes_east west east = int_div_euclid (west +ℤ east +ℤ pos 250000) (pos 500000)

-- the mean noon of the middle longitude by the district's clock
abbrev pub noon_of : ℤ → ℤ → ℤ → ℤ
noon_of west east offset = int_rem_euclid (pos 720 +ℤ offset -ℤ minutes_east west east) (pos 1440)

-- the minute since 2000-01-01 12:00 Universal Time (day 10,957) that is local minute 0 of a day
abbrev pub base_of : ℤ → ℤ → ℤ
base_of day offset = (day -ℤ pos 10957) *ℤ pos 1440 -ℤ pos 720 -ℤ offset

-- degrees below the horizon, in tenths: at Fajr
abbrev pub fajr_tenths : Method → ℕ
fajr_tenths Mwl = 180
fajr_tenths Isna = 150
fajr_tenths Egypt = 195
fajr_tenths Karachi = 180
fajr_tenths Makkah = 185
fajr_tenths Tehran = 177
fajr_tenths Jafari = 160

-- at Maghrib, where it is not at sunset
abbrev pub maghrib_tenths : Method → Option ℕ
maghrib_tenths Tehran = Some 45
maghrib_tenths Jafari = Some 40
maghrib_tenths _ = None

-- at Isha, where it does not follow Maghrib after an interval
abbrev pub isha_tenths : Method → Option ℕ
isha_tenths Mwl = Some 170
isha_tenths Isna = Some 150
isha_tenths Egypt = Some 175
isha_tenths Karachi = Some 180
isha_tenths Makkah = None
isha_tenths Tehran = Some 140
isha_tenths Jafari = Some 140

-- the range of one angle
abbrev pub exactly : ℕ → ℤ × ℤ
exactly tenths = (pos (tenths * 14400000000), pos (tenths * 14400000000))

abbrev pub exactly_or : Option ℕ → ℤ × ℤ → ℤ × ℤ
exactly_or None other = other
exactly_or (Some tenths) other = exactly tenths

abbrev pub maghrib_range : Method → ℕ → ℤ × ℤ
maghrib_range m height = exactly_or (maghrib_tenths m) (horizon height)

abbrev pub isha_range : Method → ℕ → ℤ × ℤ
isha_range m height = exactly_or (isha_tenths m) (maghrib_range m height)

-- how long after its angle Isha is
abbrev pub isha_shift : Method → ℤ → ℤ
isha_shift Makkah interval = interval
isha_shift _ interval = pos 0

abbrev pub shadow_factor : Asr → ℕ
shadow_factor Standard = 1
shadow_factor Hanafi = 2

-- the seven rows of a day: the clock's offset and the reference noon in minutes, the height in metres
abbrev pub rows : Method → Asr → ℤ → ℤ → ℤ → ℕ → ℤ → List Row
rows m a day offset noon height interval =
    let base = base_of day offset in
    row Fajr Start (noon -ℤ pos 720) base (above (exactly (fajr_tenths m))) (pos 0)
    ∷ row FajrEnd End (noon -ℤ pos 720) base (below (horizon height)) (pos 0)
    ∷ row Dhuhr Start (noon -ℤ pos 360) base Past (pos 0)
    ∷ row AsrColumn Start noon base (Shadow (shadow_factor a)) (pos 0)
    ∷ row Maghrib Start noon base (below (maghrib_range m height)) (pos 0)
    ∷ row MaghribEnd End noon base (above (isha_range m height)) (isha_shift m interval)
    ∷ row Isha Start noon base (below (isha_range m height)) (isha_shift m interval)
    ∷ []

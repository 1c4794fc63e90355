-- Days since 1970-01-01.
use Rattle.std.proofs.Common.{◌≡◌, ℤ, pos, ap, refl}
use Rattle.std.specs.Prelude.{unsigned_abs}
use Rattle.jiff.specs.Types.{Date, DateTime, Time}
use Rattle.jiff.specs.Words.{IsHms, IsYmd, civil_nanos, epoch_day}
use Rattle.jiff_core.proofs.StandardFacts.{known_days}
use Rattle.year_table.specs.Rules.{noon_of}

-- 1970-01-01 is day 0
pub epoch_day-first : (d : Date) → IsYmd (pos 1970) (pos 1) (pos 1) d → epoch_day d ≡ pos 0
epoch_day-first d h =
    let month : d.month ≡ 1 = ap unsigned_abs h.1 in
    let day : d.day ≡ 1 = ap unsigned_abs h.2 in
    rw (h.0, month, day) known_days.0

-- civil noon in nanoseconds
pub noon_nanos : (dt : DateTime) (d : Date) (t : Time) (day : ℤ) → dt.date ≡ d → dt.time ≡ t → epoch_day d ≡ day → IsHms (pos 12) (pos 0) (pos 0) (pos 0) t → civil_nanos dt ≡ noon_of day
unfolding civil_nanos
noon_nanos dt d t day e f g h =
    let hour : t.hour ≡ 12 = ap unsigned_abs h.0 in
    let minute : t.minute ≡ 0 = ap unsigned_abs h.1 in
    let second : t.second ≡ 0 = ap unsigned_abs h.2 in
    let nanos : t.subsec_nanosecond ≡ 0 = ap unsigned_abs h.3 in
    rw (e, f, g, hour, minute, second, nanos) refl

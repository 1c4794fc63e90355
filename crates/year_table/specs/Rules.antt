-- The texts of rules, and the offset of a rule at civil noon.
use Rattle.std.specs.Prelude.{◌≡◌, ℕ, ◌%◌, ◌&&◌, ◌||◌, not, ◌==◌, nat_le, nat_lt, Bool, List, length, is_some, ℤ, pos, neg_ℤ, ◌+ℤ◌, ◌-ℤ◌, ◌*ℤ◌, int_lt, int_le, int_div, unsigned_abs, Option, Some, None, if◌then◌else◌}
use Rattle.std.specs.List.{list_all}
use Rattle.jiff_core.specs.Timestamp.{nanos_of_seconds}
use Rattle.jiff_tz.specs.PosixReader.{read_whole}
use Rattle.jiff_tz.specs.PosixRule.{clamp_to, first_nanosecond, in_span, in_window, last_nanosecond, match_some, nanos_per_day, rule_day, saturating_add, saturating_sub}
use Rattle.jiff_tz.specs.PosixText.{TzText}
use Rattle.jiff_tz.specs.Year.{year_of_day}
use Rattle.jiff_tz.specs.declared.posix.Day.{Day}

-- from `!` to `~`, but not `"` or `\`
abbrev pub is_rule_byte : ℕ → Bool
is_rule_byte b = nat_le 33 b && (nat_le b 126 && (not (b == 34) && not (b == 92)))

-- of 1 to 64 bytes that may stand in quotes as they are
abbrev pub is_plain : List ℕ → Bool
is_plain text = not (length text == 0) && (not (nat_lt 64 (length text)) && list_all is_rule_byte text)

-- a rule of POSIX, by the reader of the zones
abbrev pub is_rule : List ℕ → Bool
is_rule text = is_plain text && is_some (read_whole text)

-- The moment of a rule's day and time of day in a year, in nanoseconds on the wall clock. One that would leave the year stays
-- at its edge, and a day that the year lacks is its end.
abbrev pub moment : ℤ → Day × ℤ → ℤ
moment year at =
    match_some (rule_day year at.0) (last_nanosecond year) (λ day.
    clamp_to (first_nanosecond year) (last_nanosecond year) (day *ℤ nanos_per_day +ℤ nanos_of_seconds (at.1 -ℤ pos 0)))

-- how far daylight saving time is ahead of standard time, in nanoseconds
abbrev pub shift_of : ℤ → ℤ → ℤ
shift_of standard saving = nanos_of_seconds saving -ℤ nanos_of_seconds standard

-- Where daylight saving time is ahead: in the gap at its start the clock still has standard time, and in the fold at its end
-- still daylight saving time.
abbrev pub offset_ahead : ℤ → ℤ → ℤ × ℤ → ℤ → ℤ
offset_ahead standard saving window now =
    if in_window window now && not (in_span window.0 (saturating_add window.0 (shift_of standard saving)) now) then saving else standard

-- Where it is behind: the fold is at its start, and still has standard time; the gap is at its end, and still has it.
abbrev pub offset_behind : ℤ → ℤ → ℤ × ℤ → ℤ → ℤ
offset_behind standard saving window now =
    if in_window window now
    || (not (in_span (saturating_add window.0 (shift_of standard saving)) window.0 now)
    && in_span window.1 (saturating_sub window.1 (shift_of standard saving)) now)
    then saving else standard

abbrev pub offset_by : ℤ → ℤ → ℤ × ℤ → ℤ → ℤ
offset_by standard saving window now =
    if int_lt saving standard then offset_behind standard saving window now
    else (if int_lt standard saving then offset_ahead standard saving window now else standard)

-- the offset in seconds at a moment of a year on the wall clock, where a gap or a fold takes the offset before it
abbrev pub rule_seconds : TzText → ℤ → ℤ → ℤ
rule_seconds rule year now =
    match_some rule.dst rule.std_seconds (λ saving.
    offset_by rule.std_seconds saving.seconds (moment year saving.start, moment year saving.finish) now)

-- civil 12:00:00 of a day since 1970-01-01, in nanoseconds on the wall clock
abbrev pub noon_of : ℤ → ℤ
noon_of day = day *ℤ nanos_per_day +ℤ pos 43200000000000

abbrev pub noon_seconds : TzText → ℤ → ℤ
noon_seconds rule day = rule_seconds rule (year_of_day day) (noon_of day)

-- the offset in seconds at civil noon of a day by the rule of a text
pub record IsNoonOffset (text : List ℕ) (day seconds : ℤ) : Type 0 where
  pub rule : TzText
  pub reads : read_whole text ≡ Some rule
  pub is : seconds ≡ noon_seconds rule day

-- the offset in minutes, if it is a whole number of them from -720 to 840
abbrev pub in_minutes : ℤ → Option ℤ
in_minutes seconds =
    if (unsigned_abs seconds % 60 == 0) && (int_le (neg_ℤ (pos 43200)) seconds && int_le seconds (pos 50400))
    then Some (int_div seconds (pos 60)) else None

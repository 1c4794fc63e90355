-- The offset of a day.
use Rattle.std.specs.Prelude.{◌&&◌, ℤ, pos, neg_ℤ, int_le, Option, Some, None, option_and_then, if◌then◌else◌}
use Rattle.jiff_tz.specs.PosixReader.{read_whole}
use Rattle.year_table.specs.declared.zone.Zone.{Zone}
use Rattle.year_table.specs.declared.zone.Zone.TheVariants.{Fixed, Rule}
use Rattle.year_table.specs.Rules.{in_minutes, noon_seconds}

-- the offset of a zone at civil noon of a day, in minutes
abbrev pub day_offset : Zone → ℤ → Option ℤ
day_offset (Fixed minutes) day =
    if int_le (neg_ℤ (pos 720)) minutes && int_le minutes (pos 840) then Some minutes else None
day_offset (Rule text) day = option_and_then (λ rule. in_minutes (noon_seconds rule day)) (read_whole text)

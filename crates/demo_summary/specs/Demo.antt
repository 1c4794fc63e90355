-- The order that a number stands for: a star of 65 positions around a centre, and 30 days.
use Rattle.std.specs.Prelude.{ℕ, zero, suc, ◌+◌, ◌*◌, ◌/◌, ◌%◌, ◌==◌, if◌then◌else◌, ℤ, pos, ◌+ℤ◌, ◌-ℤ◌, ◌*ℤ◌, List, [], ◌∷◌, ◌++◌, None, replicate}
use Rattle.std.specs.Int.{int_div_euclid}
use Rattle.method_table.specs.declared.method.Asr.{Asr}
use Rattle.method_table.specs.declared.method.Asr.TheVariants.{Hanafi, Standard}
use Rattle.method_table.specs.declared.method.Method.{Method}
use Rattle.method_table.specs.declared.method.Method.TheVariants.{Egypt, Isna, Jafari, Karachi, Makkah, Mwl, Tehran}
use Rattle.order_rule.specs.Asked.{Asked}
use Rattle.ring_survey.specs.Polygons.{Position, Ring}
use Rattle.method_table.specs.declared.sun.SunChoice.TheVariants.{Usno}
use Rattle.year_table.specs.declared.zone.Zone.TheVariants.{Fixed}
use Rattle.demo_summary.specs.Numbers.{drawn}

-- of the table of methods, from 0
abbrev pub method_by : ℕ → Method
method_by n =
    if n == 0 then Mwl
    else if n == 1 then Isna
    else if n == 2 then Egypt
    else if n == 3 then Karachi
    else if n == 4 then Makkah
    else if n == 5 then Tehran
    else Jafari

abbrev pub demo_method : ℕ → Method
demo_method number = method_by (drawn number 3 % 7)

abbrev pub demo_asr : ℕ → Asr
demo_asr number = if drawn number 4 % 2 == 0 then Standard else Hanafi

-- a day of the year 2025, which begins 20,089 days after 1970-01-01
abbrev pub demo_from : ℕ → ℤ
demo_from number = pos 20089 +ℤ pos (drawn number 5 % 365)

-- the centre in microdegrees: whole degrees
unfoldable pub centre : ℕ → Position
centre number = (
  (pos (drawn number 1 % 340) -ℤ pos 170) *ℤ pos 1000000,
  (pos (drawn number 2 % 81) -ℤ pos 40) *ℤ pos 1000000,
)

-- whole hours, those of the nearest multiple of 15 degrees
abbrev pub offset_at : ℤ → ℤ
offset_at longitude = pos 60 *ℤ int_div_euclid (longitude +ℤ pos 7500000) (pos 15000000)

abbrev pub demo_offset : ℕ → ℤ
demo_offset number = offset_at (centre number).0

-- ---- the ring

-- once around a square, 16 directions a side, from its corner in the southeast
abbrev pub direction_on : ℕ → ℕ → Position
direction_on side t =
    if side == 0 then (pos 16, pos (2 * t) -ℤ pos 16)
    else if side == 1 then (pos 16 -ℤ pos (2 * t), pos 16)
    else if side == 2 then (pos 0 -ℤ pos 16, pos 16 -ℤ pos (2 * t))
    else (pos (2 * t) -ℤ pos 16, pos 0 -ℤ pos 16)

abbrev pub direction : ℕ → Position
direction i = direction_on (i / 16) (i % 16)

-- how far out a position lies in its direction
abbrev pub distance : ℕ → ℕ → ℕ
distance number i = 1000 + drawn number (6 + i) % 9000

unfoldable pub position_at : ℕ → ℕ → Position
position_at number i = (
  (centre number).0 +ℤ pos (distance number i) *ℤ (direction i).0,
  (centre number).1 +ℤ pos (distance number i) *ℤ (direction i).1,
)

-- so many positions from the one of this number on
unfoldable pub positions_from : ℕ → ℕ → ℕ → List Position
positions_from number i zero = []
positions_from number i (suc n) = position_at number i ∷ positions_from number (i + 1) n

-- 64 positions, and the first again
unfoldable pub demo_ring : ℕ → Ring
demo_ring number = positions_from number 0 64 ++ position_at number 0 ∷ []

-- ---- the order

unfoldable pub demo_asked : ℕ → Asked
demo_asked number = record {
  from_day = demo_from number;
  days = 30;
  method = demo_method number;
  asr = demo_asr number;
  zone = Fixed (demo_offset number);
  offsets = replicate 30 (demo_offset number);
  height = 0;
  late = [];
  sun = Usno;
  night = None;
  district = (demo_ring number ∷ []) ∷ [];
}

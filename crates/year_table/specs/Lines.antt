-- The lines of a table. Each ends with LF.
use Rattle.std.specs.Prelude.{ℕ, ◌++◌, ◌==◌, if◌then◌else◌, ℤ, List, [], Option, codes, decimal, flat_map, zip}
use Rattle.std.specs.Fmt.{signed_decimal}
use Rattle.cell_split.specs.declared.cell.Cell.{Cell}
use Rattle.cell_split.specs.declared.verdict.Entry.{Entry}
use Rattle.cell_split.specs.declared.verdict.Entry.TheVariants.{Open}
use Rattle.method_table.specs.declared.method.Asr.{Asr}
use Rattle.method_table.specs.declared.method.Method.{Method}
use Rattle.method_table.specs.declared.problem.Problem.{Problem}
use Rattle.method_table.specs.Method.{asr_word, method_word}
use Rattle.method_table.specs.Row.{Row, column_word, row_of}
use Rattle.method_table.specs.declared.sun.SunChoice.{SunChoice}
use Rattle.method_table.specs.declared.sun.SunChoice.TheVariants.{Meeus, Usno}
use Rattle.year_table.specs.declared.zone.Zone.{Zone}
use Rattle.year_table.specs.declared.zone.Zone.TheVariants.{Fixed, Rule}
use Rattle.year_table.specs.Dates.{date_text}
use Rattle.year_table.specs.Entries.{entry_text, given_text, rank_text}

-- a space and an entry
abbrev pub cell_text : Problem × Entry → List ℕ
cell_text x = codes " " ++ entry_text (row_of x.0) x.1

-- the date, and the entries in the order of the columns
abbrev pub day_line : ℤ → List Problem → List Entry → List ℕ
day_line day problems entries = date_text day ++ flat_map cell_text (zip problems entries) ++ codes "\n"

-- the corner of a cell in place units, and its rank
abbrev pub place_text : Cell → List ℕ
place_text c = signed_decimal c.x ++ codes " " ++ signed_decimal c.y ++ codes " rank " ++ decimal c.first

abbrev pub open_text : List ℕ → List ℕ → List ℕ → List ℕ → List ℕ
open_text column safe from place =
    codes "open " ++ column ++ codes " safe " ++ safe ++ codes " from " ++ from ++ codes " cell " ++ place ++ codes "\n"

-- what is left undecided of an entry; an entry that isn't open has no such line
abbrev pub open_line : Row → Entry → List ℕ
open_line p (Open safe from cell) = open_text (column_word p.column) (rank_text p safe) (rank_text p from) (place_text cell)
open_line p _ = []

-- Fajr and Isha of a night
abbrev pub night_line : Option ℤ → Option ℤ → List ℕ
night_line fajr isha = codes "night fajr " ++ given_text fajr ++ codes " isha " ++ given_text isha ++ codes "\n"

abbrev pub end_line : ℕ → ℕ → List ℕ
end_line days undecided = codes "end days " ++ decimal days ++ codes " open " ++ decimal undecided ++ codes "\n"

-- a fixed offset in minutes, or `rule`
abbrev pub zone_text : Zone → List ℕ
zone_text (Fixed minutes) = signed_decimal minutes
zone_text (Rule text) = codes "rule"

-- the height, where there is one
abbrev pub height_text : ℕ → List ℕ
height_text height = if height == 0 then [] else codes " height " ++ decimal height

-- the sun, where it isn't the observatory's
abbrev pub sun_text : SunChoice → List ℕ
sun_text Usno = []
sun_text Meeus = codes " sun meeus"

abbrev pub words_text : Method → Asr → Zone → List ℕ
words_text method asr zone = codes "method " ++ method_word method ++ codes " asr " ++ asr_word asr ++ codes " zone " ++ zone_text zone

abbrev pub span_text : List ℕ → ℕ → List ℕ
span_text date days = codes "from " ++ date ++ codes " days " ++ decimal days

-- what the order asked for: its days, its words, and how many positions its district has
abbrev pub order_text : List ℕ → List ℕ → ℕ → List ℕ
order_text span words positions = span ++ codes " " ++ words ++ codes " positions " ++ decimal positions

-- the first three lines, of what was asked, the height and the sun
abbrev pub head_text : List ℕ → List ℕ → List ℕ → List ℕ
head_text order height sun =
    codes "prayer timetable 1\n" ++ order ++ height ++ sun ++ codes "\ndate         fajr  f.end  dhuhr    asr   magh  m.end   isha\n"

abbrev pub table_head : ℤ → ℕ → Method → Asr → Zone → ℕ → ℕ → SunChoice → List ℕ
table_head day days method asr zone positions height sun =
    head_text (order_text (span_text (date_text day) days) (words_text method asr zone) positions) (height_text height) (sun_text sun)

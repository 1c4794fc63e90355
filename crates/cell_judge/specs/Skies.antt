-- What the judge of the sky answers on a cell: Outside where no place of the box is in the district, and else by the side of zero
-- on which the enclosure of the condition's value lies over the box and the minutes of the ranks.
use Rattle.std.specs.Prelude.{ℕ, ℤ, pos, int_lt, Bool, if◌then◌else◌, List, length, slice_index_or, Option, Some, None}
use Rattle.fixed_interval.specs.Grid.{Ends, Range}
use Rattle.solar_terms.specs.Sun.{SunTerms}
use Rattle.method_table.specs.declared.sun.SunChoice.{SunChoice}
use Rattle.meeus_terms.specs.Suns.{grid_sun_of}
use Rattle.altitude_test.specs.Values.{Box, grid_altitude_value, grid_meridian_value}
use Rattle.asr_test.specs.Asr.{grid_asr_value}
use Rattle.method_table.specs.declared.problem.Column.TheVariants.{Dhuhr}
use Rattle.method_table.specs.declared.problem.Kind.{Kind}
use Rattle.method_table.specs.declared.problem.Kind.TheVariants.{Above, Below, Past, Shadow}
use Rattle.method_table.specs.declared.problem.Side.{Side}
use Rattle.method_table.specs.declared.problem.Side.TheVariants.{Start, End}
use Rattle.method_table.specs.Row.{Row, row, time_of}
use Rattle.plane_edges.specs.declared.points.Point.{Point}
use Rattle.plane_edges.specs.Plane.{Place}
use Rattle.ring_survey.specs.Polygons.{Polygon}
use Rattle.region.specs.Named.{named}
use Rattle.cell_split.specs.declared.cell.Cell.{Cell}
use Rattle.cell_split.specs.declared.verdict.Verdict.{Verdict}
use Rattle.cell_split.specs.declared.verdict.Verdict.TheVariants.{Outside, Proved, Refuted, Split, Open}
use Rattle.cell_split.specs.Cells.{is_smallest}
use Rattle.cell_split.specs.Judges.{Content}
use Rattle.cell_split.specs.Laws.{box_of}
use Rattle.cell_judge.specs.Conditions.{angles, holds_above}
use Rattle.cell_judge.specs.Points.{point_of}

-- a later rank is a later minute of a start, and an earlier minute of an end
abbrev pub between : Side → ℤ → ℤ → Range
between Start first last = record { lo = first; hi = last }
between End first last = record { lo = last; hi = first }

-- the minutes of a cell's ranks
abbrev pub minutes_at : Row → Cell → Range
minutes_at row cell = between row.side (time_of row cell.first) (time_of row cell.last)

-- the places of a cell's box
abbrev pub places_at : Cell → Box
places_at cell = let box = box_of cell in record {
  x = record { lo = box.x0; hi = box.x1 };
  y = record { lo = box.y0; hi = box.y1 };
}

-- the enclosure of a kind's value over minutes and places, with the sun's terms on the grid
unfoldable pub grid_value : (Range → SunTerms) → Kind → Range → Box → Ends
grid_value grid (Above low high) m places = grid_altitude_value (grid m) m places (angles low high)
grid_value grid (Below low high) m places = grid_altitude_value (grid m) m places (angles low high)
grid_value grid Past m places = grid_meridian_value (grid m) m places
grid_value grid (Shadow factor) m places = grid_asr_value (grid m) m places factor

-- the enclosure lies wholly above zero, or wholly below
abbrev pub lies_above : Ends → Bool
lies_above e = int_lt (pos 0) e.lo

abbrev pub lies_below : Ends → Bool
lies_below e = int_lt e.hi (pos 0)

-- the enclosure lies wholly on the side of zero where the condition holds, or wholly on the other
abbrev pub shows_held : Kind → Ends → Bool
shows_held kind e = if holds_above kind then lies_above e else lies_below e

abbrev pub shows_failed : Kind → Ends → Bool
shows_failed kind e = if holds_above kind then lies_below e else lies_above e

-- the verdict by the enclosure, with a place of the district in the box
unfoldable pub verdict_at : Kind → Ends → Cell → Point → Verdict
verdict_at kind e cell p =
    if shows_held kind e then Proved
    else if shows_failed kind e then Refuted p
    else if is_smallest cell then Open p
    else Split

-- the same over the minutes of the cell's ranks and its box
unfoldable pub verdict_with : (Range → SunTerms) → Row → Cell → Point → Verdict
verdict_with grid row cell p =
    verdict_at row.kind (grid_value grid row.kind (minutes_at row cell) (places_at cell)) cell p

abbrev pub verdict_by : (Range → SunTerms) → Row → Cell → Option Place → Verdict
verdict_by grid row cell None = Outside
verdict_by grid row cell (Some p) = verdict_with grid row cell (point_of p)

-- the verdict on a cell for a problem over a district
unfoldable pub verdict_on : (Range → SunTerms) → Row → List Polygon → Cell → Verdict
verdict_on grid row polygons cell = verdict_by grid row cell (named (box_of cell) polygons)

-- the row of a problem; past the last one no row is asked for
abbrev pub row_at : List Row → ℕ → Row
row_at rows k = slice_index_or rows k (row Dhuhr Start (pos 0) (pos 0) Past (pos 0))

-- the judge of a day's rows over a district, under the sun of this choice
abbrev pub sky_content : SunChoice → List Polygon → List Row → Cell → Content
sky_content sun polygons rows root = record {
  problems = length rows;
  root = root;
  verdict = λ t. verdict_on (grid_sun_of sun) (row_at rows t.problem) polygons t.cell;
}

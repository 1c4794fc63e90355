-- The entries of a day, whoever searches.
use Rattle.std.specs.Prelude.{List}
use Rattle.cell_split.specs.declared.cell.Cell.{Cell}
use Rattle.cell_split.specs.declared.verdict.Entry.{Entry}
use Rattle.order_table.specs.Made.{rows_of}
use Rattle.order_table.specs.Trees.{entries_of}
use Rattle.order_table.specs.declared.day.Day.{Day}
use Rattle.ring_survey.specs.Polygons.{Polygon}
use Rattle.method_table.specs.declared.sun.SunChoice.{SunChoice}

-- of a sky over a district, seven to a day
abbrev pub entries_on : SunChoice → List Polygon → Cell → Day → List Entry
entries_on sun polygons root day = entries_of sun polygons root (rows_of day)

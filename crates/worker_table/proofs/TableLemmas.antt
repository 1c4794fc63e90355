-- The entries that were found for a day.
use Rattle.std.proofs.Common.{◌≡◌, ℕ, ◌<◌, List, length, map, get_or, sym, ap, ◌∙◌}
use Rattle.std.proofs.lemmas.List.{get_or-map}
use Rattle.cell_split.specs.declared.cell.Cell.{Cell}
use Rattle.cell_split.specs.declared.verdict.Entry.{Entry}
use Rattle.ring_survey.specs.Polygons.{Polygon}
use Rattle.method_table.specs.declared.sun.SunChoice.{SunChoice}
use Rattle.order_table.specs.declared.day.Day.{Day}
use Rattle.worker_table.specs.Entries.{entries_on}

-- what was found for a day are its entries
pub found_day : (sun : SunChoice) (polygons : List Polygon) (root : Cell) (days : List Day) (entries : List (List Entry)) (i : ℕ) (day : Day) (d : List Entry) →
    entries ≡ map (entries_on sun polygons root) days → i < length days → day ≡ get_or days i day →
    get_or entries i d ≡ entries_on sun polygons root day
found_day sun polygons root days entries i day d are within is =
    ap (λ (es : List (List Entry)). get_or es i d) are ∙ get_or-map (entries_on sun polygons root) days i day d within
    ∙ ap (entries_on sun polygons root) (sym is)

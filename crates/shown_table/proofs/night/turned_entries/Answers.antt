use Rattle.std.proofs.Common.{◌≡◌, ◌∙◌, List, ap, map, subst, sym}
use Rattle.std.specs.Prelude.{None}
use Rattle.cell_split.specs.declared.cell.Cell.{Cell}
use Rattle.method_table.specs.Row.{row_of}
use Rattle.method_table.specs.declared.problem.Problem.{Problem}
use Rattle.ring_survey.specs.Faults.{first_fault}
use Rattle.ring_survey.specs.Polygons.{Polygon}
use Rattle.method_table.specs.declared.sun.SunChoice.{SunChoice}
use Rattle.order_table.specs.Trees.{night_columns}
use Rattle.shown_table.specs.Came.{ShowsEntries}
use Rattle.shown_table.specs.Shown.{entries_shown, sun_shown_at}
use Rattle.shown_table.proofs.DayLemmas.{over, sun_printable_if}
use Rattle.shown_table.proofs.night.turned_entries.Goals as goal

pub sun_entries-requires-clause-turned : goal.sun_entries-requires-clause-turned
sun_entries-requires-clause-turned c = ap (λ (ps : List Problem). map row_of ps) c.turn_to.ensures.problems_are ∙ c.repeated.ensures.rows

pub returns-clause-shows : goal.returns-clause-shows
returns-clause-shows c =
    over (λ (sun : SunChoice) (polygons : List Polygon) (root : Cell). ShowsEntries
    (entries_shown (sun_shown_at sun polygons root c.args.day.now.number (map row_of c.args.night.now.problems)) night_columns
    c.args.lines.now.number c.args.lines.now.text.now)
    c.sun_entries.result c.sun_entries.new.lines.text.now)
    c.turn_to.new.self.sun c.args.sky.now.sun c.turn_to.new.self.district c.args.sky.now.district c.turn_to.new.self.root c.args.sky.now.root
    c.turn_to.ensures.sun_is c.turn_to.ensures.district_is c.turn_to.ensures.root_is c.sun_entries.ensures.shows

pub returns-clause-printable : goal.returns-clause-printable
returns-clause-printable c =
    sun_printable_if c.turn_to.new.self c.args.day.now.number c.args.night.now
    (subst (λ (polygons : List Polygon). first_fault polygons ≡ None) (sym c.turn_to.ensures.district_is) c.requires.sound)
    c.args.lines.now.number c.args.lines.now.text.now c.sun_entries.result c.sun_entries.new.lines.text.now c.sun_entries.ensures.shows

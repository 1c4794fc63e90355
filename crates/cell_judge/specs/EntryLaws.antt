-- What is true of the entries of the table, as sentences.
use Rattle.std.specs.Prelude.{◌≡◌, ◌<◌, ℕ, None}
use Rattle.solar_terms.specs.SunLaws.{IsSunSource}
use Rattle.method_table.specs.Kind.{IsKind}
use Rattle.plane_edges.specs.Plane.{Place, IsIn}
use Rattle.ring_survey.specs.Extent.{longitudes, latitudes, least}
use Rattle.ring_survey.specs.Faults.{first_fault}
use Rattle.cell_split.specs.declared.cell.Cell.{Cell}
use Rattle.cell_split.specs.declared.cell.Task.{Task}
use Rattle.cell_split.specs.declared.verdict.Entry.{Entry}
use Rattle.cell_split.specs.Cells.{root_at}
use Rattle.cell_split.specs.Entries.{entry_of}
use Rattle.cell_split.specs.Judges.{Content, IsLawful, IsTask}
use Rattle.cell_split.specs.Laws.{box_of}
use Rattle.cell_split.specs.Tree.{leaves, root_task}
use Rattle.cell_judge.specs.Scenes.{Scene, IsPlaceOf, HoldsAt, FailsAt, IsTrueVerdict}
use Rattle.cell_judge.specs.RightEntries.{IsRight, IsDecided}

-- every place of the district lies in the box of the root
abbrev pub LiesInRoot : Scene → Cell → Type 0
LiesInRoot s root = (p : Place) → IsPlaceOf s p → IsIn (box_of root) p

-- the root at the least longitude and latitude of a district has the whole district in its box
abbrev pub DistrictsLieInTheirRoot : Type 0
DistrictsLieInTheirRoot = (s : Scene) → first_fault s.polygons ≡ None →
    LiesInRoot s (root_at (least (longitudes s.polygons)) (least (latitudes s.polygons)))

-- the judge's verdicts on a problem are true
abbrev pub TellsTruth : Content → ℕ → Scene → Type 0
TellsTruth c k s = (t : Task) → IsTask c t → t.problem ≡ k → IsTrueVerdict s t.cell (c.verdict t)

-- the entry of a judge whose verdicts are true is right
abbrev pub TrueVerdictsMakeRightEntries : Type 0
TrueVerdictsMakeRightEntries =
    (c : Content) → IsLawful c → (k : ℕ) → k < c.problems → (s : Scene) → LiesInRoot s c.root → TellsTruth c k s →
    IsRight s c.root (entry_of (leaves c (root_task c k)))

-- at no place and rank does a condition both hold and fail
abbrev pub ConditionsAreOneSided : Type 0
ConditionsAreOneSided =
    (s : Scene) → IsSunSource s.sun → IsKind s.row.kind → (p : Place) (rank : ℕ) → HoldsAt s p rank → FailsAt s p rank → ⊥

-- of all entries that are no undecided ones at most one is right
abbrev pub OneDecidedEntryIsRight : Type 0
OneDecidedEntryIsRight =
    (s : Scene) → IsSunSource s.sun → IsKind s.row.kind → (root : Cell) (e f : Entry) → IsDecided e → IsDecided f →
    IsRight s root e → IsRight s root f → e ≡ f

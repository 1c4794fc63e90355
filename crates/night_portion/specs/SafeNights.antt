-- When the minutes of a night are safe: at every rational place of the district, whichever minutes are the place's own.
use Rattle.std.specs.Prelude.{◌≡◌, ◌≢◌, ◌⊎◌, ℤ, pos, neg_ℤ, ◌+ℤ◌, ◌*ℤ◌, ◌≤ℤ◌, List, Some}
use Rattle.solar_terms.specs.SunLaws.{SunSource}
use Rattle.method_table.specs.declared.method.Method.{Method}
use Rattle.method_table.specs.declared.method.Method.TheVariants.{Makkah}
use Rattle.method_table.specs.declared.problem.Side.TheVariants.{Start}
use Rattle.method_table.specs.Row.{Row}
use Rattle.night_rule.specs.declared.rule.NightRule.{NightRule}
use Rattle.plane_edges.specs.Plane.{Place}
use Rattle.ring_survey.specs.Polygons.{Polygon}
use Rattle.cell_split.specs.declared.cell.Cell.{Cell}
use Rattle.cell_split.specs.declared.verdict.Entry.{Entry}
use Rattle.cell_judge.specs.Conditions.{Holds}
use Rattle.cell_judge.specs.RightEntries.{IsRight}
use Rattle.cell_judge.specs.Scenes.{Scene, IsPlaceOf}
use Rattle.cell_judge.specs.SkyLaws.{IsRow}
use Rattle.night_portion.specs.Bounds.{IsPortion, weighted}
use Rattle.night_portion.specs.Minutes.{Night, fajr_minute, isha_minute, portion_of}

-- ---- the minutes of a place

-- the condition holds at the place from this local minute of the frame to the frame's end
pub record HoldsFrom (s : Scene) (p : Place) (minute : ℤ) : Type 0 where
  pub from_first : s.row.first ≤ℤ minute
  pub to_last : minute ≤ℤ s.row.last
  pub holds : (later : ℤ) → minute ≤ℤ later → later ≤ℤ s.row.last → Holds s.sun s.row.kind (s.row.base +ℤ later) p

-- it does from some minute on
abbrev pub HoldsAtLast : Scene → Place → Type 0
HoldsAtLast s p = (minute : ℤ) × HoldsFrom s p minute

-- the place's own minute: the least from which on it does
pub record IsOwnMinute (s : Scene) (p : Place) (minute : ℤ) : Type 0 where
  pub holds : HoldsFrom s p minute
  pub least : (other : ℤ) → HoldsFrom s p other → minute ≤ℤ other

-- ---- what a minute is safe by

-- a minute that is no earlier than the place's own
pub record IsPastOwn (s : Scene) (p : Place) (minute : ℤ) : Type 0 where
  pub past : (own : ℤ) → IsOwnMinute s p own → own ≤ℤ minute
  pub holds : HoldsAtLast s p

-- a minute that is no earlier than ((b - a) from + a (to + days)) / b, of the place's own minutes of two conditions
pub record IsPastPart (from to : Scene) (p : Place) (days a b minute : ℤ) : Type 0 where
  pub is_part : IsPortion a b
  pub past : (f t : ℤ) → IsOwnMinute from p f → IsOwnMinute to p t → weighted f (t +ℤ days) a b ≤ℤ (minute *ℤ b)
  pub from_holds : HoldsAtLast from p
  pub to_holds : HoldsAtLast to p

-- ---- a night over a district, under a sun

abbrev pub scene_over : SunSource → List Polygon → Row × Entry → Scene
scene_over sun polygons x = record { sun = sun; row = x.0; polygons = polygons }

-- no earlier than the place's own Fajr, and no earlier than the part of the night before the place's own sunrise
pub record IsSafeFajr (sun : SunSource) (polygons : List Polygon) (rule : NightRule) (n : Night) (p : Place) (minute : ℤ) : Type 0 where
  pub own : IsPastOwn (scene_over sun polygons n.fajr) p minute
  pub part :
      IsPastPart (scene_over sun polygons n.rise) (scene_over sun polygons n.set) p (neg_ℤ (pos 1440)) (portion_of rule n.fajr).0 (portion_of rule n.fajr).1 minute

-- no earlier than the place's own Isha, or no earlier than the part of the night after the place's own sunset
abbrev pub IsSafeIsha : SunSource → List Polygon → NightRule → Night → Place → ℤ → Type 0
IsSafeIsha sun polygons rule n p minute =
    IsPastOwn (scene_over sun polygons n.isha) p minute
    ⊎ IsPastPart (scene_over sun polygons n.set) (scene_over sun polygons n.rise) p (pos 1440) (portion_of rule n.isha).0 (portion_of rule n.isha).1 minute

-- The minutes that are given are safe at every place of the district. Where Isha follows Maghrib after an interval, nothing is
-- said of it.
pub record IsSafeNight (sun : SunSource) (polygons : List Polygon) (rule : NightRule) (method : Method) (n : Night) : Type 0 where
  pub fajr : (minute : ℤ) → fajr_minute rule n ≡ Some minute → (p : Place) → IsPlaceOf (scene_over sun polygons n.fajr) p →
      IsSafeFajr sun polygons rule n p minute
  pub isha : method ≢ Makkah → (minute : ℤ) → isha_minute rule method n ≡ Some minute → (p : Place) → IsPlaceOf (scene_over sun polygons n.isha) p →
      IsSafeIsha sun polygons rule n p minute

-- ---- what that rests on

-- a row like those of the table, of which the least minute is sought
pub record IsStart (row : Row) : Type 0 where
  pub is_row : IsRow row
  pub starts : row.side ≡ Start

pub record AreStarts (n : Night) : Type 0 where
  pub fajr : IsStart n.fajr.0
  pub isha : IsStart n.isha.0
  pub rise : IsStart n.rise.0
  pub set : IsStart n.set.0

-- each entry is right for its row, or open as said
pub record AreRight (sun : SunSource) (polygons : List Polygon) (root : Cell) (n : Night) : Type 0 where
  pub fajr : IsRight (scene_over sun polygons n.fajr) root n.fajr.1
  pub isha : IsRight (scene_over sun polygons n.isha) root n.isha.1
  pub rise : IsRight (scene_over sun polygons n.rise) root n.rise.1
  pub set : IsRight (scene_over sun polygons n.set) root n.set.1

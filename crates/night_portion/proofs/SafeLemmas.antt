-- The minutes of a night are safe.
use Rattle.std.proofs.Common.{◌≡◌, ◌≢◌, ◌∙◌, ℕ, ◌≤◌, ◌==◌, Bool, true, false, cond, ◌⊎◌, inl, inr, ℤ, pos, neg_ℤ, ◌+ℤ◌, ◌-ℤ◌, ◌≤ℤ◌, unsigned_abs, List, Option, Some, None, refl, sym, ap, subst, arith}
use Rattle.std.specs.Prelude.{int_lt}
use Rattle.std.specs.Int.{int_max, int_min}
use Rattle.std.proofs.lemmas.Bool.Decides.{nat_tests}
use Rattle.std.proofs.lemmas.Int.{ints, clamps}
use Rattle.solar_terms.specs.SunLaws.{SunSource}
use Rattle.method_table.specs.declared.method.Method.{Method}
use Rattle.method_table.specs.declared.method.Method.TheVariants.{Mwl, Isna, Egypt, Karachi, Makkah, Tehran, Jafari}
use Rattle.method_table.specs.declared.problem.Kind.{Kind}
use Rattle.method_table.specs.declared.problem.Kind.TheVariants.{Above, Below, Past, Shadow}
use Rattle.method_table.specs.declared.problem.Side.{Side}
use Rattle.method_table.specs.declared.problem.Side.TheVariants.{Start}
use Rattle.method_table.specs.Kind.{IsKind}
use Rattle.method_table.specs.Row.{Row, minute_at, minute_of, time_of}
use Rattle.night_rule.specs.declared.rule.NightRule.{NightRule}
use Rattle.night_rule.specs.declared.rule.NightRule.TheVariants.{Half, Seventh, ByAngle}
use Rattle.plane_edges.specs.Plane.{Place}
use Rattle.ring_survey.specs.Polygons.{Polygon}
use Rattle.plane_edges.proofs.Products.{times_mono}
use Rattle.cell_split.specs.declared.cell.Cell.{Cell}
use Rattle.cell_split.specs.declared.verdict.Entry.{Entry}
use Rattle.cell_split.specs.declared.verdict.Entry.TheVariants.{Minute, Whole, Never, Open}
use Rattle.cell_judge.specs.Conditions.{Holds}
use Rattle.cell_judge.specs.RightEntries.{IsRight, IsSafeFrom}
use Rattle.cell_judge.specs.Scenes.{Scene, HoldsAt, IsPlaceOf}
use Rattle.night_portion.specs.Bounds.{IsPortion, fajr_bound, isha_bound, part_way, portion, weighted}
use Rattle.night_portion.specs.Laws.{NightsAreSafe}
use Rattle.night_portion.specs.Minutes.{angle_of, earlier, fajr_by, fajr_minute, isha_by, isha_limit, isha_minute, portion_of, safe_minute, safe_rank}
use Rattle.night_portion.specs.SafeNights.{HoldsFrom, IsPastOwn, IsPastPart, IsStart, scene_over}
use Rattle.night_portion.proofs.BoundLemmas.{ceiling_is}

-- ---- a right entry's safe rank

safe_from : (s : Scene) (root : Cell) (e : Entry) → IsRight s root e → safe_rank e ≤ 720 → IsSafeFrom s (safe_rank e)
safe_from s root (Minute rank) right last = right.safe
safe_from s root Whole right last = right
safe_from s root Never right last = absurd (omega arith)
safe_from s root (Open safe from cell) right last = right.safe_from

in_frame : (s : Scene) (root : Cell) (e : Entry) → IsRight s root e → safe_rank e ≤ 721
in_frame s root (Minute rank) right = let last = right.in_frame in omega arith
in_frame s root Whole right = omega arith
in_frame s root Never right = omega arith
in_frame s root (Open safe from cell) right = right.in_frame

-- where there is a minute, the rank is the frame's
record IsMinuteOf (m : ℤ) (row : Row) (rank : ℕ) : Type 0 where
  last : rank ≤ 720
  is_minute : m ≡ minute_of row rank

minute_is : (row : Row) (rank : ℕ) (m : ℤ) → rank ≤ 721 → cond (rank == 721) None (Some (minute_of row rank)) ≡ Some m → IsMinuteOf m row rank
minute_is row rank m within is = by (rank == 721) refl is where
  by : (t : Bool) → (rank == 721) ≡ t → cond t None (Some (minute_of row rank)) ≡ Some m → IsMinuteOf m row rank
  by true e is = absurd cc
  by false e is = record { last = grind (arith, nat_tests, e, within); is_minute = cc }

-- ---- minutes from which on a condition holds

minute_of_start : (row : Row) (rank : ℕ) → row.side ≡ Start → minute_of row rank ≡ row.first +ℤ pos rank
minute_of_start row rank starts = ap (λ (side : Side). minute_at side row.first row.last rank) starts

holds_at : (s : Scene) (p : Place) (rank : ℕ) (later : ℤ) → HoldsAt s p rank → time_of s.row rank ≡ s.row.base +ℤ later → Holds s.sun s.row.kind (s.row.base +ℤ later) p
unfolding HoldsAt
holds_at s p rank later holds same = subst (λ k. Holds s.sun s.row.kind k p) same holds

holds_from : (s : Scene) (p : Place) (rank : ℕ) → IsStart s.row → rank ≤ 720 → IsSafeFrom s rank → IsPlaceOf s p → HoldsFrom s p (minute_of s.row rank)
holds_from s p rank is last safe place =
    let own = minute_of_start s.row rank is.starts in
    let framed = is.is_row.framed in
    record {
      from_first = omega (arith, ints, own);
      to_last = omega (arith, ints, own, framed);
      holds = λ later from to.
          let k = unsigned_abs (later -ℤ s.row.first) in
          let there = minute_of_start s.row k is.starts in
          let same : minute_of s.row k ≡ later = omega (arith, ints, own, there, from) in
          holds_at s p k later (safe.holds p place k (omega (arith, ints, own, from)) (omega (arith, ints, own, from, to, framed))) (ap (λ (m : ℤ). s.row.base +ℤ m) same);
    }

-- a minute that an entry gives
pub given_holds : (sun : SunSource) (polygons : List Polygon) (root : Cell) (x : Row × Entry) (m : ℤ) (p : Place) → IsStart x.0 →
    IsRight (scene_over sun polygons x) root x.1 → safe_minute x ≡ Some m → IsPlaceOf (scene_over sun polygons x) p → HoldsFrom (scene_over sun polygons x) p m
given_holds sun polygons root x m p start right is place =
    let s = scene_over sun polygons x in
    let given = minute_is x.0 (safe_rank x.1) m (in_frame s root x.1 right) is in
    subst (HoldsFrom s p) (sym given.is_minute) (holds_from s p (safe_rank x.1) start given.last (safe_from s root x.1 right given.last) place)

past_own : (s : Scene) (p : Place) (m minute : ℤ) → HoldsFrom s p m → m ≤ℤ minute → IsPastOwn s p minute
past_own s p m minute holds after = record {
  past = λ own is. let before = is.least m holds in omega (arith, ints, before, after);
  holds = (m, holds);
}

-- ---- portions

-- the later both ends, the later the minute between them
weighted_mono : (f f' t t' a b : ℤ) → IsPortion a b → f ≤ℤ f' → t ≤ℤ t' → weighted f t a b ≤ℤ weighted f' t' a b
weighted_mono f f' t t' a b part h k =
    let early = times_mono f f' (b -ℤ a) (omega (arith, ints, part.at_most_all)) h in
    let late = times_mono t t' a part.not_negative k in
    omega (arith, ints, early, late)

past_part : (from to : Scene) (p : Place) (days a b f t minute : ℤ) → IsPortion a b → HoldsFrom from p f → HoldsFrom to p t →
    part_way f (t +ℤ days) a b ≤ℤ minute → IsPastPart from to p days a b minute
past_part from to p days a b f t minute part first second after =
    let reaches = (ceiling_is (weighted f (t +ℤ days) a b) b part.positive).reaches in
    let enough = times_mono (part_way f (t +ℤ days) a b) minute b (omega (arith, ints, part.positive)) after in
    record {
      is_part = part;
      past = λ f' t' own own'.
          let before = own.least f first in
          let before' = own'.least t second in
          let mono = weighted_mono f' f (t' +ℤ days) (t +ℤ days) a b part before (omega (arith, ints, before')) in
          omega (arith, ints, mono, reaches, enough);
      from_holds = (f, first);
      to_holds = (t, second);
    }

pub portion_is : (rule : NightRule) (kind : Kind) → IsKind kind → IsPortion (portion rule (angle_of kind)).0 (portion rule (angle_of kind)).1
portion_is Half kind is = record { not_negative = omega (arith, ints); at_most_all = omega (arith, ints); positive = omega (arith, ints); small = omega (arith, ints) }
portion_is Seventh kind is = record { not_negative = omega (arith, ints); at_most_all = omega (arith, ints); positive = omega (arith, ints); small = omega (arith, ints) }
portion_is ByAngle (Above low high) is =
    let range = is.above low high refl in
    record { not_negative = range.not_negative; at_most_all = omega (arith, ints, range.ordered, range.small); positive = omega (arith, ints); small = omega (arith, ints) }
portion_is ByAngle (Below low high) is =
    let range = is.below low high refl in
    record { not_negative = range.not_negative; at_most_all = omega (arith, ints, range.ordered, range.small); positive = omega (arith, ints); small = omega (arith, ints) }
portion_is ByAngle Past is = record { not_negative = omega (arith, ints); at_most_all = omega (arith, ints); positive = omega (arith, ints); small = omega (arith, ints) }
portion_is ByAngle (Shadow factor) is = record { not_negative = omega (arith, ints); at_most_all = omega (arith, ints); positive = omega (arith, ints); small = omega (arith, ints) }

-- ---- what a given minute is made of

-- the minutes of sunrise and sunset, with a bound that the minute is no earlier than
record IsBounded (ro so : Option ℤ) (bound : ℤ → ℤ → ℤ) (minute : ℤ) : Type 0 where
  rise : ℤ
  set : ℤ
  is_rise : ro ≡ Some rise
  is_set : so ≡ Some set
  after : bound rise set ≤ℤ minute

record IsFajr (part : ℤ × ℤ) (fo ro so : Option ℤ) (minute : ℤ) : Type 0 where
  own : ℤ
  is_own : fo ≡ Some own
  after_own : own ≤ℤ minute
  bounded : IsBounded ro so (λ r s. fajr_bound r s part.0 part.1) minute

fajr_parts : (part : ℤ × ℤ) (fo ro so : Option ℤ) (minute : ℤ) → fajr_by part fo ro so ≡ Some minute → IsFajr part fo ro so minute
fajr_parts part (Some f) (Some r) (Some s) minute is =
    let same : int_max f (fajr_bound r s part.0 part.1) ≡ minute = cc in
    record {
      own = f;
      is_own = refl;
      after_own = omega (arith, ints, clamps, same);
      bounded = record { rise = r; set = s; is_rise = refl; is_set = refl; after = omega (arith, ints, clamps, same) };
    }
fajr_parts part None ro so minute is = absurd cc
fajr_parts part (Some f) None so minute is = absurd cc
fajr_parts part (Some f) (Some r) None minute is = absurd cc

-- the lesser of two is one of them
either : (t : Bool) (m n minute : ℤ) → cond t n m ≡ minute → (m ≤ℤ minute) ⊎ (n ≤ℤ minute)
either true m n minute same = inr (omega (arith, ints, same))
either false m n minute same = inl (omega (arith, ints, same))

least_is : (m n minute : ℤ) → int_min m n ≡ minute → (m ≤ℤ minute) ⊎ (n ≤ℤ minute)
least_is m n minute same = either (int_lt n m) m n minute same

-- its own minute, or sunrise's and sunset's
record IsAfterOwn (io : Option ℤ) (minute : ℤ) : Type 0 where
  own : ℤ
  is_own : io ≡ Some own
  after : own ≤ℤ minute

isha_parts : (part : ℤ × ℤ) (io ro so : Option ℤ) (minute : ℤ) → earlier io (isha_limit part ro so) ≡ Some minute →
    IsAfterOwn io minute ⊎ IsBounded ro so (λ r s. isha_bound r s part.0 part.1) minute
isha_parts part (Some i) (Some r) (Some s) minute is =
    let same : int_min i (isha_bound r s part.0 part.1) ≡ minute = cc in
    elim (least_is i (isha_bound r s part.0 part.1) minute same) [
      | inl h ↦ inl (record { own = i; is_own = refl; after = h })
      | inr h ↦ inr (record { rise = r; set = s; is_rise = refl; is_set = refl; after = h })
    ]
isha_parts part (Some i) None so minute is = let same : i ≡ minute = cc in inl (record { own = i; is_own = refl; after = omega (arith, ints, same) })
isha_parts part (Some i) (Some r) None minute is = let same : i ≡ minute = cc in inl (record { own = i; is_own = refl; after = omega (arith, ints, same) })
isha_parts part None (Some r) (Some s) minute is =
    let same : isha_bound r s part.0 part.1 ≡ minute = cc in
    inr (record { rise = r; set = s; is_rise = refl; is_set = refl; after = omega (arith, ints, same) })
isha_parts part None None so minute is = absurd cc
isha_parts part None (Some r) None minute is = absurd cc

-- a method whose Isha doesn't follow Maghrib after an interval
by_angle : (method : Method) (interval : ℤ) (part : ℤ × ℤ) (i r s : Option ℤ) → method ≢ Makkah → isha_by method interval part i r s ≡ earlier i (isha_limit part r s)
by_angle Makkah interval part i r s not = absurd (not refl)
by_angle Mwl interval part i r s not = refl
by_angle Isna interval part i r s not = refl
by_angle Egypt interval part i r s not = refl
by_angle Karachi interval part i r s not = refl
by_angle Tehran interval part i r s not = refl
by_angle Jafari interval part i r s not = refl

-- ---- the law

-- a place of one row's district is one of another's
same_place : (sun : SunSource) (polygons : List Polygon) (x y : Row × Entry) (p : Place) → IsPlaceOf (scene_over sun polygons x) p → IsPlaceOf (scene_over sun polygons y) p
same_place sun polygons x y p place = record { positive = place.positive; inside = place.inside }

pub nights_are_safe : NightsAreSafe
unfolding fajr_minute isha_minute
nights_are_safe sun polygons root rule method n starts right = record {
  fajr = λ minute is p place.
      let parts = fajr_parts (portion_of rule n.fajr) (safe_minute n.fajr) (safe_minute n.rise) (safe_minute n.set) minute is in
      let own = given_holds sun polygons root n.fajr parts.own p starts.fajr right.fajr parts.is_own place in
      let rise = given_holds sun polygons root n.rise parts.bounded.rise p starts.rise right.rise parts.bounded.is_rise (same_place sun polygons n.fajr n.rise p place) in
      let set = given_holds sun polygons root n.set parts.bounded.set p starts.set right.set parts.bounded.is_set (same_place sun polygons n.fajr n.set p place) in
      record {
        own = past_own _ p parts.own minute own parts.after_own;
        part = past_part _ _ p (neg_ℤ (pos 1440)) _ _ parts.bounded.rise parts.bounded.set minute (portion_is rule n.fajr.0.kind starts.fajr.is_row.kind) rise set parts.bounded.after;
      };
  isha = λ not minute is p place.
      elim (isha_parts (portion_of rule n.isha) (safe_minute n.isha) (safe_minute n.rise) (safe_minute n.set) minute
      (sym (by_angle method n.isha.0.shift (portion_of rule n.isha) (safe_minute n.isha) (safe_minute n.rise) (safe_minute n.set) not) ∙ is)) [
        | inl parts ↦ inl (past_own _ p parts.own minute (given_holds sun polygons root n.isha parts.own p starts.isha right.isha parts.is_own place) parts.after)
        | inr parts ↦ inr (past_part _ _ p (pos 1440) _ _ parts.set parts.rise minute (portion_is rule n.isha.0.kind starts.isha.is_row.kind)
            (given_holds sun polygons root n.set parts.set p starts.set right.set parts.is_set (same_place sun polygons n.isha n.set p place))
            (given_holds sun polygons root n.rise parts.rise p starts.rise right.rise parts.is_rise (same_place sun polygons n.isha n.rise p place)) parts.after)
      ];
}

-- The laws on verdicts: each is true, by the place that is named and the tests of the enclosure.
use Rattle.std.proofs.Common.{◌≡◌, ℕ, zero, suc, [], ◌∷◌, ◌^◌, ◌≤◌, Bool, true, false, ◌==◌, cond, List, Option, Some, None, refl, sym, ap, subst, ◌∙◌, arith}
use Rattle.std.specs.Prelude.{ℤ, pos, ◌+ℤ◌, unsigned_abs, MatchBool, MatchOption}
use Rattle.std.proofs.lemmas.Bool.{false≢true}
use Rattle.std.proofs.lemmas.Bool.Decides.{nat_tests}
use Rattle.std.proofs.lemmas.Int.{ints}
use Rattle.std.proofs.lemmas.List.Elements.{All-tail}
use Rattle.fixed_interval.specs.Enclosure.{Enclosure}
use Rattle.fixed_interval.specs.Grid.{Ends, Range}
use Rattle.solar_terms.specs.Sun.{SunTerms}
use Rattle.solar_terms.specs.SunLaws.{SunSource}
use Rattle.meeus_terms.specs.Suns.{IsSun, exact_sun_of, grid_sun_of}
use Rattle.meeus_terms.proofs.SunLaws.{suns_are_sound}
use Rattle.altitude_test.specs.Conditions.{IsAbove, IsBelow, IsWithin}
use Rattle.altitude_test.specs.Tolerance.{IsNarrowRange, IsSmallest, ShowsNear}
use Rattle.altitude_test.specs.Verdicts.{ShowsSide}
use Rattle.method_table.specs.declared.problem.Problem.{Problem}
use Rattle.method_table.specs.declared.problem.Side.{Side}
use Rattle.method_table.specs.declared.problem.Side.TheVariants.{Start, End}
use Rattle.method_table.specs.Row.{Row, minute_at, row_of, time_of}
use Rattle.plane_edges.specs.declared.points.Point.{Point}
use Rattle.plane_edges.specs.Plane.{IsIn, Place, IsOrdered}
use Rattle.ring_survey.specs.Polygons.{Polygon}
use Rattle.region.specs.Rings.{is_in_district}
use Rattle.ring_survey.specs.Faults.{first_fault}
use Rattle.region.specs.Named.{named}
use Rattle.plane_edges.specs.Views.{place_of}
use Rattle.ring_survey.proofs.Sound.{sound}
use Rattle.plane_edges.proofs.Truth.{and_left, and_right}
use Rattle.region.proofs.Wholly.{names_exactly}
use Rattle.cell_split.specs.declared.cell.Cell.{Cell}
use Rattle.cell_split.specs.declared.verdict.Verdict.TheVariants.{Proved, Refuted, Split, Open}
use Rattle.cell_split.specs.Cells.{IsCell, is_smallest}
use Rattle.cell_split.specs.Laws.{box_of}
use Rattle.cell_split.proofs.CellLemmas.{cell_limits}
use Rattle.cell_judge.specs.Conditions.{Fails, Holds, IsNear, holds_above, spot_of, tolerance_bits, value_at}
use Rattle.cell_judge.specs.Points.{point_of}
use Rattle.cell_judge.specs.Scenes.{FailsAt, HoldsAt, IsNearAt, IsOpenAt, IsPlaceOf, IsRankOf, IsRefutedAt, IsTrueVerdict, Scene}
use Rattle.cell_judge.specs.Skies.{between, grid_value, lies_above, lies_below, minutes_at, places_at, row_at, shows_failed, shows_held, verdict_at, verdict_by, verdict_on, verdict_with}
use Rattle.cell_judge.specs.Limits.{IsInLimits}
use Rattle.cell_judge.specs.SkyLaws.{IsRow, NamedPlacesArePoints, ProblemsAreRows, SkiesTellTheTruth, VerdictsOfEverySunAreTrue, scene_at}
use Rattle.cell_judge.proofs.EntryLaws.{conditions_are_one_sided}
use Rattle.cell_judge.proofs.NamedLemmas.{named_is_point}
use Rattle.cell_judge.proofs.PointLemmas.{IsPoint, place_of_point}
use Rattle.cell_judge.proofs.TruthLemmas.{shows_near, shows_side, spot_among}

-- ---- one value by its enclosure; `above` says that the condition holds above zero

holds_by : (above : Bool) (e : Ends) (v : ℕ → Enclosure) → ShowsSide e v → cond above (lies_above e) (lies_below e) ≡ true
    → MatchBool above (IsAbove v) (IsBelow v)
holds_by true e v shown h = shown.above (omega (arith, ints, h))
holds_by false e v shown h = shown.below (omega (arith, ints, h))

fails_by : (above : Bool) (e : Ends) (v : ℕ → Enclosure) → ShowsSide e v → cond above (lies_below e) (lies_above e) ≡ true
    → MatchBool above (IsBelow v) (IsAbove v)
fails_by true e v shown h = shown.below (omega (arith, ints, h))
fails_by false e v shown h = shown.above (omega (arith, ints, h))

near_by : (above : Bool) (bits : ℕ) (e : Ends) (v : ℕ → Enclosure) → ShowsNear bits e v
    → cond above (lies_above e) (lies_below e) ≡ false → cond above (lies_below e) (lies_above e) ≡ false → IsWithin bits v
near_by true bits e v shown g h = shown.near (omega (arith, ints, g)) (omega (arith, ints, h))
near_by false bits e v shown g h = shown.near (omega (arith, ints, h)) (omega (arith, ints, g))

-- ---- a smallest cell

same_number : (m n : ℕ) → (m == n) ≡ true → m ≡ n
same_number m n h = grind (arith, nat_tests)

record IsLeast (c : Cell) : Type 0 where
  size : c.size ≡ 4
  one_rank : c.first ≡ c.last

least_is : (c : Cell) → is_smallest c ≡ true → IsLeast c
least_is c h =
    record {
      size = same_number c.size 4 (and_left (c.size == 4) (c.first == c.last) h);
      one_rank = same_number c.first c.last (and_right (c.size == 4) (c.first == c.last) h);
    }

one_time : (s : Side) (m n : ℤ) → m ≡ n → (between s m n).hi ≡ (between s m n).lo
one_time Start m n e = sym e
one_time End m n e = e

smallest_is : (row : Row) (cell : Cell) → is_smallest cell ≡ true → IsSmallest (minutes_at row cell) (places_at cell)
smallest_is row cell h =
    let least = least_is cell h in
    let whole : 2 ^ cell.size ≡ 2 ^ 4 = ap (λ (n : ℕ). 2 ^ n) least.size in
    record {
      one_minute = one_time row.side (time_of row cell.first) (time_of row cell.last) (ap (time_of row) least.one_rank);
      x = narrow cell.x (2 ^ cell.size) whole;
      y = narrow cell.y (2 ^ cell.size) whole;
    }
  where
    narrow : (z : ℤ) (n : ℕ) → n ≡ 16 → IsNarrowRange 16 (record { lo = z; hi = z +ℤ pos n })
    narrow z n e = record { ordered = omega (arith, ints); narrow = omega (arith, ints) }

in_limits : (row : Row) (cell : Cell) → IsRow row → cell.first ≤ 720 → cell.last ≤ 720 → unsigned_abs (minutes_at row cell).lo ≤ 53_200_000
in_limits row cell is first last = by_side row.side
  where
    by_side : (s : Side) → unsigned_abs (between s (row.base +ℤ minute_at s row.first row.last cell.first) (row.base +ℤ minute_at s row.first row.last cell.last)).lo ≤ 53_200_000
    by_side Start = omega (arith, ints, is.framed, is.limits.not_before, is.limits.not_after)
    by_side End = omega (arith, ints, is.framed, is.limits.not_before, is.limits.not_after)

-- ---- the place that is named

named_fits : (polygons : List Polygon) → first_fault polygons ≡ None → (cell : Cell) → IsCell cell → (p : Place)
    → named (box_of cell) polygons ≡ Some p → IsIn (box_of cell) p → IsPoint p
named_fits polygons faultless cell is_cell p h inside =
    let limits = cell_limits cell is_cell in
    named_is_point (box_of cell) polygons p faultless (record {
      x0 = record { low = omega (arith, ints, limits.west); high = omega (arith, ints, limits.east) };
      x1 = record { low = omega (arith, ints, limits.west); high = omega (arith, ints, limits.east) };
      y0 = record { low = omega (arith, ints, limits.south); high = omega (arith, ints, limits.north) };
      y1 = record { low = omega (arith, ints, limits.south); high = omega (arith, ints, limits.north) };
    }) h inside

pub named_places_are_points : NamedPlacesArePoints
named_places_are_points polygons faultless cell is_cell p h =
    let ordered : IsOrdered (box_of cell) = record { x_ordered = omega (arith, ints); y_ordered = omega (arith, ints) } in
    let found = subst (λ (o : Option Place). MatchOption o ((q : Place) → IsIn (box_of cell) q → is_in_district q polygons ≡ false) (λ q. IsIn (box_of cell) q × (is_in_district q polygons ≡ true)))
    h (names_exactly (box_of cell) polygons ordered (sound polygons faultless).closed) in
    place_of_point p (named_fits polygons faultless cell is_cell p h found.0)

-- ---- the verdict

module _ (sun : SunSource) (grid : Range → SunTerms) (is_sun : IsSun sun grid) (row : Row) (is_row : IsRow row) (polygons : List Polygon) (faultless : first_fault polygons ≡ None) (cell : Cell) (is_cell : IsCell cell) where
  abbrev scene : Scene
  scene = record { sun = sun; row = row; polygons = polygons }

  abbrev value : Ends
  value = grid_value grid row.kind (minutes_at row cell) (places_at cell)

  box_ordered : IsOrdered (box_of cell)
  box_ordered = record { x_ordered = omega (arith, ints); y_ordered = omega (arith, ints) }

  held : (p : Place) → IsIn (box_of cell) p → (rank : ℕ) → IsRankOf cell rank → shows_held row.kind value ≡ true → HoldsAt scene p rank
  unfolding HoldsAt Holds
  held p inside rank ranked h =
      holds_by (holds_above row.kind) value (value_at sun row.kind (time_of row rank) (spot_of p))
      (shows_side sun grid is_sun row.kind is_row.kind _ _ _ _ (spot_among row cell p rank inside ranked)) h

  failed : (p : Place) → IsIn (box_of cell) p → (rank : ℕ) → IsRankOf cell rank → shows_failed row.kind value ≡ true → FailsAt scene p rank
  unfolding FailsAt Fails
  failed p inside rank ranked h =
      fails_by (holds_above row.kind) value (value_at sun row.kind (time_of row rank) (spot_of p))
      (shows_side sun grid is_sun row.kind is_row.kind _ _ _ _ (spot_among row cell p rank inside ranked)) h

  not_both : (p : Place) (rank : ℕ) → HoldsAt scene p rank → FailsAt scene p rank → ⊥
  not_both p rank = conditions_are_one_sided scene is_sun.source is_row.kind p rank

  near : (p : Place) → IsIn (box_of cell) p → (rank : ℕ) → IsRankOf cell rank → is_smallest cell ≡ true
      → shows_held row.kind value ≡ false → shows_failed row.kind value ≡ false → IsNearAt scene p rank
  unfolding IsNearAt IsNear
  near p inside rank ranked small g h =
      let formed = is_cell.of_root.formed in
      near_by (holds_above row.kind) (tolerance_bits row.kind) value (value_at sun row.kind (time_of row rank) (spot_of p))
      (shows_near sun grid is_sun row.kind is_row.kind _ _ _ _ (spot_among row cell p rank inside ranked) (smallest_is row cell small)
      (in_limits row cell is_row (omega (arith, formed.ordered, formed.in_frame)) formed.in_frame)) g h

  by_tests : (p : Place) (q : Point) → place_of q ≡ p → IsIn (box_of cell) p → IsPlaceOf scene p
      → (is_held is_failed is_small : Bool) → shows_held row.kind value ≡ is_held → shows_failed row.kind value ≡ is_failed → is_smallest cell ≡ is_small
      → IsTrueVerdict scene cell (cond is_held Proved (cond is_failed (Refuted q) (cond is_small (Open q) Split)))
  by_tests p q same inside is_place true is_failed is_small a b c = record {
    holds = λ r in' _ rank ranked. held r in' rank ranked a;
    fails_nowhere = λ r in' _ rank ranked f. not_both r rank (held r in' rank ranked a) f;
  }
  by_tests p q same inside is_place false true is_small a b c =
      subst (IsRefutedAt scene cell) (sym same) (record {
        in_box = inside;
        is_place = is_place;
        fails = λ rank ranked. failed p inside rank ranked b;
        holds_never = λ rank ranked h. not_both p rank h (failed p inside rank ranked b);
      })
  by_tests p q same inside is_place false false true a b c =
      subst (IsOpenAt scene cell) (sym same) (record {
        in_box = inside;
        is_place = is_place;
        near = λ rank ranked. near p inside rank ranked c a b;
      })
  by_tests p q same inside is_place false false false a b c = tt

  by_named : (o : Option Place) → named (box_of cell) polygons ≡ o → IsTrueVerdict scene cell (verdict_by grid row cell o)
  unfolding verdict_with verdict_at
  by_named None h =
      let none = subst (λ (o : Option Place). MatchOption o ((p : Place) → IsIn (box_of cell) p → is_in_district p polygons ≡ false) (λ p. IsIn (box_of cell) p × (is_in_district p polygons ≡ true)))
      h (names_exactly (box_of cell) polygons box_ordered (sound polygons faultless).closed) in
      record { none = λ p inside is_place. false≢true (sym (none p inside) ∙ is_place.inside) }
  by_named (Some p) h =
      let found = subst (λ (o : Option Place). MatchOption o ((p : Place) → IsIn (box_of cell) p → is_in_district p polygons ≡ false) (λ p. IsIn (box_of cell) p × (is_in_district p polygons ≡ true)))
      h (names_exactly (box_of cell) polygons box_ordered (sound polygons faultless).closed) in
      let fits = named_fits polygons faultless cell is_cell p h found.0 in
      by_tests p (point_of p) (place_of_point p fits) found.0 (record { positive = found.0.positive; inside = found.1 })
      (shows_held row.kind value) (shows_failed row.kind value) (is_smallest cell) refl refl refl

pub verdicts_of_every_sun_are_true : VerdictsOfEverySunAreTrue
unfolding verdict_on
verdicts_of_every_sun_are_true sun grid is_sun row is_row polygons faultless cell is_cell =
    by_named sun grid is_sun row is_row polygons faultless cell is_cell (named (box_of cell) polygons) refl

-- ---- the sky

pub skies_tell_the_truth : SkiesTellTheTruth
skies_tell_the_truth sun polygons rows root faultless is_root k known is_row t is_task same =
    let P : ℕ → Type 0 = λ n. IsTrueVerdict (scene_at sun polygons rows k) t.cell (verdict_on (grid_sun_of sun) (row_at rows n) polygons t.cell) in
    subst P (sym same)
    (verdicts_of_every_sun_are_true (exact_sun_of sun) (grid_sun_of sun) (suns_are_sound sun) (row_at rows k) is_row polygons faultless t.cell
    (record { root = root; is_root = is_root; of_root = is_task.cell }))

row_is : (q : Problem) → IsInLimits (row_of q) → IsRow (row_of q)
row_is q limits = record { kind = q.kind_in_range; framed = q.framed; limits = limits }

pub problems_are_rows : ProblemsAreRows
problems_are_rows [] limits k inside = absurd (omega arith)
problems_are_rows (q ∷ rest) limits zero inside = row_is q (limits 0 q (omega arith))
problems_are_rows (q ∷ rest) limits (suc k) inside =
    problems_are_rows rest (All-tail (λ p. IsInLimits (row_of p)) q rest limits) k (omega (arith, inside))

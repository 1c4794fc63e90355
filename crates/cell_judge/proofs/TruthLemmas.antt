-- That a verdict is true of the sky: the enclosure on the grid shows on which side of zero the exact values lie.
use Rattle.std.proofs.Common.{◌≡◌, ℕ, ◌≤◌, max, refl, arith}
use Rattle.std.specs.Prelude.{ℤ, pos, negsuc, ◌+ℤ◌, ◌*ℤ◌, ◌≤ℤ◌, ◌<ℤ◌, unsigned_abs}
use Rattle.std.proofs.lemmas.Int.{ints}
use Rattle.fixed_interval.specs.Fraction.{◌≤ᶠ◌, over}
use Rattle.fixed_interval.specs.Enclosure.{IsOrdered, LiesIn, point}
use Rattle.fixed_interval.specs.Grid.{Range, enclosure_of_range}
use Rattle.fixed_interval.proofs.Inclusion.{range_ordered}
use Rattle.fixed_interval.proofs.EnclosureLaws.{LiesIn_refl}
use Rattle.solar_terms.specs.Sun.{SunTerms}
use Rattle.solar_terms.specs.SunLaws.{SunSource}
use Rattle.meeus_terms.specs.Suns.{IsSun}
use Rattle.altitude_test.specs.Conditions.{Spot}
use Rattle.altitude_test.specs.Tolerance.{IsNarrowRange, IsSmallest, ShowsNear}
use Rattle.altitude_test.specs.Values.{Box}
use Rattle.altitude_test.specs.Verdicts.{IsAmong, ShowsSide}
use Rattle.altitude_test.proofs.Tolerance.{open_altitude_is_near, open_meridian_is_near}
use Rattle.altitude_test.proofs.Verdicts.{grid_shows_altitude, grid_shows_meridian}
use Rattle.asr_test.proofs.AsrLaws.{grid_shows_asr}
use Rattle.asr_test.proofs.Tolerance.{open_asr_is_near}
use Rattle.method_table.specs.declared.problem.Kind.{Kind}
use Rattle.method_table.specs.declared.problem.Kind.TheVariants.{Above, Below, Past, Shadow}
use Rattle.method_table.specs.declared.problem.Side.{Side}
use Rattle.method_table.specs.declared.problem.Side.TheVariants.{Start, End}
use Rattle.method_table.specs.Kind.{IsAngleRange, IsKind}
use Rattle.method_table.specs.Row.{Row, minute_at, time_of}
use Rattle.plane_edges.specs.Plane.{IsIn, Place}
use Rattle.cell_split.specs.declared.cell.Cell.{Cell}
use Rattle.cell_split.specs.Cells.{side}
use Rattle.cell_split.specs.Laws.{box_of}
use Rattle.cell_judge.specs.Conditions.{angles, spot_of, tolerance_bits, value_at}
use Rattle.cell_judge.specs.Scenes.{IsRankOf}
use Rattle.cell_judge.specs.Skies.{between, grid_value, minutes_at, places_at}

-- ---- a place of the box and a rank of the cell are among those of the enclosure

over_from : (z a d : ℤ) → pos 0 <ℤ d → (z *ℤ d) ≤ℤ a → over z 1 ≤ᶠ over a (unsigned_abs d)
unfolding over
over_from z a (pos n) h k =
    let one : max n 1 ≡ n = omega (arith, ints) in
    record { crossed = rw one (omega (arith, ints)) }
over_from z a (negsuc n) h k = absurd (omega (arith, ints))

over_to : (z a d : ℤ) → pos 0 <ℤ d → a ≤ℤ (z *ℤ d) → over a (unsigned_abs d) ≤ᶠ over z 1
unfolding over
over_to z a (pos n) h k =
    let one : max n 1 ≡ n = omega (arith, ints) in
    record { crossed = rw one (omega (arith, ints)) }
over_to z a (negsuc n) h k = absurd (omega (arith, ints))

lies_between : (low high a d : ℤ) → pos 0 <ℤ d → (low *ℤ d) ≤ℤ a → a ≤ℤ (high *ℤ d)
    → LiesIn (point (over a (unsigned_abs d))) (enclosure_of_range (record { lo = low; hi = high }))
unfolding point enclosure_of_range
lies_between low high a d h from to = record { low = over_from low a d h from; high = over_to high a d h to }

pub spot_among : (row : Row) (cell : Cell) (p : Place) (rank : ℕ) → IsIn (box_of cell) p → IsRankOf cell rank
    → IsAmong (time_of row rank) (spot_of p) (minutes_at row cell) (places_at cell)
unfolding spot_of
spot_among row cell p rank inside ranked = record {
  not_before = by_side_low row.side;
  not_after = by_side_high row.side;
  x = lies_between cell.x (cell.x +ℤ side cell) p.a p.d inside.positive inside.west inside.east;
  y = lies_between cell.y (cell.y +ℤ side cell) p.b p.d inside.positive inside.south inside.north;
}
  where
    at : Side → ℕ → ℤ
    at s r = row.base +ℤ minute_at s row.first row.last r

    by_side_low : (s : Side) → (between s (row.base +ℤ minute_at s row.first row.last cell.first) (row.base +ℤ minute_at s row.first row.last cell.last)).lo ≤ℤ (row.base +ℤ minute_at s row.first row.last rank)
    by_side_low Start = omega (arith, ints, ranked.from_first)
    by_side_low End = omega (arith, ints, ranked.to_last)

    by_side_high : (s : Side) → (row.base +ℤ minute_at s row.first row.last rank) ≤ℤ (between s (row.base +ℤ minute_at s row.first row.last cell.first) (row.base +ℤ minute_at s row.first row.last cell.last)).hi
    by_side_high Start = omega (arith, ints, ranked.to_last)
    by_side_high End = omega (arith, ints, ranked.from_first)

-- ---- what the enclosure shows of the value there

angles_ordered : (low high : ℤ) → IsAngleRange low high → IsOrdered (enclosure_of_range (angles low high))
angles_ordered low high h = range_ordered (angles low high) h.ordered

module _ (sun : SunSource) (grid : Range → SunTerms) (is_sun : IsSun sun grid) where
  -- its side
  pub shows_side : (kind : Kind) → IsKind kind → (k : ℤ) (p : Spot) (m : Range) (places : Box) → IsAmong k p m places
      → ShowsSide (grid_value grid kind m places) (value_at sun kind k p)
  unfolding grid_value value_at
  shows_side (Above low high) is k p m places among =
      grid_shows_altitude sun grid is_sun.source is_sun.holds k p m places among
      (enclosure_of_range (angles low high)) (angles low high) (angles_ordered low high (is.above low high refl)) (LiesIn_refl _)
  shows_side (Below low high) is k p m places among =
      grid_shows_altitude sun grid is_sun.source is_sun.holds k p m places among
      (enclosure_of_range (angles low high)) (angles low high) (angles_ordered low high (is.below low high refl)) (LiesIn_refl _)
  shows_side Past is k p m places among = grid_shows_meridian sun grid is_sun.source is_sun.holds k p m places among
  shows_side (Shadow factor) is k p m places among = grid_shows_asr sun grid is_sun.source is_sun.holds k p m places among factor

  angles_narrow : (low high : ℤ) → IsAngleRange low high → IsNarrowRange 1 (angles low high)
  angles_narrow low high h = record { ordered = h.ordered; narrow = h.narrow }

  -- over a smallest cell, that it is near zero
  pub shows_near : (kind : Kind) → IsKind kind → (k : ℤ) (p : Spot) (m : Range) (places : Box) → IsAmong k p m places
      → IsSmallest m places → unsigned_abs m.lo ≤ 53_200_000
      → ShowsNear (tolerance_bits kind) (grid_value grid kind m places) (value_at sun kind k p)
  unfolding grid_value value_at
  shows_near (Above low high) is k p m places among small limit =
      open_altitude_is_near sun grid is_sun.source is_sun.holds k p m places among (is_sun.narrow m small.one_minute limit) small
      (enclosure_of_range (angles low high)) (angles low high) (angles_ordered low high (is.above low high refl)) (LiesIn_refl _)
      (angles_narrow low high (is.above low high refl))
  shows_near (Below low high) is k p m places among small limit =
      open_altitude_is_near sun grid is_sun.source is_sun.holds k p m places among (is_sun.narrow m small.one_minute limit) small
      (enclosure_of_range (angles low high)) (angles low high) (angles_ordered low high (is.below low high refl)) (LiesIn_refl _)
      (angles_narrow low high (is.below low high refl))
  shows_near Past is k p m places among small limit =
      open_meridian_is_near sun grid is_sun.source is_sun.holds k p m places among (is_sun.narrow m small.one_minute limit) small
  shows_near (Shadow factor) is k p m places among small limit =
      open_asr_is_near sun grid is_sun.source is_sun.holds k p m places among (is_sun.narrow m small.one_minute limit) small factor

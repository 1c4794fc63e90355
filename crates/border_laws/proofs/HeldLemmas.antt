-- A border lies in the root of all squares, so what holds in the root holds of all of it.
use Rattle.std.proofs.Common.{◌≡◌, ℕ, false, true, List, [], ◌∷◌, map, arith}
use Rattle.std.proofs.Math.IntN.{ℤ, pos, neg_ℤ}
use Rattle.std.specs.Prelude.{◌≤ℤ◌, ◌<ℤ◌, fold}
use Rattle.std.specs.Int.{int_min, int_max}
use Rattle.std.specs.List.{list_any}
use Rattle.std.proofs.lemmas.Int.{ints, clamps}
use Rattle.plane_edges.specs.Plane.{Place, IsIn}
use Rattle.ring_survey.specs.Polygons.{Position, Polygon}
use Rattle.region.specs.Rings.{is_in_district}
use Rattle.ring_survey.specs.Extent.{is_far, longitudes, latitudes, least, greatest, positions_of}
use Rattle.plane_edges.proofs.Products.{times_mono}
use Rattle.plane_edges.proofs.Truth.{neither}
use Rattle.region.proofs.Along.{near}
use Rattle.ring_survey.proofs.Reach.{AllIn}
use Rattle.cell_split.specs.declared.verdict.Entry.TheVariants.{Minute, Whole, Never, Open}
use Rattle.border_check.specs.Borders.{IsDrawn}
use Rattle.border_check.specs.Squares.{box_in, root}
use Rattle.border_check.proofs.Drawing.{drawn, district_drawn}
use Rattle.border_check.proofs.Trees.{settled_holds}
use Rattle.cell_judge.specs.Scenes.{Scene, IsPlaceOf, HoldsAt}
use Rattle.cell_judge.specs.RightEntries.{IsSafeFrom}
use Rattle.cell_judge.proofs.ExtentLemmas.{xs_near}
use Rattle.region.proofs.InBounds.{bounds, in_bounds}
use Rattle.border_laws.specs.Held.{IsHeld, HeldBordersHaveNoPlaceOutside, HeldBordersAreSafe, over}

-- the latitudes of positions that aren't far
ys_near : (ps : List Position) → list_any is_far ps ≡ false → AllIn (neg_ℤ (pos 65_000_000)) (pos 65_000_000) (map (λ p. p.1) ps)
ys_near [] h = tt
ys_near (p ∷ ps) h =
    let k = neither (is_far p) (list_any is_far ps) h in
    let n = near p k.0 in
    (n.1.low, n.1.high, ys_near ps k.1)

record Spans (low high : ℤ) (zs : List ℤ) : Type 0 where
  not_low : low ≤ℤ least zs
  not_high : greatest zs ≤ℤ high

fold_spans : (low high a b : ℤ) (zs : List ℤ) → low ≤ℤ a → b ≤ℤ high → AllIn low high zs
    → (low ≤ℤ fold int_min a zs) × (fold int_max b zs ≤ℤ high)
fold_spans low high a b [] g h all = (g, h)
fold_spans low high a b (z ∷ zs) g h all =
    fold_spans low high (int_min a z) (int_max b z) zs (omega (arith, ints, clamps, all.0)) (omega (arith, ints, clamps, all.1)) all.2

-- numbers within limits have their least and their greatest within them, and so has a list of none
spans : (low high : ℤ) (zs : List ℤ) → low ≤ℤ pos 0 → pos 0 ≤ℤ high → AllIn low high zs → Spans low high zs
spans low high [] g h all = record { not_low = g; not_high = h }
spans low high (z ∷ zs) g h all =
    let f = fold_spans low high z z zs all.0 all.1 all.2 in
    record { not_low = f.0; not_high = f.1 }

-- a place of a border is in the root
in_root : (border : List Polygon) → IsDrawn border → (p : Place) → pos 0 <ℤ p.d → is_in_district p border ≡ true → IsIn (box_in root) p
in_root border d p positive inside =
    let b = bounds border in
    let i = in_bounds border d.closed p positive inside in
    let x = spans (neg_ℤ (pos 360_000_000)) (pos 360_000_000) (longitudes border) (omega (arith, ints)) (omega (arith, ints)) (xs_near (positions_of border) d.near) in
    let y = spans (neg_ℤ (pos 65_000_000)) (pos 65_000_000) (latitudes border) (omega (arith, ints)) (omega (arith, ints)) (ys_near (positions_of border) d.near) in
    let west = times_mono (neg_ℤ (pos 68_719_476_736)) b.x0 p.d (omega (arith, ints)) (omega (arith, ints, x.not_low)) in
    let east = times_mono b.x1 (pos 68_719_476_736) p.d (omega (arith, ints)) (omega (arith, ints, x.not_high)) in
    let south = times_mono (neg_ℤ (pos 68_719_476_736)) b.y0 p.d (omega (arith, ints)) (omega (arith, ints, y.not_low)) in
    let north = times_mono b.y1 (pos 68_719_476_736) p.d (omega (arith, ints)) (omega (arith, ints, y.not_high)) in
    record {
      positive = positive;
      west = omega (arith, ints, west, i.west);
      east = omega (arith, ints, east, i.east);
      south = omega (arith, ints, south, i.south);
      north = omega (arith, ints, north, i.north);
    }

pub held_within : HeldBordersHaveNoPlaceOutside
held_within border district h =
    let b = drawn border h.border_sound in
    let d = district_drawn district h.district_sound in
    record {
      places = λ p positive inside.
          settled_holds border district root b.closed d.closed h.settled p (in_root border b p positive inside) inside;
    }

-- a place of the border is one of the district
place_within : (s : Scene) (border : List Polygon) → IsHeld border s.polygons → (p : Place) → IsPlaceOf (over border s) p → IsPlaceOf s p
place_within s border h p i = record { positive = i.positive; inside = (held_within border s.polygons h).places p i.positive i.inside }

safe_within : (s : Scene) (border : List Polygon) (rank : ℕ) → IsHeld border s.polygons → IsSafeFrom s rank → IsSafeFrom (over border s) rank
unfolding HoldsAt
safe_within s border rank h safe = record { holds = λ p i later from to. safe.holds p (place_within s border h p i) later from to }

never_safe : (s : Scene) → IsSafeFrom s 721
never_safe s = record { holds = λ p i later from to. absurd (omega (arith, from, to)) }

pub held_safe : HeldBordersAreSafe
held_safe s border cells (Minute rank) h r = safe_within s border rank h r.safe
held_safe s border cells Whole h r = safe_within s border 0 h r
held_safe s border cells Never h r = never_safe (over border s)
held_safe s border cells (Open safe from cell) h r = safe_within s border safe h r.safe_from

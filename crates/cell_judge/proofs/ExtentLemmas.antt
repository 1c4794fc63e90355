-- How far a district without a fault reaches: within the limits of a root, and over no more than a root's side.
use Rattle.std.proofs.Common.{◌≡◌, false, List, [], ◌∷◌, map, arith, ap, ◌∙◌}
use Rattle.std.specs.Prelude.{ℤ, pos, neg_ℤ, ◌-ℤ◌, ◌+ℤ◌, ◌*ℤ◌, ◌≤ℤ◌, fold, None}
use Rattle.std.specs.Int.{int_min}
use Rattle.std.specs.List.{list_any}
use Rattle.std.proofs.lemmas.Int.{ints, clamps}
use Rattle.ring_survey.specs.Polygons.{Position, Polygon}
use Rattle.ring_survey.specs.Extent.{is_far, is_wide, longitudes, latitudes, least, greatest, positions_of}
use Rattle.ring_survey.specs.Faults.{first_fault}
use Rattle.plane_edges.proofs.Truth.{is_ge, neither}
use Rattle.region.proofs.Along.{near}
use Rattle.plane_edges.proofs.Products.{times_mono}
use Rattle.ring_survey.proofs.Reach.{AllIn}
use Rattle.ring_survey.proofs.Sound.{sound}
use Rattle.cell_split.specs.declared.cell.Cell.{Cell}
use Rattle.cell_split.specs.Cells.{root_at, side}
use Rattle.cell_judge.specs.Limits.{IsOver}
use Rattle.cell_judge.specs.SkyLaws.{DistrictsLieInRootsOverThem}
use Rattle.region.proofs.InBounds.{in_bounds}

fold_min : (low a : ℤ) (high : ℤ) (zs : List ℤ) → low ≤ℤ a → AllIn low high zs → (low ≤ℤ fold int_min a zs) × (fold int_min a zs ≤ℤ a)
fold_min low a high [] h all = (h, omega (arith, ints))
fold_min low a high (z ∷ zs) h all =
    let rest = fold_min low (int_min a z) high zs (omega (arith, ints, clamps, all.0)) all.2 in
    (rest.0, omega (arith, ints, clamps, rest.1))

-- the least of such numbers is within the same limits
pub record IsBetween (low high z : ℤ) : Type 0 where
  pub not_low : low ≤ℤ z
  pub not_high : z ≤ℤ high

least_between : (low high : ℤ) (zs : List ℤ) → low ≤ℤ pos 0 → pos 0 ≤ℤ high → AllIn low high zs → IsBetween low high (least zs)
least_between low high [] g h all = record { not_low = g; not_high = h }
least_between low high (z ∷ zs) g h all =
    let f = fold_min low z high zs all.0 all.2 in
    record { not_low = f.0; not_high = omega (arith, ints, f.1, all.1) }

-- the longitudes of a sound district's positions, and their latitudes, are near
pub xs_near : (ps : List Position) → list_any is_far ps ≡ false → AllIn (neg_ℤ (pos 360_000_000)) (pos 360_000_000) (map (λ p. p.0) ps)
xs_near [] h = tt
xs_near (p ∷ ps) h =
    let k = neither (is_far p) (list_any is_far ps) h in
    let n = near p k.0 in
    (n.0.low, n.0.high, xs_near ps k.1)

ys_near : (ps : List Position) → list_any is_far ps ≡ false → AllIn (neg_ℤ (pos 65_000_000)) (pos 65_000_000) (map (λ p. p.1) ps)
ys_near [] h = tt
ys_near (p ∷ ps) h =
    let k = neither (is_far p) (list_any is_far ps) h in
    let n = near p k.0 in
    (n.1.low, n.1.high, ys_near ps k.1)

-- the corner of the root at the least longitude and latitude is within the limits
pub west_near : (polygons : List Polygon) → first_fault polygons ≡ None → IsBetween (neg_ℤ (pos 360_000_000)) (pos 360_000_000) (least (longitudes polygons))
west_near polygons h =
    least_between _ _ (longitudes polygons) (omega (arith, ints)) (omega (arith, ints)) (xs_near (positions_of polygons) (sound polygons h).near)

pub south_near : (polygons : List Polygon) → first_fault polygons ≡ None → IsBetween (neg_ℤ (pos 65_000_000)) (pos 65_000_000) (least (latitudes polygons))
south_near polygons h =
    least_between _ _ (latitudes polygons) (omega (arith, ints)) (omega (arith, ints)) (ys_near (positions_of polygons) (sound polygons h).near)

-- and that root is over the district
pub root_is_over : (polygons : List Polygon) → first_fault polygons ≡ None → IsOver (root_at (least (longitudes polygons)) (least (latitudes polygons))) polygons
root_is_over polygons h =
    let s = sound polygons h in
    let wide = neither (is_wide (longitudes polygons)) (is_wide (latitudes polygons)) s.narrow in
    let x = is_ge (pos 4_194_304) (greatest (longitudes polygons) -ℤ least (longitudes polygons)) wide.0 in
    let y = is_ge (pos 4_194_304) (greatest (latitudes polygons) -ℤ least (latitudes polygons)) wide.1 in
    record {
      west = omega (arith, ints);
      east = within_side (least (longitudes polygons)) (greatest (longitudes polygons)) x;
      south = omega (arith, ints);
      north = within_side (least (latitudes polygons)) (greatest (latitudes polygons)) y;
    }
  where
    within_side : (low high : ℤ) → (high -ℤ low) ≤ℤ pos 4_194_304 → (pos 128 *ℤ high) ≤ℤ (pos 128 *ℤ low +ℤ pos 536_870_912)
    within_side low high h = omega (arith, ints)

-- a root by its corner
pub root_is : (root : Cell) (west south west' south' : ℤ) → root ≡ root_at west south → west ≡ west' → south ≡ south' → root ≡ root_at west' south'
root_is root west south west' south' is same_west same_south =
    is ∙ ap (λ (x : ℤ). root_at x south) same_west ∙ ap (λ (y : ℤ). root_at west' y) same_south

-- a root that is over a district's positions has its places in its box
pub districts_lie_in_roots_over_them : DistrictsLieInRootsOverThem
districts_lie_in_roots_over_them s root faultless over p place =
    let i = in_bounds s.polygons (sound s.polygons faultless).closed p place.positive place.inside in
    let d : pos 0 ≤ℤ p.d = omega (arith, ints, i.positive) in
    let w = times_mono root.x (pos 128 *ℤ least (longitudes s.polygons)) p.d d over.west in
    let e = times_mono (pos 128 *ℤ greatest (longitudes s.polygons)) (root.x +ℤ side root) p.d d over.east in
    let s' = times_mono root.y (pos 128 *ℤ least (latitudes s.polygons)) p.d d over.south in
    let n = times_mono (pos 128 *ℤ greatest (latitudes s.polygons)) (root.y +ℤ side root) p.d d over.north in
    record {
      positive = i.positive;
      west = omega (arith, ints, i.west, w);
      east = omega (arith, ints, i.east, e);
      south = omega (arith, ints, i.south, s');
      north = omega (arith, ints, i.north, n);
    }

-- How far a district reaches, and that its edges are short.
use Rattle.std.proofs.Common.{◌≡◌, ℕ, ◌≤◌, Bool, true, false, not, ◌||◌, List, [], ◌∷◌, ◌++◌, map, Some, None, arith, refl, sym, ap, subst, ◌∙◌}
use Rattle.std.proofs.Math.IntN.{ℤ, pos, ◌-ℤ◌}
use Rattle.std.specs.Prelude.{◌≤ℤ◌, int_lt, nat_le, unsigned_abs, fold}
use Rattle.std.specs.Int.{int_min, int_max}
use Rattle.std.specs.List.{list_any, list_all, flat_map}
use Rattle.std.proofs.lemmas.Int.{ints, clamps}
use Rattle.std.proofs.lemmas.Bool.{and_from, or_parts}
use Rattle.std.proofs.lemmas.Bool.Decides.{nat_tests}
use Rattle.std.proofs.lemmas.List.{map-append}
use Rattle.std.proofs.lemmas.List.Folds.{list_any-append}
use Rattle.ring_survey.specs.declared.bounds.Bounds.{Bounds}
use Rattle.ring_survey.specs.Polygons.{Position, Ring, Polygon}
use Rattle.ring_survey.specs.Extent.{is_far, is_compact, is_compact_from, positions_of, longitudes, latitudes, least, greatest, is_wide}
use Rattle.ring_survey.specs.Bounds.{widened, or_zero}
use Rattle.ring_survey.proofs.Sound.{IsSound}

fold_widened : (b : Bounds) (ps : List Position) → fold widened (Some b) ps ≡ Some (record {
  west = fold int_min b.west (map (λ p. p.0) ps);
  east = fold int_max b.east (map (λ p. p.0) ps);
  south = fold int_min b.south (map (λ p. p.1) ps);
  north = fold int_max b.north (map (λ p. p.1) ps);
})
fold_widened b [] = refl
fold_widened b (p ∷ ps) = fold_widened (record {
  west = int_min b.west p.0;
  east = int_max b.east p.0;
  south = int_min b.south p.1;
  north = int_max b.north p.1;
}) ps

pub or_zero_is : (ps : List Position) → or_zero (fold widened None ps) ≡ record {
  west = least (map (λ p. p.0) ps);
  east = greatest (map (λ p. p.0) ps);
  south = least (map (λ p. p.1) ps);
  north = greatest (map (λ p. p.1) ps);
}
or_zero_is [] = refl
or_zero_is (p ∷ ps) = ap or_zero (fold_widened (record { west = p.0; east = p.0; south = p.1; north = p.1 }) ps)

-- ---- each number is between the least and the greatest

abbrev pub AllIn : ℤ → ℤ → List ℤ → Type 0
AllIn low high [] = Unit {0}
AllIn low high (z ∷ zs) = (low ≤ℤ z) × (z ≤ℤ high) × AllIn low high zs

all_wider : (low low' high high' : ℤ) (zs : List ℤ) → low' ≤ℤ low → high ≤ℤ high' → AllIn low high zs → AllIn low' high' zs
all_wider low low' high high' [] g h a = tt
all_wider low low' high high' (z ∷ zs) g h (a, b, c) = (omega (arith, ints), omega (arith, ints), all_wider low low' high high' zs g h c)

folds_enclose : (a b : ℤ) (zs : List ℤ) → (fold int_min a zs ≤ℤ a) × (b ≤ℤ fold int_max b zs) × AllIn (fold int_min a zs) (fold int_max b zs) zs
folds_enclose a b [] = (omega (arith, ints), omega (arith, ints), tt)
folds_enclose a b (z ∷ zs) =
    let rest = folds_enclose (int_min a z) (int_max b z) zs in
    let l = rest.0 in
    let h = rest.1 in (
      omega (arith, ints, clamps, l),
      omega (arith, ints, clamps, h),
      (omega (arith, ints, clamps, l), omega (arith, ints, clamps, h), rest.2),
    )

pub all_in : (zs : List ℤ) → AllIn (least zs) (greatest zs) zs
all_in [] = tt
all_in (z ∷ zs) = let f = folds_enclose z z zs in (f.0, f.1, f.2)

all_in_left : (low high : ℤ) (xs ys : List ℤ) → AllIn low high (xs ++ ys) → AllIn low high xs
all_in_left low high [] ys a = tt
all_in_left low high (x ∷ xs) ys (a, b, c) = (a, b, all_in_left low high xs ys c)

all_in_right : (low high : ℤ) (xs ys : List ℤ) → AllIn low high (xs ++ ys) → AllIn low high ys
all_in_right low high [] ys a = a
all_in_right low high (x ∷ xs) ys (a, b, c) = all_in_right low high xs ys c

-- ---- rings within such bounds have short edges

-- the positions of a list are near, and in a box of a district's extent
pub record IsCompact (west east south north : ℤ) (ps : List Position) : Type 0 where
  pub near : list_any is_far ps ≡ false
  pub x_in : AllIn west east (map (λ p. p.0) ps)
  pub y_in : AllIn south north (map (λ p. p.1) ps)

compact_left : (w e s n : ℤ) (xs ys : List Position) → IsCompact w e s n (xs ++ ys) → IsCompact w e s n xs
compact_left w e s n xs ys c = record {
  near = first _ _ (sym (list_any-append is_far xs ys) ∙ c.near);
  x_in = all_in_left w e (map (λ p. p.0) xs) (map (λ p. p.0) ys) (subst (AllIn w e) (map-append (λ p. p.0) xs ys) c.x_in);
  y_in = all_in_left s n (map (λ p. p.1) xs) (map (λ p. p.1) ys) (subst (AllIn s n) (map-append (λ p. p.1) xs ys) c.y_in);
}
  where
    first : (a b : Bool) → (a || b) ≡ false → a ≡ false
    first true b h = h
    first false b h = refl

compact_right : (w e s n : ℤ) (xs ys : List Position) → IsCompact w e s n (xs ++ ys) → IsCompact w e s n ys
compact_right w e s n xs ys c = record {
  near = second _ _ (sym (list_any-append is_far xs ys) ∙ c.near);
  x_in = all_in_right w e (map (λ p. p.0) xs) (map (λ p. p.0) ys) (subst (AllIn w e) (map-append (λ p. p.0) xs ys) c.x_in);
  y_in = all_in_right s n (map (λ p. p.1) xs) (map (λ p. p.1) ys) (subst (AllIn s n) (map-append (λ p. p.1) xs ys) c.y_in);
}
  where
    second : (a b : Bool) → (a || b) ≡ false → b ≡ false
    second true b h = cc
    second false b h = h

within_span : (low high u v : ℤ) → (high -ℤ low) ≤ℤ pos 4_194_304 → low ≤ℤ u → u ≤ℤ high → low ≤ℤ v → v ≤ℤ high
    → nat_le (unsigned_abs (v -ℤ u)) 4_194_304 ≡ true
within_span low high u v h a b c d =
    at_most (unsigned_abs (v -ℤ u)) 4_194_304 (omega (arith, ints))
  where
    at_most : (m n : ℕ) → m ≤ n → nat_le m n ≡ true
    at_most m n h = grind (arith, nat_tests)

not_far : (a b : Bool) → (a || b) ≡ false → (not a ≡ true) × (b ≡ false)
not_far true b h = cc
not_far false b h = (refl, h)

ring_short_from : (w e s n : ℤ) (p : Position) (rest : Ring) → (e -ℤ w) ≤ℤ pos 4_194_304 → (n -ℤ s) ≤ℤ pos 4_194_304
    → IsCompact w e s n (p ∷ rest) → is_compact_from p rest ≡ true
ring_short_from w e s n p [] g h c = (not_far (is_far p) (list_any is_far []) c.near).0
ring_short_from w e s n p (q ∷ rest) g h c =
    let x = c.x_in in
    let y = c.y_in in
    let here = not_far (is_far p) (list_any is_far (q ∷ rest)) c.near in
    and_from _ _ here.0
    (and_from _ _
    (and_from _ _ (within_span w e p.0 q.0 g x.0 x.1 x.2.0 x.2.1) (within_span s n p.1 q.1 h y.0 y.1 y.2.0 y.2.1))
    (ring_short_from w e s n q rest g h (record { near = here.1; x_in = x.2; y_in = y.2 })))

ring_short : (w e s n : ℤ) (ring : Ring) → (e -ℤ w) ≤ℤ pos 4_194_304 → (n -ℤ s) ≤ℤ pos 4_194_304
    → IsCompact w e s n ring → is_compact ring ≡ true
ring_short w e s n [] g h c = refl
ring_short w e s n (p ∷ rest) g h c = ring_short_from w e s n p rest g h c

rings_short : (w e s n : ℤ) (rings : Polygon) → (e -ℤ w) ≤ℤ pos 4_194_304 → (n -ℤ s) ≤ℤ pos 4_194_304
    → IsCompact w e s n (flat_map (λ ring. ring) rings) → list_all is_compact rings ≡ true
rings_short w e s n [] g h c = refl
rings_short w e s n (ring ∷ rest) g h c =
    and_from _ _ (ring_short w e s n ring g h (compact_left w e s n ring (flat_map (λ ring. ring) rest) c))
    (rings_short w e s n rest g h (compact_right w e s n ring (flat_map (λ ring. ring) rest) c))

polygons_short : (w e s n : ℤ) (polygons : List Polygon) → (e -ℤ w) ≤ℤ pos 4_194_304 → (n -ℤ s) ≤ℤ pos 4_194_304
    → IsCompact w e s n (positions_of polygons) → list_all (list_all is_compact) polygons ≡ true
polygons_short w e s n [] g h c = refl
polygons_short w e s n (rings ∷ rest) g h c =
    and_from _ _ (rings_short w e s n rings g h (compact_left w e s n (flat_map (λ ring. ring) rings) (positions_of rest) c))
    (polygons_short w e s n rest g h (compact_right w e s n (flat_map (λ ring. ring) rings) (positions_of rest) c))

not_wide : (z : ℤ) → int_lt (pos 4_194_304) z ≡ false → z ≤ℤ pos 4_194_304
not_wide z h = omega (arith, ints)

pub all_short : (polygons : List Polygon) → IsSound polygons → list_all (list_all is_compact) polygons ≡ true
all_short polygons s =
    let k = or_parts (is_wide (longitudes polygons)) (is_wide (latitudes polygons)) s.narrow in
    polygons_short (least (longitudes polygons)) (greatest (longitudes polygons)) (least (latitudes polygons)) (greatest (latitudes polygons))
    polygons
    (not_wide (greatest (longitudes polygons) -ℤ least (longitudes polygons)) k.0)
    (not_wide (greatest (latitudes polygons) -ℤ least (latitudes polygons)) k.1)
    (record { near = s.near; x_in = all_in (longitudes polygons); y_in = all_in (latitudes polygons) })

-- What the rule of every order says of its numbers and its zone.
use Rattle.std.proofs.Common.{◌≡◌, ℕ, zero, suc, ◌≤◌, ◌^◌, ◌&&◌, ◌||◌, Bool, true, false, cond, ℤ, pos, neg_ℤ, ◌+ℤ◌, unsigned_abs, option_map, option_and_then, int_le, nat_lt, ◌==◌, not, is_some, length, All, List, [], ◌∷◌, Option, Some, None, refl, sym, ◌∙◌, arith}
use Rattle.std.proofs.lemmas.Bool.{and_parts}
use Rattle.std.proofs.lemmas.Bool.Decides.{nat_tests}
use Rattle.std.proofs.lemmas.Int.{ints}
use Rattle.std.proofs.lemmas.List.Elements.{All-nil, All-cons}
use Rattle.std.proofs.lemmas.List.Folds.{list_any-append}
use Rattle.std.specs.List.{flat_map, list_all, list_any}
use Rattle.std.specs.Option.{option_or}
use Rattle.ring_survey.specs.Each.{each_of}
use Rattle.order_rule.specs.Offsets.{days_from, offsets_of}
use Rattle.jiff_tz.specs.PosixReader.{read_whole}
use Rattle.ring_survey.specs.Extent.{is_far, is_wide, latitudes, longitudes, positions_of}
use Rattle.ring_survey.specs.Faults.{first_fault, lacks_ring, ring_fault}
use Rattle.ring_survey.specs.Polygons.{Position, Ring, Polygon}
use Rattle.plane_edges.proofs.Truth.{neither}
use Rattle.ring_survey.specs.declared.faults.RegionFault.{RegionFault}
use Rattle.ring_survey.specs.declared.faults.RegionFault.TheVariants.{TooFar, TooMany, TooWide, NoPolygon}
use Rattle.year_table.specs.Rules.{is_plain, is_rule, is_rule_byte}
use Rattle.year_table.specs.Zones.{day_offset}
use Rattle.year_table.specs.declared.zone.Zone.{Zone}
use Rattle.year_table.specs.declared.zone.Zone.TheVariants.{Fixed}

-- Districts without a fault have no position that is far away.

far_fault : (far : Bool) (rest : Option RegionFault) → cond far (Some TooFar) rest ≡ None → far ≡ false
far_fault true rest h = cc
far_fault false rest h = refl

after_or : (a b : Option RegionFault) → option_or a b ≡ None → b ≡ None
after_or None b h = h
after_or (Some fault) b h = cc

after_cond : (t : Bool) (fault : RegionFault) (rest : Option RegionFault) → cond t (Some fault) rest ≡ None → rest ≡ None
after_cond true fault rest h = cc
after_cond false fault rest h = h

none_far : (polygons : List Polygon) → first_fault polygons ≡ None → list_any is_far (positions_of polygons) ≡ false
none_far polygons h =
    let wide : Option RegionFault = cond (is_wide (longitudes polygons) || is_wide (latitudes polygons)) (Some TooWide) None in
    let far : Option RegionFault = cond (list_any is_far (positions_of polygons)) (Some TooFar) wide in
    let many : Option RegionFault = option_or (ring_fault 0 (flat_map (λ rings. rings) polygons)) far in
    far_fault (list_any is_far (positions_of polygons)) wide
    (after_or (ring_fault 0 (flat_map (λ rings. rings) polygons)) far
    (after_cond (nat_lt 4096 (length (positions_of polygons))) TooMany many
    (after_cond (lacks_ring polygons) NoPolygon (cond (nat_lt 4096 (length (positions_of polygons))) (Some TooMany) many) h)))

-- each of the longitude and the latitude is as far as a whole number may be
pub record IsNear (p : Position) : Type 0 where
  pub longitude : unsigned_abs p.0 ≤ 10 ^ 15
  pub latitude : unsigned_abs p.1 ≤ 10 ^ 15

near_unless_far : (p : Position) → is_far p ≡ false → IsNear p
near_unless_far p h =
    let both = neither (nat_lt 65_000_000 (unsigned_abs p.1)) (nat_lt 360_000_000 (unsigned_abs p.0)) h in
    let latitude : nat_lt 65_000_000 (unsigned_abs p.1) ≡ false = both.0 in
    let longitude : nat_lt 360_000_000 (unsigned_abs p.0) ≡ false = both.1 in
    record { longitude = grind (arith, nat_tests); latitude = grind (arith, nat_tests) }

near_ring : (ring : Ring) → list_any is_far ring ≡ false → All IsNear ring
near_ring [] h = All-nil IsNear
near_ring (p ∷ ring) h =
    let both = neither (is_far p) (list_any is_far ring) h in
    All-cons IsNear p ring (near_unless_far p both.0) (near_ring ring both.1)

near_rings : (rings : Polygon) → list_any is_far (flat_map (λ ring. ring) rings) ≡ false → All (All IsNear) rings
near_rings [] h = All-nil (All IsNear)
near_rings (ring ∷ rings) h =
    let both = neither _ _ (sym (list_any-append is_far ring (flat_map (λ r. r) rings)) ∙ h) in
    All-cons (All IsNear) ring rings (near_ring ring both.0) (near_rings rings both.1)

near_polygons : (polygons : List Polygon) → list_any is_far (positions_of polygons) ≡ false → All (All (All IsNear)) polygons
near_polygons [] h = All-nil (All (All IsNear))
near_polygons (rings ∷ polygons) h =
    let both = neither _ _ (sym (list_any-append is_far (flat_map (λ r. r) rings) (positions_of polygons)) ∙ h) in
    All-cons (All (All IsNear)) rings polygons (near_rings rings both.0) (near_polygons polygons both.1)

pub near_district : (polygons : List Polygon) → first_fault polygons ≡ None → All (All (All IsNear)) polygons
near_district polygons h = near_polygons polygons (none_far polygons h)

-- A zone that has an offset.

first_there : (x : Option ℤ) (rest : Option (List ℤ)) (ys : List ℤ) → option_and_then (λ y. option_map (λ zs. y ∷ zs) rest) x ≡ Some ys → x ≡ None → ⊥
first_there None rest ys h e = cc
first_there (Some z) rest ys h e = cc

has_first : (zone : Zone) (day : ℤ) (days : ℕ) (ys : List ℤ) → 1 ≤ days → offsets_of zone day days ≡ Some ys → day_offset zone day ≡ None → ⊥
unfolding offsets_of each_of
has_first zone day zero ys some h e = absurd (omega arith)
has_first zone day (suc n) ys some h e = first_there (day_offset zone day) (each_of (day_offset zone) (days_from (day +ℤ pos 1) n)) ys h e

is_inside : (a b : Bool) (z : ℤ) → (◌≡◌ {A = Option ℤ} (cond (a && b) (Some z) None) None → ⊥) → (a ≡ true) × (b ≡ true)
is_inside true true z h = (refl, refl)
is_inside true false z h = absurd (h refl)
is_inside false b z h = absurd (h refl)

pub fixed_near : (minutes day : ℤ) (days : ℕ) (ys : List ℤ) → 1 ≤ days → offsets_of (Fixed minutes) day days ≡ Some ys → unsigned_abs minutes ≤ 10 ^ 15
fixed_near minutes day days ys some h =
    let inside = is_inside (int_le (neg_ℤ (pos 720)) minutes) (int_le minutes (pos 840)) minutes (has_first (Fixed minutes) day days ys some h) in
    let low : int_le (neg_ℤ (pos 720)) minutes ≡ true = inside.0 in
    let high : int_le minutes (pos 840) ≡ true = inside.1 in
    omega (arith, ints)

pub rule_bytes : (text : List ℕ) → is_rule text ≡ true → list_all is_rule_byte text ≡ true
rule_bytes text h =
    let plain = and_parts (is_plain text) (is_some (read_whole text)) h in
    let length_and_bytes = and_parts (not (length text == 0)) (not (nat_lt 64 (length text)) && list_all is_rule_byte text) plain.0 in
    (and_parts (not (nat_lt 64 (length text))) (list_all is_rule_byte text) length_and_bytes.1).1

-- The order that a number stands for keeps the rule of every order.
use Rattle.std.proofs.Common.{◌≡◌, ◌∙◌, ap, refl, sym, subst, ℕ, zero, suc, ◌+◌, ◌*◌, ◌/◌, ◌%◌, ◌<◌, ◌≤◌, ◌≤ℤ◌, ◌==◌, Bool, true, false, ◌&&◌, List, [], ◌∷◌, ◌++◌, length, map, replicate, Some, None, Ok, arith, append-nil, append_assoc, to_z, of_z, w64, FitsSigned}
use Rattle.std.specs.Prelude.{ℤ, pos, negsuc, neg_ℤ, ◌+ℤ◌, ◌-ℤ◌, ◌*ℤ◌, int_le, fold, nat_lt, unsigned_abs, if◌then◌else◌}
use Rattle.std.specs.Int.{int_div_euclid, int_max, int_min}
use Rattle.std.specs.List.{list_any}
use Rattle.std.specs.Ordering.{int_eq}
use Rattle.std.proofs.Math.IntN.{*ℤ_comm}
use Rattle.std.proofs.lemmas.Bool.Decides.{nat_tests}
use Rattle.std.proofs.lemmas.Int.{clamps, ints, to_z-of_z, to_z_pos}
use Rattle.order_rule.specs.Asked.{Asked}
use Rattle.ring_survey.specs.Each.{each_of}
use Rattle.order_rule.specs.Offsets.{days_from, offsets_of}
use Rattle.order_rule.specs.Rule.{IsOrder}
use Rattle.order_text.specs.Line.{order_body}
use Rattle.order_text.specs.LineReading.{ReadsLine}
use Rattle.order_text.proofs.LineLaws.{lines_are_read_again}
use Rattle.order_text.proofs.LineLaws.{line_readings_agree}
use Rattle.ring_survey.specs.Extent.{greatest, is_far, is_wide, least, positions_of}
use Rattle.ring_survey.specs.Faults.{first_fault}
use Rattle.ring_survey.specs.Polygons.{Position, Ring, is_closed, last_after}
use Rattle.plane_edges.proofs.Products.{times_mono}
use Rattle.ring_survey.proofs.Reach.{AllIn}
use Rattle.plane_edges.proofs.Truth.{and_true, le_true, lt_false}
use Rattle.year_table.specs.Zones.{day_offset}
use Rattle.year_table.specs.declared.zone.Zone.TheVariants.{Fixed}
use Rattle.demo_summary.specs.Demo.{centre, demo_asked, demo_from, demo_offset, demo_ring, direction, direction_on, distance, position_at, positions_from}

-- ---- numbers around others

pub record IsAround (middle : ℤ) (reach : ℕ) (z : ℤ) : Type 0 where
  pub low : (middle -ℤ pos reach) ≤ℤ z
  pub high : z ≤ℤ (middle +ℤ pos reach)

pub record IsShort (d : Position) : Type 0 where
  pub x : IsAround (pos 0) 16 d.0
  pub y : IsAround (pos 0) 16 d.1

either_short : (b : Bool) (d e : Position) → IsShort d → IsShort e → IsShort (if b then d else e)
either_short true d e f g = f
either_short false d e f g = g

direction_short : (side t : ℕ) → t < 16 → IsShort (direction_on side t)
direction_short side t h =
    let east : IsShort (pos 16, pos (2 * t) -ℤ pos 16) = record { x = record { low = omega (arith, ints); high = omega (arith, ints) }; y = record { low = omega (arith, ints); high = omega (arith, ints) } } in
    let north : IsShort (pos 16 -ℤ pos (2 * t), pos 16) = record { x = record { low = omega (arith, ints); high = omega (arith, ints) }; y = record { low = omega (arith, ints); high = omega (arith, ints) } } in
    let west : IsShort (pos 0 -ℤ pos 16, pos 16 -ℤ pos (2 * t)) = record { x = record { low = omega (arith, ints); high = omega (arith, ints) }; y = record { low = omega (arith, ints); high = omega (arith, ints) } } in
    let south : IsShort (pos (2 * t) -ℤ pos 16, pos 0 -ℤ pos 16) = record { x = record { low = omega (arith, ints); high = omega (arith, ints) }; y = record { low = omega (arith, ints); high = omega (arith, ints) } } in
    either_short (side == 0) _ _ east (either_short (side == 1) _ _ north (either_short (side == 2) _ _ west south))

pub scaled : (r : ℕ) (d : ℤ) → r ≤ 9999 → IsAround (pos 0) 16 d → IsAround (pos 0) 160000 (pos r *ℤ d)
scaled r d h near =
    let not_negative : pos 0 ≤ℤ pos r = omega (arith, ints) in
    let least_sixteen : neg_ℤ (pos 16) ≤ℤ d = omega (arith, ints, near.low) in
    let most_sixteen : d ≤ℤ pos 16 = omega (arith, ints, near.high) in
    let below = times_mono (neg_ℤ (pos 16)) d (pos r) not_negative least_sixteen in
    let above = times_mono d (pos 16) (pos r) not_negative most_sixteen in
    let same : pos r *ℤ d ≡ d *ℤ pos r = *ℤ_comm (pos r) d in
    record { low = omega (arith, ints, h, below, same); high = omega (arith, ints, h, above, same) }

moved : (c z : ℤ) → IsAround (pos 0) 160000 z → IsAround c 160000 (c +ℤ z)
moved c z near = record { low = omega (arith, ints, near.low); high = omega (arith, ints, near.high) }

wide_fits : (z : ℤ) → neg_ℤ (pos 1000000000) ≤ℤ z → z ≤ℤ pos 1000000000 → FitsSigned w64 z
wide_fits (pos n) low high = omega (arith, ints, high)
wide_fits (negsuc n) low high = omega (arith, ints, low)

-- as the code has them
pub moved_is : (c d : ℤ) (r : ℕ) → neg_ℤ (pos 170000000) ≤ℤ c → c ≤ℤ pos 170000000 → r ≤ 9999 → neg_ℤ (pos 16) ≤ℤ d → d ≤ℤ pos 16 →
    to_z w64 (of_z w64 (to_z w64 (of_z w64 c) +ℤ to_z w64 (of_z w64 (to_z w64 r *ℤ to_z w64 (of_z w64 d))))) ≡ c +ℤ pos r *ℤ d
moved_is c d r west east short low high =
    let near = scaled r d short (record { low = omega (arith, ints, low); high = omega (arith, ints, high) }) in
    let centre_is = to_z-of_z w64 c (wide_fits c (omega (arith, ints, west)) (omega (arith, ints, east))) in
    let direction_is = to_z-of_z w64 d (wide_fits d (omega (arith, ints, low)) (omega (arith, ints, high))) in
    let distance_is : to_z w64 r ≡ pos r = to_z_pos w64 r (omega (arith, short)) in
    let product_is = to_z-of_z w64 (pos r *ℤ d) (wide_fits (pos r *ℤ d) (omega (arith, ints, near.low)) (omega (arith, ints, near.high))) in
    rw (centre_is, direction_is, distance_is, product_is)
    (to_z-of_z w64 (c +ℤ pos r *ℤ d) (wide_fits (c +ℤ pos r *ℤ d) (omega (arith, ints, west, near.low)) (omega (arith, ints, east, near.high))))

pub record IsPositionNear (c p : Position) : Type 0 where
  pub x : IsAround c.0 160000 p.0
  pub y : IsAround c.1 160000 p.1

-- each position is near the centre
pub position_near : (number i : ℕ) → IsPositionNear (centre number) (position_at number i)
unfolding position_at
position_near number i =
    let near = direction_short (i / 16) (i % 16) (omega arith) in
    let short : distance number i ≤ 9999 = omega arith in
    record {
      x = moved (centre number).0 (pos (distance number i) *ℤ (direction i).0) (scaled (distance number i) (direction i).0 short near.x);
      y = moved (centre number).1 (pos (distance number i) *ℤ (direction i).1) (scaled (distance number i) (direction i).1 short near.y);
    }

-- ---- positions near a centre

module _ (c : Position) where
  abbrev pub AllNear : List Position → Type 0
  AllNear [] = Unit {0}
  AllNear (p ∷ ps) = IsPositionNear c p × AllNear ps

  all_x : (ps : List Position) → AllNear ps → AllIn (c.0 -ℤ pos 160000) (c.0 +ℤ pos 160000) (map (λ p. p.0) ps)
  all_x [] near = tt
  all_x (p ∷ ps) near = (near.0.x.low, near.0.x.high, all_x ps near.1)

  all_y : (ps : List Position) → AllNear ps → AllIn (c.1 -ℤ pos 160000) (c.1 +ℤ pos 160000) (map (λ p. p.1) ps)
  all_y [] near = tt
  all_y (p ∷ ps) near = (near.0.y.low, near.0.y.high, all_y ps near.1)

  not_less : (m n : ℕ) → n ≤ m → nat_lt m n ≡ false
  not_less m n h = grind (arith, nat_tests)

  not_far : (p : Position) → IsAround (pos 0) 170000000 c.0 → IsAround (pos 0) 40000000 c.1 → IsPositionNear c p → is_far p ≡ false
  not_far p g h near =
      let x : unsigned_abs p.0 ≤ 360_000_000 = omega (arith, ints, g.low, g.high, near.x.low, near.x.high) in
      let y : unsigned_abs p.1 ≤ 65_000_000 = omega (arith, ints, h.low, h.high, near.y.low, near.y.high) in
      rw (not_less 65_000_000 (unsigned_abs p.1) y, not_less 360_000_000 (unsigned_abs p.0) x) refl

  none_far : (ps : List Position) → IsAround (pos 0) 170000000 c.0 → IsAround (pos 0) 40000000 c.1 → AllNear ps → list_any is_far ps ≡ false
  none_far [] g h near = refl
  none_far (p ∷ ps) g h near = rw (not_far p g h near.0, none_far ps g h near.1) refl

fold_low : (low high a : ℤ) (zs : List ℤ) → low ≤ℤ a → AllIn low high zs → low ≤ℤ fold int_min a zs
fold_low low high a [] h all = h
fold_low low high a (z ∷ zs) h all = fold_low low high (int_min a z) zs (omega (arith, ints, clamps, h, all.0)) all.2

fold_high : (low high a : ℤ) (zs : List ℤ) → a ≤ℤ high → AllIn low high zs → fold int_max a zs ≤ℤ high
fold_high low high a [] h all = h
fold_high low high a (z ∷ zs) h all = fold_high low high (int_max a z) zs (omega (arith, ints, clamps, h, all.1)) all.2

width : (low high : ℤ) (zs : List ℤ) → low ≤ℤ high → AllIn low high zs → (greatest zs -ℤ least zs) ≤ℤ (high -ℤ low)
width low high [] h all = omega (arith, ints, h)
width low high (z ∷ zs) h all =
    let l = fold_low low high z zs all.0 all.2 in
    let g = fold_high low high z zs all.1 all.2 in
    omega (arith, ints, l, g)

not_wide : (middle : ℤ) (zs : List ℤ) → AllIn (middle -ℤ pos 160000) (middle +ℤ pos 160000) zs → is_wide zs ≡ false
not_wide middle zs all =
    let w = width (middle -ℤ pos 160000) (middle +ℤ pos 160000) zs (omega (arith, ints)) all in
    lt_false (pos 4_194_304) (greatest zs -ℤ least zs) (omega (arith, ints, w))

-- ---- the ring

last_of : (p : Position) (ps : Ring) (q : Position) → last_after p (ps ++ q ∷ []) ≡ q
last_of p [] q = refl
last_of p (r ∷ ps) q = last_of r ps q

same_int : (z : ℤ) → int_eq z z ≡ true
same_int z = grind (arith, ints)

closed_at : (p : Position) (ps : Ring) → is_closed (p ∷ (ps ++ p ∷ [])) ≡ true
closed_at p ps = rw (last_of p ps p, same_int p.0, same_int p.1) refl

-- so many positions, and the first again
abbrev around : ℕ → ℕ → ℕ → Ring
around number i n = positions_from number i n ++ position_at number 0 ∷ []

around_near : (number i n : ℕ) → AllNear (centre number) (around number i n)
unfolding positions_from
around_near number i zero = (position_near number 0, tt)
around_near number i (suc n) = (position_near number i, around_near number (i + 1) n)

around_length : (number i n : ℕ) → length (around number i n) ≡ n + 1
unfolding positions_from
around_length number i zero = refl
around_length number i (suc n) = ap suc (around_length number (i + 1) n) ∙ omega arith

around_closed : (number n : ℕ) → is_closed (around number 0 (suc n)) ≡ true
unfolding positions_from
around_closed number n = closed_at (position_at number 0) (positions_from number 1 n)

centre_x : (number : ℕ) → IsAround (pos 0) 170000000 (centre number).0
unfolding centre
centre_x number = record { low = omega (arith, ints); high = omega (arith, ints) }

centre_y : (number : ℕ) → IsAround (pos 0) 40000000 (centre number).1
unfolding centre
centre_y number = record { low = omega (arith, ints); high = omega (arith, ints) }

-- one ring without a fault is a district without one
one_ring : (ring : Ring) → length ring ≡ 65 → is_closed ring ≡ true → list_any is_far ring ≡ false →
    is_wide (map (λ p. p.0) ring) ≡ false → is_wide (map (λ p. p.1) ring) ≡ false → first_fault ((ring ∷ []) ∷ []) ≡ None
one_ring ring long closed near narrow low =
    let flat : positions_of ((ring ∷ []) ∷ []) ≡ ring = append-nil (ring ++ []) ∙ append-nil ring in
    rw (flat, long, closed, near, narrow, low) refl

ring_sound : (number : ℕ) → first_fault ((demo_ring number ∷ []) ∷ []) ≡ None
unfolding demo_ring
ring_sound number =
    let ring = around number 0 64 in
    let near = around_near number 0 64 in
    one_ring ring (around_length number 0 64) (around_closed number 63)
    (none_far (centre number) ring (centre_x number) (centre_y number) near)
    (not_wide (centre number).0 (map (λ p. p.0) ring) (all_x (centre number) ring near))
    (not_wide (centre number).1 (map (λ p. p.1) ring) (all_y (centre number) ring near))

-- ---- the offset

hours_between : (z : ℤ) → neg_ℤ (pos 162500000) ≤ℤ z → z ≤ℤ pos 177500000 → IsAround (pos 0) 11 (int_div_euclid z (pos 15000000))
hours_between (pos a) low high = record { low = omega (arith, ints); high = omega (arith, ints, high) }
hours_between (negsuc a) low high = record { low = omega (arith, ints, low); high = omega (arith, ints) }

offset_between : (number : ℕ) → IsAround (pos 0) 660 (demo_offset number)
offset_between number =
    let east = centre_x number in
    let hours = hours_between ((centre number).0 +ℤ pos 7500000) (omega (arith, ints, east.low)) (omega (arith, ints, east.high)) in
    record { low = omega (arith, ints, hours.low); high = omega (arith, ints, hours.high) }

each_fixed : (z day : ℤ) (n : ℕ) → (int_le (neg_ℤ (pos 720)) z && int_le z (pos 840)) ≡ true →
    each_of (day_offset (Fixed z)) (days_from day n) ≡ Some (replicate n z)
unfolding each_of
each_fixed z day zero h = refl
each_fixed z day (suc n) h = rw (h, each_fixed z (day +ℤ pos 1) n h) refl

offset_each : (number : ℕ) → offsets_of (Fixed (demo_offset number)) (demo_from number) 30 ≡ Some (replicate 30 (demo_offset number))
unfolding offsets_of
offset_each number =
    let z = demo_offset number in
    let near = offset_between number in
    each_fixed z (demo_from number) 30
    (and_true _ _ (le_true (neg_ℤ (pos 720)) z (omega (arith, ints, near.low))) (le_true z (pos 840) (omega (arith, ints, near.high))))

-- ---- the order

pub is_order : (number : ℕ) → IsOrder (demo_asked number)
unfolding demo_asked
is_order number = record {
  not_early = omega (arith, ints);
  not_late = omega (arith, ints);
  some_days = omega arith;
  few_days = omega arith;
  known_zone = refl;
  offset_each = offset_each number;
  low = omega arith;
  late_in_range = refl;
  sound = ring_sound number;
}

-- what its line is read as
pub read_is : (number : ℕ) (line : List ℕ) (o : Asked) → line ≡ order_body (demo_asked number) → ReadsLine line (Ok o) → o ≡ demo_asked number
read_is number line o is read =
    let same : Ok o ≡ Ok (demo_asked number) =
    line_readings_agree (order_body (demo_asked number)) _ _ (subst (λ (l : List ℕ). ReadsLine l (Ok o)) is read)
    (lines_are_read_again (demo_asked number) (is_order number)) in
    cc

-- ---- the ring as it is made

pub ring_more : (number i left rest : ℕ) (ring ring' whole : List Position) (p : Position) → left ≡ suc rest → p ≡ position_at number i → ring' ≡ ring ++ p ∷ [] →
    ring ++ positions_from number i left ≡ whole → ring' ++ positions_from number (i + 1) rest ≡ whole
unfolding positions_from
ring_more number i left rest ring ring' whole p is_left is_p is_ring so_far =
    ap (λ (ps : List Position). ps ++ positions_from number (i + 1) rest) (is_ring ∙ ap (λ (q : Position). ring ++ q ∷ []) is_p)
    ∙ append_assoc ring (position_at number i ∷ []) (positions_from number (i + 1) rest)
    ∙ ap (λ (n : ℕ). ring ++ positions_from number i n) (sym is_left) ∙ so_far

pub ring_is : (number i left : ℕ) (ring ring' : List Position) (p : Position) → left ≡ 0 → p ≡ position_at number 0 → ring' ≡ ring ++ p ∷ [] →
    ring ++ positions_from number i left ≡ positions_from number 0 64 → ring' ≡ demo_ring number
unfolding demo_ring positions_from
ring_is number i left ring ring' p is_left is_p is_ring so_far =
    let whole : ring ≡ positions_from number 0 64 = sym (append-nil ring) ∙ ap (λ (n : ℕ). ring ++ positions_from number i n) (sym is_left) ∙ so_far in
    is_ring ∙ ap (λ (q : Position). ring ++ q ∷ []) is_p ∙ ap (λ (ps : List Position). ps ++ position_at number 0 ∷ []) whole

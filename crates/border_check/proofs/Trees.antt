-- A tree without an unsettled square shows its whole root, and the square that is named is rightly not settled.
use Rattle.std.proofs.Common.{◌≡◌, ◌⊎◌, inl, inr, ℕ, zero, suc, ◌+◌, ◌-◌, ◌^◌, ◌<◌, Bool, true, false, not, ◌&&◌, cond, List, Option, Some, None, arith, refl, sym, ap, ◌∙◌, subst}
use Rattle.std.proofs.Math.IntN.{ℤ, pos, ◌+ℤ◌, ◌*ℤ◌}
use Rattle.std.specs.Prelude.{◌≤ℤ◌, ◌<ℤ◌}
use Rattle.std.specs.Option.{is_none, option_or}
use Rattle.std.specs.List.{flat_map}
use Rattle.std.proofs.Math.Nat.{pow-suc}
use Rattle.std.proofs.lemmas.Nat.{pow_pos}
use Rattle.std.proofs.lemmas.Int.{ints, by_lt_z}
use Rattle.std.proofs.lemmas.Bool.{false≢true}
use Rattle.plane_edges.specs.Plane.{Place, Box, IsIn, IsOrdered}
use Rattle.ring_survey.specs.Polygons.{Polygon, are_closed}
use Rattle.region.specs.Rings.{polygon_edges, is_in_district}
use Rattle.plane_edges.specs.EdgePoints.{first_point, corner}
use Rattle.plane_edges.proofs.Products.{times_mono}
use Rattle.plane_edges.proofs.Truth.{and_left, and_right, not_false, or_cases, or_none_left, or_none_right, or_some, neither}
use Rattle.region.proofs.Wholly.{in_district_alike, first_in}
use Rattle.plane_edges.proofs.Parity.{corner_ordered}
use Rattle.border_check.specs.declared.squares.Square.{Square}
use Rattle.border_check.specs.Squares.{side, box_in, half, quarter}
use Rattle.border_check.specs.Shares.{ShareView, share_of, share_within}
use Rattle.border_check.specs.Settled.{is_clear, is_free, is_whole, is_settled, first_of_quarters, unsettled_to, unsettled, open_to, open_in}
use Rattle.border_check.specs.Laws.{HoldsIn, IsOnEdge, IsOpen, SettledHolds, UnsettledIsOpen}
use Rattle.border_check.proofs.Meeting.{IsInner, first_met}
use Rattle.border_check.proofs.Sharing.{settles_is, share_within_is}

-- ---- quarters

by_size : (n : ℕ) → 0 < n → 2 ^ n ≡ 2 ^ (n - 1) + 2 ^ (n - 1)
by_size zero h = absurd (omega arith)
by_size (suc k) h = let e : suc k - 1 ≡ k = omega arith in rw (e, pow-suc) (omega arith)

pub side_halves : (s : Square) → 0 < s.size → side s ≡ half s +ℤ half s
side_halves s h = ap pos (by_size s.size h)

pub half_positive : (s : Square) → pos 0 <ℤ half s
half_positive s = let h = pow_pos (s.size - 1) in omega (arith, ints)

record Between (x y a d : ℤ) : Type 0 where
  low : (x *ℤ d) ≤ℤ a
  high : a ≤ℤ (y *ℤ d)

-- what is in a range is in its first half or in its second
in_half : (x h side a d : ℤ) → side ≡ h +ℤ h → Between x (x +ℤ side) a d
    → Between x (x +ℤ h) a d ⊎ Between (x +ℤ h) ((x +ℤ h) +ℤ h) a d
in_half x h side a d e b =
    by_lt_z a ((x +ℤ h) *ℤ d)
    (λ below. inl (record { low = b.low; high = omega (arith, ints) }))
    (λ above.
    let same : (x +ℤ h) +ℤ h ≡ x +ℤ side = omega (arith, ints, e) in
    inr (record { low = above; high = rw same b.high }))

-- the first or the second half of a range
abbrev start : Bool → ℤ → ℤ → ℤ
start far x h = cond far (x +ℤ h) x

half_of : (x h side a d : ℤ) → side ≡ h +ℤ h → Between x (x +ℤ side) a d
    → (far : Bool) × Between (start far x h) (start far x h +ℤ h) a d
half_of x h side a d e b =
    elim (in_half x h side a d e b) [
      | inl f ↦ (false, f)
      | inr f ↦ (true, f)
    ]

-- a place of a square is in one of its quarters
pub in_quarter : (s : Square) (p : Place) → 0 < s.size → IsIn (box_in s) p
    → (east : Bool) × (north : Bool) × IsIn (box_in (quarter s east north)) p
in_quarter s p large i =
    let e = side_halves s large in
    let x = half_of s.x (half s) (side s) p.a p.d e (record { low = i.west; high = i.east }) in
    let y = half_of s.y (half s) (side s) p.b p.d e (record { low = i.south; high = i.north }) in
    (x.0, y.0, record { positive = i.positive; west = x.1.low; east = x.1.high; south = y.1.low; north = y.1.high })

-- a half lies in the range
half_within : (far : Bool) (x h side a d : ℤ) → pos 0 <ℤ d → pos 0 <ℤ h → side ≡ h +ℤ h
    → Between (start far x h) (start far x h +ℤ h) a d → Between x (x +ℤ side) a d
half_within false x h side a d positive some e b =
    let f = times_mono (x +ℤ h) (x +ℤ side) d (omega (arith, ints)) (omega (arith, ints, e)) in
    record { low = b.low; high = omega (arith, ints, b.high, f) }
half_within true x h side a d positive some e b =
    let f = times_mono x (x +ℤ h) d (omega (arith, ints)) (omega (arith, ints, e)) in
    let same : (x +ℤ h) +ℤ h ≡ x +ℤ side = omega (arith, ints, e) in
    record { low = omega (arith, ints, b.low, f); high = rw (← same) b.high }

half_ordered : (x h : ℤ) → pos 0 <ℤ h → x ≤ℤ (x +ℤ h)
half_ordered x h some = omega (arith, ints)

pub square_ordered : (s : Square) → IsOrdered (box_in s)
square_ordered s =
    let h = pow_pos s.size in
    let some : pos 0 <ℤ side s = omega (arith, ints) in
    record { x_ordered = half_ordered s.x (side s) some; y_ordered = half_ordered s.y (side s) some }

pub quarter_inner : (s : Square) (east north : Bool) → 0 < s.size → IsInner (box_in s) (box_in (quarter s east north))
quarter_inner s east north large = record {
  ordered = square_ordered (quarter s east north);
  places = λ p i.
      let e = side_halves s large in
      let some = half_positive s in
      let x = half_within east s.x (half s) (side s) p.a p.d i.positive some e (record { low = i.west; high = i.east }) in
      let y = half_within north s.y (half s) (side s) p.b p.d i.positive some e (record { low = i.south; high = i.north }) in
      record { positive = i.positive; west = x.low; east = x.high; south = y.low; north = y.high };
}

-- ---- a settled box

none_is : {A : Type 0} (o : Option A) → is_none o ≡ true → o ≡ None
none_is None h = refl
none_is (Some x) h = cc

free_none : (box : Box) (border : List Polygon) (p : Place) → are_closed border ≡ true → is_free box border ≡ true → IsIn box p
    → is_in_district p border ≡ false
free_none box border p closed h i =
    let clear = and_left (is_clear box border) (not (is_in_district (corner box) border)) h in
    let out = not_false (is_in_district (corner box) border) (and_right (is_clear box border) (not (is_in_district (corner box) border)) h) in
    in_district_alike box p border i closed (none_is (first_point box (flat_map polygon_edges border)) clear) ∙ out

whole_in : (box : Box) (district : List Polygon) (p : Place) → are_closed district ≡ true → is_whole box district ≡ true → IsIn box p
    → is_in_district p district ≡ true
whole_in box district p closed h i =
    let clear = and_left (is_clear box district) (is_in_district (corner box) district) h in
    let inside = and_right (is_clear box district) (is_in_district (corner box) district) h in
    in_district_alike box p district i closed (none_is (first_point box (flat_map polygon_edges district)) clear) ∙ inside

settled_in : (box : Box) (border district : List Polygon) → are_closed border ≡ true → are_closed district ≡ true
    → is_settled box border district ≡ true → (p : Place) → IsIn box p → is_in_district p border ≡ true → is_in_district p district ≡ true
settled_in box border district b d h p i inside =
    elim (or_cases (is_free box border) (is_whole box district) h) [
      | inl free ↦ absurd (false≢true (sym (free_none box border p b free i) ∙ inside))
      | inr held ↦ whole_in box district p d held i
    ]

-- ---- a box that isn't settled

not_free : (box : Box) (border : List Polygon) → IsOrdered box → is_free box border ≡ false
    → (p : Place) × IsIn box p × (is_in_district p border ≡ true)
not_free box border o h = by (first_point box (flat_map polygon_edges border)) refl (is_in_district (corner box) border) refl h
  where
    by : (found : Option Place) → first_point box (flat_map polygon_edges border) ≡ found
        → (inside : Bool) → is_in_district (corner box) border ≡ inside → (is_none found && not inside) ≡ false
        → (p : Place) × IsIn box p × (is_in_district p border ≡ true)
    by (Some p) f inside g k = let m = first_in box p border o (sym f) in (p, m.0, m.1)
    by None f true g k = (corner box, corner_ordered box o, g)
    by None f false g k = cc

not_whole : (box : Box) (district : List Polygon) → IsOrdered box → is_whole box district ≡ false
    → (p : Place) × IsIn box p × ((is_in_district p district ≡ false) ⊎ IsOnEdge p district)
not_whole box district o h = by (first_point box (flat_map polygon_edges district)) refl (is_in_district (corner box) district) refl h
  where
    by : (found : Option Place) → first_point box (flat_map polygon_edges district) ≡ found
        → (inside : Bool) → is_in_district (corner box) district ≡ inside → (is_none found && inside) ≡ false
        → (p : Place) × IsIn box p × ((is_in_district p district ≡ false) ⊎ IsOnEdge p district)
    by (Some p) f inside g k = let m = first_met box p (flat_map polygon_edges district) o f in (p, m.0, inr m.1)
    by None f false g k = (corner box, corner_ordered box o, inl g)
    by None f true g k = cc

pub open_of : (box : Box) (border district : List Polygon) → IsOrdered box → is_settled box border district ≡ false
    → IsOpen border district box
open_of box border district o h =
    let parts = neither (is_free box border) (is_whole box district) h in
    let here = not_free box border o parts.0 in
    let there = not_whole box district o parts.1 in
    record {
      place = here.0;
      in_box = here.1;
      in_border = here.2;
      other = there.0;
      other_in_box = there.1;
      not_inside = there.2;
    }

-- ---- the tree

-- none of the four quarters answers
quarters_none : (ask : Square → Option Square) (s : Square) → first_of_quarters ask s ≡ None
    → (east north : Bool) → ask (quarter s east north) ≡ None
quarters_none ask s h false false = or_none_left (ask (quarter s false false)) _ h
quarters_none ask s h true false = or_none_left (ask (quarter s true false)) _ (or_none_right (ask (quarter s false false)) _ h)
quarters_none ask s h false true =
    or_none_left (ask (quarter s false true)) (ask (quarter s true true))
    (or_none_right (ask (quarter s true false)) _ (or_none_right (ask (quarter s false false)) _ h))
quarters_none ask s h true true =
    or_none_right (ask (quarter s false true)) (ask (quarter s true true))
    (or_none_right (ask (quarter s true false)) _ (or_none_right (ask (quarter s false false)) _ h))

-- one of them does
quarters_some : (ask : Square → Option Square) (s found : Square) → first_of_quarters ask s ≡ Some found
    → (east : Bool) × (north : Bool) × (ask (quarter s east north) ≡ Some found)
quarters_some ask s found h =
    let a = ask (quarter s false false) in
    let b = ask (quarter s true false) in
    let c = ask (quarter s false true) in
    let d = ask (quarter s true true) in
    elim (or_some a (option_or b (option_or c d)) found h) [
      | inl k ↦ (false, false, k)
      | inr h ↦ elim (or_some b (option_or c d) found h) [
        | inl k ↦ (true, false, k)
        | inr h ↦ elim (or_some c d found h) [
          | inl k ↦ (false, true, k)
          | inr k ↦ (true, true, k)
        ]
      ]
    ]

smaller : (s : Square) (n : ℕ) → s.size ≡ suc n → s.size - 1 ≡ n
smaller s n h = omega (arith, h)

holds_to : (n : ℕ) (border district : List Polygon) (s : Square) → s.size ≡ n → are_closed border ≡ true → are_closed district ≡ true
    → unsettled_to n border district s ≡ None → HoldsIn s border district
unfolding unsettled_to
holds_to zero border district s e b d h = by (is_settled (box_in s) border district) refl h
  where
    by : (t : Bool) → is_settled (box_in s) border district ≡ t → cond t None (Some s) ≡ None → HoldsIn s border district
    by true f g = settled_in (box_in s) border district b d f
    by false f g = cc
holds_to (suc n) border district s e b d h =
    by (is_settled (box_in s) border district) refl h
    (λ none. below none (λ east north. holds_to n border district (quarter s east north) (smaller s n e) b d))
  where
    below : first_of_quarters (unsettled_to n border district) s ≡ None
        → ((east north : Bool) → unsettled_to n border district (quarter s east north) ≡ None → HoldsIn (quarter s east north) border district)
        → HoldsIn s border district
    below none hold p i inside =
        let q = in_quarter s p (omega (arith, e)) i in
        hold q.0 q.1 (quarters_none (unsettled_to n border district) s none q.0 q.1) p q.2 inside

    by : (t : Bool) → is_settled (box_in s) border district ≡ t
        → cond t None (first_of_quarters (unsettled_to n border district) s) ≡ None
        → (first_of_quarters (unsettled_to n border district) s ≡ None → HoldsIn s border district) → HoldsIn s border district
    by true f g more = settled_in (box_in s) border district b d f
    by false f g more = more g

open_found : (n : ℕ) (border district : List Polygon) (s found : Square) → s.size ≡ n
    → unsettled_to n border district s ≡ Some found → (found.size ≡ 0) × IsOpen border district (box_in found)
unfolding unsettled_to
open_found zero border district s found e h = by (is_settled (box_in s) border district) refl h
  where
    by : (t : Bool) → is_settled (box_in s) border district ≡ t → cond t None (Some s) ≡ Some found
        → (found.size ≡ 0) × IsOpen border district (box_in found)
    by true f g = cc
    by false f g =
        let same : s ≡ found = cc in
        subst (λ (t : Square). (t.size ≡ 0) × IsOpen border district (box_in t)) same
        (e, open_of (box_in s) border district (square_ordered s) f)
open_found (suc n) border district s found e h =
    by (is_settled (box_in s) border district) h
    (λ east north. open_found n border district (quarter s east north) found (smaller s n e))
  where
    by : (t : Bool) → cond t None (first_of_quarters (unsettled_to n border district) s) ≡ Some found
        → ((east north : Bool) → unsettled_to n border district (quarter s east north) ≡ Some found
        → (found.size ≡ 0) × IsOpen border district (box_in found))
        → (found.size ≡ 0) × IsOpen border district (box_in found)
    by true g more = cc
    by false g more =
        let q = quarters_some (unsettled_to n border district) s found g in
        more q.0 q.1 q.2

pub settled_holds : SettledHolds
settled_holds border district s b d h = holds_to s.size border district s refl b d h

pub unsettled_is_open : UnsettledIsOpen
unsettled_is_open border district s found b d h = open_found s.size border district s found refl h

-- ---- the tree by shares

same_quarters : (s : Square) (ask tell : Square → Option Square)
    → ((east north : Bool) → ask (quarter s east north) ≡ tell (quarter s east north))
    → first_of_quarters ask s ≡ first_of_quarters tell s
same_quarters s ask tell h = rw (h false false, h true false, h false true, h true true) refl

pub open_to_is : (n : ℕ) (border district : List Polygon) (s : Square) → s.size ≡ n → are_closed border ≡ true → are_closed district ≡ true
    → open_to n (share_of (box_in s) border) (share_of (box_in s) district) s ≡ unsettled_to n border district s
unfolding open_to unsettled_to
open_to_is zero border district s e b d =
    ap (λ (t : Bool). cond t None (Some s)) (settles_is (box_in s) border district (square_ordered s))
open_to_is (suc n) border district s e b d =
    let ask : Square → Option Square = λ q. open_to n (share_within (box_in s) (box_in q) (share_of (box_in s) border))
    (share_within (box_in s) (box_in q) (share_of (box_in s) district)) q in
    ap (λ (t : Bool). cond t None (first_of_quarters ask s)) (settles_is (box_in s) border district (square_ordered s))
    ∙ ap (λ (o : Option Square). cond (is_settled (box_in s) border district) None o)
    (same_quarters s ask (unsettled_to n border district)
    (λ east north. each east north (open_to_is n border district (quarter s east north) (smaller s n e) b d)))
  where
    each : (east north : Bool)
        → open_to n (share_of (box_in (quarter s east north)) border) (share_of (box_in (quarter s east north)) district) (quarter s east north)
        ≡ unsettled_to n border district (quarter s east north)
        → open_to n (share_within (box_in s) (box_in (quarter s east north)) (share_of (box_in s) border))
        (share_within (box_in s) (box_in (quarter s east north)) (share_of (box_in s) district)) (quarter s east north)
        ≡ unsettled_to n border district (quarter s east north)
    each east north more =
        let q = quarter s east north in
        let i = quarter_inner s east north (omega (arith, e)) in
        ap (λ (x : ShareView). open_to n x (share_within (box_in s) (box_in q) (share_of (box_in s) district)) q)
        (share_within_is (box_in s) (box_in q) border i b)
        ∙ ap (λ (x : ShareView). open_to n (share_of (box_in q) border) x q) (share_within_is (box_in s) (box_in q) district i d)
        ∙ more

-- what shares find is the first unsettled square
pub open_in_is : (border district : List Polygon) (s : Square) → are_closed border ≡ true → are_closed district ≡ true
    → open_in (share_of (box_in s) border) (share_of (box_in s) district) s ≡ unsettled border district s
open_in_is border district s b d = open_to_is s.size border district s refl b d

-- Loops that count rings and positions.
use Rattle.std.proofs.Common.{◌≡◌, ℕ, suc, ◌+◌, ◌-◌, ◌*◌, ◌^◌, ◌<◌, ◌≤◌, Bool, true, false, ◌&&◌, cond, List, [], ◌∷◌, ◌++◌, length, drop, get_or, Option, Some, None, refl, sym, ap, arith, add-one, add-zero, length-append, ◌∙◌}
use Rattle.std.proofs.Math.Seq.{drop-cons}
use Rattle.std.specs.Prelude.{nat_lt}
use Rattle.std.specs.Ordering.{int_eq}
use Rattle.std.specs.Option.{option_or}
use Rattle.std.specs.List.{flat_map}
use Rattle.ring_survey.specs.declared.faults.RegionFault.{RegionFault}
use Rattle.ring_survey.specs.declared.faults.RegionFault.TheVariants.{Short, Open}
use Rattle.ring_survey.specs.Polygons.{Position, Ring, Polygon, last_after, is_closed}
use Rattle.ring_survey.specs.Extent.{positions_of}
use Rattle.ring_survey.specs.Faults.{ring_fault}

pub record Numbered (first : ℕ) (all left : List Ring) (number : ℕ) : Type 0 where
  pub fault_is : ring_fault number left ≡ ring_fault first all
  pub number_is : number + length left ≡ first + length all
  pub enough : 4 * number + length (flat_map (λ ring. ring) left) ≤ 4 * first + length (flat_map (λ ring. ring) all)

pub record Checked (all left : List Polygon) (number : ℕ) : Type 0 where
  pub fault_is : ring_fault number (flat_map (λ rings. rings) left) ≡ ring_fault 0 (flat_map (λ rings. rings) all)
  pub enough : 4 * number + length (positions_of left) < 2 ^ 64

-- what is left begins with the element at hand
pub next_left : {A : Type 0} (xs : List A) (i : ℕ) (x : A) → i < length xs → x ≡ get_or xs i x
    → drop i xs ≡ x ∷ drop (i + 1) xs
next_left xs i x h e = drop-cons xs i x h ∙ rw (add-one) (ap (λ y. y ∷ drop (suc i) xs) (sym e))

-- a ring's last position, by its index
last_is : (p : Position) (rest : Ring) (d : Position) → get_or (p ∷ rest) (length rest) d ≡ last_after p rest
last_is p [] d = refl
last_is p (q ∷ rest) d = last_is q rest d

pub is_closed_by_ends : (ring : Ring) (d : Position) → 0 < length ring
    → (int_eq (get_or ring (length ring - 1) d).0 (get_or ring 0 d).0 && int_eq (get_or ring (length ring - 1) d).1 (get_or ring 0 d).1)
    ≡ is_closed ring
is_closed_by_ends [] d h = absurd (omega arith)
is_closed_by_ends (p ∷ rest) d h =
    let e : length (p ∷ rest) - 1 ≡ length rest = omega arith in
    rw (e, last_is p rest d) refl

pub ring_fault-append : (n : ℕ) (xs ys : List Ring)
    → ring_fault n (xs ++ ys) ≡ option_or (ring_fault n xs) (ring_fault (n + length xs) ys)
ring_fault-append n [] ys = rw (add-zero) refl
ring_fault-append n (ring ∷ xs) ys =
    let e : n + 1 + length xs ≡ n + suc (length xs) = omega arith in
    step (nat_lt (length ring) 4) (is_closed ring) (Short n) (Open n) (ring_fault (n + 1) (xs ++ ys)) (ring_fault (n + 1) xs)
    (ring_fault (n + suc (length xs)) ys)
    (ring_fault-append (n + 1) xs ys ∙ ap (λ m. option_or (ring_fault (n + 1) xs) (ring_fault m ys)) e)
  where
    step : (a b : Bool) (x y : RegionFault) (o p q : Option RegionFault) → o ≡ option_or p q
        → cond a (Some x) (cond b o (Some y)) ≡ option_or (cond a (Some x) (cond b p (Some y))) q
    step true b x y o p q h = refl
    step false true x y o p q h = h
    step false false x y o p q h = refl

pub checked_more : (all left : List Polygon) (rings : Polygon) (number next : ℕ) → Checked all (rings ∷ left) number
    → ring_fault number rings ≡ None → next ≡ number + length rings
    → 4 * next ≤ 4 * number + length (flat_map (λ ring. ring) rings) → Checked all left next
checked_more all left rings number next c none e h = record {
  fault_is = ap (λ n. ring_fault n (flat_map (λ rings. rings) left)) e
      ∙ sym (ap (λ o. option_or o (ring_fault (number + length rings) (flat_map (λ rings. rings) left))) none)
      ∙ sym (ring_fault-append number rings (flat_map (λ rings. rings) left))
      ∙ c.fault_is;
  enough = omega (arith, c.enough, length-append (flat_map (λ ring. ring) rings) (positions_of left));
}

pub checked_fault : (all left : List Polygon) (rings : Polygon) (number : ℕ) (fault : RegionFault) → Checked all (rings ∷ left) number
    → ring_fault number rings ≡ Some fault → ring_fault 0 (flat_map (λ rings. rings) all) ≡ Some fault
checked_fault all left rings number fault c h =
    sym c.fault_is ∙ ring_fault-append number rings (flat_map (λ rings. rings) left)
    ∙ ap (λ o. option_or o (ring_fault (number + length rings) (flat_map (λ rings. rings) left))) h

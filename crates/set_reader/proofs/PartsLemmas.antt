-- What the districts of a set are, from how they were found.
use Rattle.std.proofs.Common.{◌≡◌, ◌∙◌, refl, sym, ap, subst, map, ◌++◌, ℤ, ◌≤◌, ◌&&◌, Bool, true, false, cond, List, [], ◌∷◌, length, Option, Some, None, option_and_then, Ok, Err, ◌⊎◌, inl, inr, append_assoc, append-nil, arith}
use Rattle.std.proofs.lemmas.Bool.{and_parts}
use Rattle.std.specs.List.{AllZip, flat_map}
use Rattle.std.specs.Prelude.{nat_le}
use Rattle.std.specs.Option.{option_or}
use Rattle.std.specs.Vec.{vec_items, vec_len}
use Rattle.std.specs.declared.vec.Vec.{Vec}
use Rattle.std.proofs.lemmas.List.{map-append}
use Rattle.std.proofs.lemmas.Bool.Decides.{nat_tests}
use Rattle.json_value.specs.Tree.{Tree, Entry}
use Rattle.geo_json.specs.Geometry.{features_list}
use Rattle.order_reader.specs.Reading.{district_of, unless_refused}
use Rattle.order_member.specs.declared.fault.OrderFault.{OrderFault}
use Rattle.order_member.specs.declared.fault.OrderFault.TheVariants.{NoMemory, Region}
use Rattle.ring_survey.proofs.EachLemmas.{each_length}
use Rattle.ring_survey.specs.Each.{each_of}
use Rattle.ring_survey.specs.Faults.{first_fault}
use Rattle.ring_survey.specs.Polygons.{Polygon}
use Rattle.ring_survey.specs.Vectors.{polygons_in, rings_in}
use Rattle.ring_survey.specs.declared.faults.RegionFault.{RegionFault}
use Rattle.set_reader.specs.Features.{each_feature, feature_of, features_of, polygons_of}
use Rattle.set_reader.specs.Reading.{parts_of, unless_one_refused}
use Rattle.set_reader.specs.Together.{AreParts, parts_fault}
use Rattle.set_reader.specs.Views.{features_in}

-- as many as were listed
few_listed : (ts : List Tree) (features : List (List Polygon)) → each_feature ts ≡ Some features → (1 ≤ length features) × (length features ≤ 64)
few_listed ts features e = by_test (nat_le 1 (length ts) && nat_le (length ts) 64) refl e
  where
    by_test : (b : Bool) → (nat_le 1 (length ts) && nat_le (length ts) 64) ≡ b → cond b (each_of feature_of ts) None ≡ Some features → (1 ≤ length features) × (length features ≤ 64)
    by_test true fits found =
        let long = each_length feature_of ts features found in
        let parts = and_parts (nat_le 1 (length ts)) (nat_le (length ts) 64) fits in
        let low : nat_le 1 (length ts) ≡ true = parts.0 in
        let high : nat_le (length ts) 64 ≡ true = parts.1 in
        (grind (arith, nat_tests, long, low), grind (arith, nat_tests, long, high))
    by_test false fits found = cc

few_by : (o : Option (List Tree)) (features : List (List Polygon)) → option_and_then each_feature o ≡ Some features → (1 ≤ length features) × (length features ≤ 64)
few_by (Some ts) features e = few_listed ts features e
few_by None features e = cc

few : (es : List Entry) (features : List (List Polygon)) → features_of es ≡ Some features → (1 ≤ length features) × (length features ≤ 64)
unfolding features_of
few es features e = few_by (features_list es) features e

-- a district that isn't refused
pub record IsDistrict (polygons district : List Polygon) : Type 0 where
  pub same : polygons ≡ district
  pub sound : first_fault district ≡ None

district_by : (polygons district : List Polygon) (fault : Option RegionFault) → first_fault polygons ≡ fault → unless_refused polygons fault ≡ Ok district → IsDistrict polygons district
district_by polygons district None is e =
    let same : polygons ≡ district = cc in
    record { same = same; sound = subst (λ p. first_fault p ≡ None) same is }
district_by polygons district (Some fault) is e = absurd cc

pub is_district : (polygons district : List Polygon) → district_of polygons ≡ Ok district → IsDistrict polygons district
is_district polygons district e = district_by polygons district (first_fault polygons) refl e

parts_by : (features parts : List (List Polygon)) (fault : Option RegionFault) → parts_fault features ≡ fault → unless_one_refused features fault ≡ Ok parts → (features ≡ parts) × (parts_fault parts ≡ None)
parts_by features parts None is e = (let same : features ≡ parts = cc in (same, subst (λ p. parts_fault p ≡ None) same is))
parts_by features parts (Some fault) is e = absurd cc

pub are_parts : (es : List Entry) (features parts : List (List Polygon)) (whole : List Polygon) → features_of es ≡ Some features → parts_of features ≡ Ok parts → district_of (polygons_of features) ≡ Ok whole → AreParts whole parts
are_parts es features parts whole found each all =
    let range = few es features found in
    let same = parts_by features parts (parts_fault features) refl each in
    let is = is_district (polygons_of features) whole all in
    record {
      some = subst (λ p. 1 ≤ length p) same.0 range.0;
      few = subst (λ p. length p ≤ 64) same.0 range.1;
      sound = same.1;
      together = subst (λ p. whole ≡ polygons_of p) same.0 (sym is.same);
    }

-- Copies.

-- what is seen of each copy is what is seen of what it was made of
copies_seen : {A B : Type 0} (IsCopy : A → A → Type 0) (view : A → B) → ((x y : A) → IsCopy x y → view y ≡ view x) → (xs ys : List A) → AllZip IsCopy xs ys → map view ys ≡ map view xs
copies_seen IsCopy view same [] [] h = refl
copies_seen IsCopy view same [] (y ∷ ys) h = absurd h
copies_seen IsCopy view same (x ∷ xs) [] h = absurd h
copies_seen IsCopy view same (x ∷ xs) (y ∷ ys) h = rw (same x y h.0, copies_seen IsCopy view same xs ys h.1) refl

abbrev pub IsPairCopy : ℤ × ℤ → ℤ × ℤ → Type 0
IsPairCopy x y = (y.0 ≡ x.0) × (y.1 ≡ x.1)

abbrev pub IsCopyBy : {A Z : Type 0} → (A → A → Type 0) → Vec A Z → Vec A Z → Type 0
IsCopyBy IsCopy v w = AllZip IsCopy v.items w.items × (vec_len w ≡ vec_len v)

pair_copied : (x y : ℤ × ℤ) → IsPairCopy x y → y ≡ x
pair_copied (a, b) (c, d) h = rw (h.0, h.1) refl

pairs_copied : (xs ys : List (ℤ × ℤ)) → AllZip IsPairCopy xs ys → ys ≡ xs
pairs_copied [] [] h = refl
pairs_copied [] (y ∷ ys) h = absurd h
pairs_copied (x ∷ xs) [] h = absurd h
pairs_copied (x ∷ xs) (y ∷ ys) h = rw (pair_copied x y h.0, pairs_copied xs ys h.1) refl

module _ {Z : Type 0} where
  ring_copied : (v w : Vec (ℤ × ℤ) Z) → IsCopyBy IsPairCopy v w → w.items ≡ v.items
  ring_copied v w h = pairs_copied v.items w.items h.0

  rings_copied : (v w : Vec (Vec (ℤ × ℤ) Z) Z) → IsCopyBy (IsCopyBy IsPairCopy) v w → rings_in w.items ≡ rings_in v.items
  rings_copied v w h = copies_seen (IsCopyBy IsPairCopy) (λ ring. ring.items) ring_copied v.items w.items h.0

  polygons_copied : (xs ys : List (Vec (Vec (ℤ × ℤ) Z) Z)) → AllZip (IsCopyBy (IsCopyBy IsPairCopy)) xs ys → polygons_in ys ≡ polygons_in xs
  polygons_copied xs ys h = copies_seen (IsCopyBy (IsCopyBy IsPairCopy)) (λ rings. rings_in rings.items) rings_copied xs ys h

  -- the polygons of Features, one Feature after another
  all_seen : (features : List (Vec (Vec (Vec (ℤ × ℤ) Z) Z) Z)) → polygons_in (flat_map vec_items features) ≡ polygons_of (features_in features)
  all_seen [] = refl
  all_seen (polygons ∷ features) =
      map-append (λ rings. rings_in rings.items) polygons.items (flat_map vec_items features)
      ∙ ap (λ more. polygons_in polygons.items ++ more) (all_seen features)

  pub all_copied : (features : List (Vec (Vec (Vec (ℤ × ℤ) Z) Z) Z)) (polygons : List (Vec (Vec (ℤ × ℤ) Z) Z)) → AllZip (IsCopyBy (IsCopyBy IsPairCopy)) (flat_map vec_items features) polygons → polygons_in polygons ≡ polygons_of (features_in features)
  all_copied features polygons h = polygons_copied (flat_map vec_items features) polygons h ∙ all_seen features

-- Districts made one after another.

fault_is : (polygons : List Polygon) (fault : Option RegionFault) (e : OrderFault) → unless_refused polygons fault ≡ Err e → (f : RegionFault) × (fault ≡ Some f) × (e ≡ Region f)
fault_is polygons (Some f) e h = (f, refl, cc)
fault_is polygons None e h = absurd cc

-- the districts so far, with the Features that are left, are all, and none so far was refused
pub record AreSoFar (parts rest all : List (List Polygon)) : Type 0 where
  pub together : parts ++ rest ≡ all
  pub sound : parts_fault rest ≡ parts_fault all

module _ (parts rest all : List (List Polygon)) (so_far : AreSoFar parts rest all) where
  pub one_refused : (polygons : List Polygon) (more : List (List Polygon)) (e : OrderFault) → rest ≡ polygons ∷ more → (e ≡ NoMemory) ⊎ (district_of polygons ≡ Err e) → (e ≡ NoMemory) ⊎ (parts_of all ≡ Err e)
  one_refused polygons more e is (inl none) = inl none
  one_refused polygons more e is (inr refused) =
      let f = fault_is polygons (first_fault polygons) e refused in
      let first : parts_fault rest ≡ Some f.0 = ap parts_fault is ∙ ap (λ o. option_or o (parts_fault more)) f.1 in
      inr (ap (unless_one_refused all) (sym so_far.sound ∙ first) ∙ ap Err (sym f.2))

  pub one_made : (polygons district : List Polygon) (more after : List (List Polygon)) → rest ≡ polygons ∷ more → district_of polygons ≡ Ok district → after ≡ parts ++ district ∷ [] → AreSoFar after more all
  one_made polygons district more after is made pushed =
      let made_of = is_district polygons district made in
      let sound : first_fault polygons ≡ None = subst (λ p. first_fault p ≡ None) (sym made_of.same) made_of.sound in
      record {
        together = rw (pushed, append_assoc, sym made_of.same) (ap (λ x. parts ++ x) (sym is) ∙ so_far.together);
        sound = sym (ap parts_fault is ∙ ap (λ o. option_or o (parts_fault more)) sound) ∙ so_far.sound;
      }

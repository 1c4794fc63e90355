-- Lists of positions, of rings and of polygons, read one item after another.
use Rattle.std.proofs.Common.{◌≡◌, ℕ, zero, suc, ◌+◌, ◌≤◌, List, [], ◌∷◌, ◌++◌, length, drop, Option, Some, None, refl, sym, ◌∙◌, add-one, arith}
use Rattle.std.specs.List.{slice_get}
use Rattle.geo_json.specs.Geometry.{Refuses}
use Rattle.geo_json.specs.declared.positions.GeometryFault.{GeometryFault}
use Rattle.geo_json.specs.declared.positions.GeometryFault.TheVariants.{NotGeometry, NoMemory}
use Rattle.ring_survey.specs.Each.{each_of}
use Rattle.ring_survey.proofs.EachLemmas.{with_front, each_more, each_none, each_end}

-- the items from a place on
pub drop_at : {A : Type 0} → (xs : List A) (i : ℕ) (x : A) → slice_get xs i ≡ Some x → drop i xs ≡ x ∷ drop (i + 1) xs
drop_at [] i x = λ h. cc
drop_at (z ∷ xs) zero x = λ h. let e : z ≡ x = cc in rw e refl
drop_at (z ∷ xs) (suc i) x = λ h. drop_at xs i x h ∙ rw (add-one, add-one) refl

pub drop_past : {A : Type 0} → (xs : List A) (i : ℕ) → length xs ≤ i → drop i xs ≡ []
drop_past [] zero h = refl
drop_past [] (suc i) h = refl
drop_past (z ∷ xs) zero h = absurd (omega arith)
drop_past (z ∷ xs) (suc i) h = drop_past xs i (omega arith)

-- what was read of the items before a place, with what is read of those from there on
module _ {A B : Type 0} (read : A → Option B) (front : List B) (xs : List A) (i : ℕ) (all : Option (List B)) (so_far : with_front front (each_of read (drop i xs)) ≡ all) where
  pub one_more : (x : A) (y : B) → slice_get xs i ≡ Some x → read x ≡ Some y → with_front (front ++ y ∷ []) (each_of read (drop (i + 1) xs)) ≡ all
  one_more x y here e = sym (each_more read x y front (drop i xs) (drop (i + 1) xs) (drop_at xs i x here) e) ∙ so_far

  pub none_here : (x : A) → slice_get xs i ≡ Some x → read x ≡ None → all ≡ None
  none_here x here e = sym so_far ∙ each_none read x front (drop i xs) (drop (i + 1) xs) (drop_at xs i x here) e

  pub refused_here : (x : A) (fault : GeometryFault) → slice_get xs i ≡ Some x → Refuses fault (read x) → Refuses fault all
  refused_here x NotGeometry here e = none_here x here e
  refused_here x NoMemory here e = tt

  pub no_more : length xs ≤ i → all ≡ Some front
  no_more past = sym so_far ∙ each_end read front (drop i xs) (drop_past xs i past)

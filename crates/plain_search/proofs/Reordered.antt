-- Parts of a tree, taken in another order.
use Rattle.std.proofs.Common.{◌≡◌, ℕ, ◌≤◌, Bool, List, [], ◌∷◌, ◌++◌, filter, sum_by, All, Contains, sym, refl, ap, ◌∙◌, arith}
use Rattle.std.specs.List.{flat_map}
use Rattle.std.specs.List.Sorted.{IsPermutation}
use Rattle.std.proofs.lemmas.List.Elements.{All-contains, All-from_recursion, All-weaker, Contains-append_left, Contains-append_right, filter-append, recursion_from_All}
use Rattle.std.proofs.lemmas.List.Sorted.{All-permutation, IsPermutation-sym, sum_by-IsPermutation}
use Rattle.std.proofs.lemmas.List.Sums.{sum_by-append, sum_by-cons}
use Rattle.cell_split.specs.declared.verdict.Leaf.{Leaf}
use Rattle.cell_split.specs.Entries.{greatest_ordinal}
use Rattle.cell_split.proofs.Every.{Every, Every-contained, Every-flat_map, Every-weaker}
use Rattle.plain_search.proofs.Greatest.{greatest-append}

module _ {X : Type 0} (part : X → List Leaf) where
  -- a bound of all is one of each part
  each_within : (test : Leaf → Bool) (n : ℕ) (xs : List X) → greatest_ordinal test (flat_map part xs) ≤ n → Every (λ x. greatest_ordinal test (part x) ≤ n) xs
  each_within test n [] h = tt
  each_within test n (x ∷ xs) h =
      let both = greatest-append test (part x) (flat_map part xs) in
      (omega (arith, both, h), each_within test n xs (omega (arith, both, h)))

  all_within : (test : Leaf → Bool) (n : ℕ) (xs : List X) → Every (λ x. greatest_ordinal test (part x) ≤ n) xs → greatest_ordinal test (flat_map part xs) ≤ n
  all_within test n [] h = omega arith
  all_within test n (x ∷ xs) h =
      let both = greatest-append test (part x) (flat_map part xs) in
      let rest = all_within test n xs h.1 in
      omega (arith, both, rest, h.0)

  at_most : (test : Leaf → Bool) (xs ys : List X) → IsPermutation xs ys → greatest_ordinal test (flat_map part ys) ≤ greatest_ordinal test (flat_map part xs)
  at_most test xs ys same =
      let n = greatest_ordinal test (flat_map part xs) in
      let P : X → Type 0 = λ x. greatest_ordinal test (part x) ≤ n in
      all_within test n ys (recursion_from_All P ys (All-permutation P xs ys same (All-from_recursion P xs (each_within test n xs (omega arith)))))

  -- they have the same greatest ordinal
  pub greatest_reordered : (test : Leaf → Bool) (xs ys : List X) → IsPermutation xs ys → greatest_ordinal test (flat_map part xs) ≡ greatest_ordinal test (flat_map part ys)
  greatest_reordered test xs ys same =
      let there = at_most test xs ys same in
      let back = at_most test ys xs (IsPermutation-sym xs ys same) in
      omega (arith, there, back)

  -- all weigh what the parts weigh
  weight_of : (weight : Leaf → ℕ) (test : Leaf → Bool) (xs : List X) → sum_by weight (filter test (flat_map part xs)) ≡ sum_by (λ x. sum_by weight (filter test (part x))) xs
  weight_of weight test [] = refl
  weight_of weight test (x ∷ xs) =
      let both = ap (sum_by weight) (filter-append test (part x) (flat_map part xs)) ∙ sum_by-append weight (filter test (part x)) (filter test (flat_map part xs)) in
      let rest = weight_of weight test xs in
      let all = sum_by-cons (λ x. sum_by weight (filter test (part x))) x xs in
      omega (arith, both, rest, all)

  -- they weigh the same
  pub weight_reordered : (weight : Leaf → ℕ) (test : Leaf → Bool) (xs ys : List X) → IsPermutation xs ys → sum_by weight (filter test (flat_map part xs)) ≡ sum_by weight (filter test (flat_map part ys))
  weight_reordered weight test xs ys same =
      weight_of weight test xs
      ∙ (sym (sum_by-IsPermutation (λ x. sum_by weight (filter test (part x))) xs ys same) ∙ sym (weight_of weight test ys))

  -- each part is among all
  each_part : (xs : List X) → Every (λ x. Every (Contains (flat_map part xs)) (part x)) xs
  each_part [] = tt
  each_part (x ∷ xs) =
      let here = part x in
      let rest = flat_map part xs in (
        Every-weaker (Contains here) (Contains (here ++ rest)) here (λ l. Contains-append_left here rest l) (Every-contained here),
        Every-weaker (λ y. Every (Contains rest) (part y)) (λ y. Every (Contains (here ++ rest)) (part y)) xs
            (λ y. Every-weaker (Contains rest) (Contains (here ++ rest)) (part y) (λ l. Contains-append_right here rest l)) (each_part xs),
      )

  -- and they have the same leaves
  pub contained_reordered : (xs ys : List X) (kept : List Leaf) → IsPermutation xs ys → All (Contains (flat_map part xs)) kept → All (Contains (flat_map part ys)) kept
  contained_reordered xs ys kept same among =
      let all = flat_map part ys in
      let P : X → Type 0 = λ x. Every (Contains all) (part x) in
      let each = recursion_from_All P xs (All-permutation P ys xs (IsPermutation-sym xs ys same) (All-from_recursion P ys (each_part ys))) in
      let leaves = All-from_recursion (Contains all) (flat_map part xs) (Every-flat_map (Contains all) part xs each) in
      All-weaker (Contains (flat_map part xs)) (Contains all) (λ l has. All-contains (Contains all) (flat_map part xs) l leaves has) kept among

-- Totals over the views of a deque's passes.
use Rattle.std.proofs.Common.{◌≡◌, ℕ, zero, suc, ◌+◌, ◌≤◌, List, [], ◌∷◌, sum_by, set, sym, refl, ap, ◌∙◌, subst, ⊎_elim, arith}
use Rattle.std.proofs.lemmas.List.Sums.{sum_by-cons}
use mathlib.Core.Option.{some, some-injective, some-ne-none}
use lib.ListN.{get_elem?}
use Rattle.crossbeam_deque.proofs.Lists.{at_set}
use Rattle.task_deque.specs.declared.rule.Log.{Log}

-- the total once one view has changed
pub total_set : (f : Log → ℕ) (views : List Log) (port : ℕ) (v w : Log) → get_elem? views port ≡ some v → sum_by f (set views port w) + f v ≡ sum_by f views + f w
total_set f [] port v w at = absurd (some-ne-none v (sym at))
total_set f (x ∷ xs) zero v w at =
    let same : f x ≡ f v = ap f (some-injective x v at) in
    omega (arith, same, sum_by-cons f x xs, sum_by-cons f w xs)
total_set f (x ∷ xs) (suc port) v w at =
    let rest = total_set f xs port v w at in
    omega (arith, rest, sum_by-cons f x xs, sum_by-cons f x (set xs port w))

-- a view is part of the total
pub part_of : (f : Log → ℕ) (views : List Log) (port : ℕ) (v : Log) → get_elem? views port ≡ some v → f v ≤ sum_by f views
part_of f [] port v at = absurd (some-ne-none v (sym at))
part_of f (x ∷ xs) zero v at =
    let same : f x ≡ f v = ap f (some-injective x v at) in
    omega (arith, same, sum_by-cons f x xs)
part_of f (x ∷ xs) (suc port) v at =
    let rest = part_of f xs port v at in
    omega (arith, rest, sum_by-cons f x xs)

-- a pass with no part has pushed and taken nothing
abbrev pub AreIdle : List Log → Type 0
AreIdle views = (port : ℕ) (v : Log) → get_elem? views port ≡ some v → v.parts ≡ 0 → (v.pushed ≡ []) × (v.taken ≡ [])

-- what is nothing for a pass that has pushed and taken nothing
abbrev pub IsOfLists : (Log → ℕ) → Type 0
IsOfLists f = (v : Log) → (v.pushed ≡ []) × (v.taken ≡ []) → f v ≡ 0

-- where nobody has a part, the total is nothing
nobody : (f : Log → ℕ) (views : List Log) → IsOfLists f → AreIdle views → sum_by (λ v. v.parts) views ≡ 0 → sum_by f views ≡ 0
nobody f [] of idle none = refl
nobody f (x ∷ xs) of idle none =
    let parts = sum_by-cons (λ (v : Log). v.parts) x xs in
    let here : x.parts ≡ 0 = omega (arith, none, parts) in
    let first = of x (idle 0 x refl here) in
    let rest = nobody f xs of (λ p u at. idle (suc p) u at) (omega (arith, none, parts)) in
    omega (arith, first, rest, sum_by-cons f x xs)

-- where one pass has all parts, the total is its own
pub alone : (f : Log → ℕ) (views : List Log) (port : ℕ) (v : Log) → IsOfLists f → AreIdle views → get_elem? views port ≡ some v → sum_by (λ v. v.parts) views ≡ v.parts → sum_by f views ≡ f v
alone f [] port v of idle at all = absurd (some-ne-none v (sym at))
alone f (x ∷ xs) zero v of idle at all =
    let parts = sum_by-cons (λ (v : Log). v.parts) x xs in
    let same = some-injective x v at in
    let own : x.parts ≡ v.parts = ap (λ (u : Log). u.parts) same in
    let rest = nobody f xs of (λ p u h. idle (suc p) u h) (omega (arith, all, parts, own)) in
    let this : f x ≡ f v = ap f same in
    omega (arith, rest, this, sum_by-cons f x xs)
alone f (x ∷ xs) (suc port) v of idle at all =
    let parts = sum_by-cons (λ (v : Log). v.parts) x xs in
    let most = part_of (λ (u : Log). u.parts) xs port v at in
    let here : x.parts ≡ 0 = omega (arith, all, parts, most) in
    let first = of x (idle 0 x refl here) in
    let rest = alone f xs port v of (λ p u h. idle (suc p) u h) at (omega (arith, all, parts, here)) in
    omega (arith, first, rest, sum_by-cons f x xs)

-- the others stay idle where one view changes
pub idle_set : (views : List Log) (port : ℕ) (w : Log) → (w.parts ≡ 0 → (w.pushed ≡ []) × (w.taken ≡ [])) → AreIdle views → AreIdle (set views port w)
idle_set views port w own idle j u at none =
    ⊎_elim (λ t. subst (λ (x : Log). (x.pushed ≡ []) × (x.taken ≡ [])) t.1 (own (ap (λ (x : Log). x.parts) t.1 ∙ none)))
    (λ t. idle j u t.1 none) (at_set views port j w u at)

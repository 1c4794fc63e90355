-- Texts of many items, written one after another.
use Rattle.std.proofs.Common.{◌≡◌, ℕ, zero, suc, ◌+◌, ◌<◌, ◌≤◌, List, [], ◌∷◌, ◌++◌, length, map, take, drop, get_or, Option, Err, refl, sym, ap, ◌∙◌, append-nil, arith}
use Rattle.std.specs.List.{flat_map, sum_by}
use Rattle.std.proofs.lemmas.List.{drop_more, take_more, take-append-drop}
use Rattle.std.proofs.lemmas.List.Concat.{flat_map-append}
use Rattle.std.proofs.lemmas.List.Sums.{sum_by-append, sum_by-cons, sum_by_push}
use Rattle.source_sink.specs.Outside.{Adds}
use Rattle.source_sink.proofs.Transfers.{adds_more}
use Rattle.outcome.specs.Writing.{Writes}
use Rattle.outcome.specs.declared.stop.Stop.{Stop}
use Rattle.outcome.proofs.Streams.{stopped}

none_taken : {X : Type 0} (n : ℕ) → take {A = X} n [] ≡ []
none_taken zero = refl
none_taken (suc n) = refl

-- items from one on, behind those before it
take_parts : {X : Type 0} (at n : ℕ) (xs : List X) → take (at + n) xs ≡ take at xs ++ take n (drop at xs)
take_parts zero n xs = let same : 0 + n ≡ n = omega arith in ap (λ (m : ℕ). take m xs) same
take_parts (suc at) n [] = none_taken (suc at + n) ∙ sym (none_taken n)
take_parts (suc at) n (x ∷ xs) =
    let more : suc at + n ≡ suc (at + n) = omega arith in
    ap (λ (m : ℕ). take m (x ∷ xs)) more ∙ ap (λ ys. x ∷ ys) (take_parts at n xs)

module _ {X : Type 0} (f : X → List ℕ) (xs : List X) where
  -- the items before one, that one, and those behind it
  pub whole_at : (i : ℕ) (x : X) → i < length xs → get_or xs i x ≡ x →
      flat_map f xs ≡ flat_map f (take i xs) ++ (f x ++ flat_map f (drop (i + 1) xs))
  whole_at i x inside is =
      ap (flat_map f) (sym (take-append-drop i xs) ∙ ap (λ ys. take i xs ++ ys) (drop_more xs i x inside ∙ ap (λ y. y ∷ drop (i + 1) xs) is))
      ∙ flat_map-append f (take i xs) (x ∷ drop (i + 1) xs)

  -- the text of one item more
  pub text_more : (i : ℕ) (x : X) → i < length xs → get_or xs i x ≡ x →
      flat_map f (take (i + 1) xs) ≡ flat_map f (take i xs) ++ f x
  text_more i x inside is =
      ap (flat_map f) (take_more xs i x inside ∙ ap (λ y. take i xs ++ y ∷ []) is) ∙ flat_map-append f (take i xs) (x ∷ [])
      ∙ ap (λ t. flat_map f (take i xs) ++ t) (append-nil (f x))

  -- one item more was written
  pub item_written : (i : ℕ) (x : X) (old mid new : Option (List ℕ)) → i < length xs → get_or xs i x ≡ x →
      Adds old mid (flat_map f (take i xs)) → Adds mid new (f x) → Adds old new (flat_map f (take (i + 1) xs))
  item_written i x old mid new inside is before here =
      adds_more old mid new (flat_map f (take i xs)) (f x) (flat_map f (take (i + 1) xs)) before here (text_more i x inside is)

  -- one item was not written whole
  pub item_stopped : {Y Z : Type 0} (i : ℕ) (x : X) (text : List ℕ) (e : Stop) (out out1 out2 : ℕ) (old mid new : Option (List ℕ)) →
      text ≡ flat_map f xs → i < length xs → get_or xs i x ≡ x → Adds old mid (flat_map f (take i xs)) → out ≤ out1 →
      Writes {X = Y} (f x) (Err e) out1 out2 mid new → Writes {X = Z} text (Err e) out out2 old new
  item_stopped {Y = Y} {Z = Z} i x text e out out1 out2 old mid new is_text inside is before later here =
      stopped {X = Y} {Y = Z} (flat_map f (take i xs)) (f x) (flat_map f (drop (i + 1) xs)) text e out out1 out2 old mid new
      (is_text ∙ whole_at i x inside is) before later here

  -- so many items from one on are some of them
  parts_at : (at n : ℕ) → flat_map f xs ≡ flat_map f (take at xs) ++ (flat_map f (take n (drop at xs)) ++ flat_map f (drop n (drop at xs)))
  parts_at at n =
      ap (flat_map f) (sym (take-append-drop at xs) ∙ ap (λ ys. take at xs ++ ys) (sym (take-append-drop n (drop at xs))))
      ∙ flat_map-append f (take at xs) (take n (drop at xs) ++ drop n (drop at xs))
      ∙ ap (λ t. flat_map f (take at xs) ++ t) (flat_map-append f (take n (drop at xs)) (drop n (drop at xs)))

  -- they were written
  pub part_written : (at n : ℕ) (old mid new : Option (List ℕ)) → Adds old mid (flat_map f (take at xs)) →
      Adds mid new (flat_map f (take n (drop at xs))) → Adds old new (flat_map f (take (at + n) xs))
  part_written at n old mid new before here =
      adds_more old mid new (flat_map f (take at xs)) (flat_map f (take n (drop at xs))) (flat_map f (take (at + n) xs)) before here
      (ap (flat_map f) (take_parts at n xs) ∙ flat_map-append f (take at xs) (take n (drop at xs)))

  -- they were not written whole
  pub part_stopped : {Y Z : Type 0} (at n : ℕ) (e : Stop) (out out1 out2 : ℕ) (old mid new : Option (List ℕ)) →
      Adds old mid (flat_map f (take at xs)) → out ≤ out1 →
      Writes {X = Y} (flat_map f (take n (drop at xs))) (Err e) out1 out2 mid new → Writes {X = Z} (flat_map f xs) (Err e) out out2 old new
  part_stopped {Y = Y} {Z = Z} at n e out out1 out2 old mid new before later here =
      stopped {X = Y} {Y = Z} (flat_map f (take at xs)) (flat_map f (take n (drop at xs))) (flat_map f (drop n (drop at xs))) (flat_map f xs) e
      out out1 out2 old mid new (parts_at at n) before later here

module _ {X : Type 0} (f : X → ℕ) (xs : List X) where
  -- one item more is counted
  pub sum_more : (i : ℕ) (x : X) → i < length xs → get_or xs i x ≡ x → sum_by f (take (i + 1) xs) ≡ sum_by f (take i xs) + f x
  sum_more i x inside is =
      ap (sum_by f) (take_more xs i x inside ∙ ap (λ y. take i xs ++ y ∷ []) is) ∙ sum_by_push f (take i xs) x

  pub sum_parts : (at n : ℕ) → sum_by f (take (at + n) xs) ≡ sum_by f (take at xs) + sum_by f (take n (drop at xs))
  sum_parts at n = ap (sum_by f) (take_parts at n xs) ∙ sum_by-append f (take at xs) (take n (drop at xs))

-- counts of what is made of the items
pub sum_map : {X Y : Type 0} (f : Y → ℕ) (g : X → Y) (xs : List X) → sum_by f (map g xs) ≡ sum_by (λ x. f (g x)) xs
sum_map f g [] = refl
sum_map f g (x ∷ xs) =
    sum_by-cons f (g x) (map g xs) ∙ ap (λ (n : ℕ). f (g x) + n) (sum_map f g xs) ∙ sym (sum_by-cons (λ y. f (g y)) x xs)

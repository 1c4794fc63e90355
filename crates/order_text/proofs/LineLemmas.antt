-- The canonical line, piece after piece.
use Rattle.std.proofs.Common.{◌≡◌, ℕ, zero, suc, ◌+◌, ◌<◌, ◌≤◌, ℤ, Bool, true, false, List, [], ◌∷◌, ◌++◌, length, drop, get_or, Some, refl, ap, sym, ◌∙◌, codes, add-one, append_assoc, append-nil}
use Rattle.std.proofs.lemmas.List.Folds.{list_all_at}
use Rattle.std.specs.List.{list_all, slice_get}
use Rattle.geo_json.proofs.GeometryLemmas.{drop_at, drop_past}
use Rattle.order_text.specs.Line.{comma_before, items_text, more_text, range_text}
use Rattle.year_table.specs.Dates.{date_text}

-- one piece after another
pub and_then : (line m n x y : List ℕ) → m ≡ line ++ x → n ≡ m ++ y → n ≡ line ++ (x ++ y)
and_then line m n x y e f = f ∙ (ap (λ z. z ++ y) e ∙ append_assoc line x y)

module _ {A : Type 0} (text : A → List ℕ) where
  -- the items from the i-th on, with the comma before each but the first
  abbrev pub rest_text : ℕ → List A → List ℕ
  rest_text zero xs = items_text text xs
  rest_text (suc i) xs = more_text text xs

  rest_next : (i : ℕ) (x : A) (xs : List A) → rest_text i (x ∷ xs) ≡ comma_before i ++ (text x ++ more_text text xs)
  unfolding more_text
  rest_next zero x xs = refl
  rest_next (suc i) x xs = refl

  rest_nil : (i : ℕ) → rest_text i [] ≡ []
  unfolding more_text
  rest_nil zero = refl
  rest_nil (suc i) = refl

  -- one item more is written
  pub next_item : (xs : List A) (i : ℕ) (x : A) (line m n whole : List ℕ) → slice_get xs i ≡ Some x → m ≡ line ++ comma_before i → n ≡ m ++ text x → line ++ rest_text i (drop i xs) ≡ whole → n ++ rest_text (i + 1) (drop (i + 1) xs) ≡ whole
  next_item xs i x line m n whole here e f so_far =
      let item = and_then line m n (comma_before i) (text x) e f in
      let rest : rest_text i (drop i xs) ≡ comma_before i ++ (text x ++ more_text text (drop (i + 1) xs)) = ap (rest_text i) (drop_at xs i x here) ∙ rest_next i x (drop (i + 1) xs) in
      let after : rest_text (i + 1) (drop (i + 1) xs) ≡ more_text text (drop (i + 1) xs) = ap (λ k. rest_text k (drop (i + 1) xs)) (add-one i) in
      rw (item, after) (simp append_assoc (ap (λ z. line ++ z) (sym rest) ∙ so_far))

  -- none is left
  pub last_item : (xs : List A) (i : ℕ) (line whole : List ℕ) → length xs ≤ i → line ++ rest_text i (drop i xs) ≡ whole → line ≡ whole
  last_item xs i line whole past so_far =
      sym (append-nil line) ∙ (ap (λ z. line ++ z) (sym (ap (rest_text i) (drop_past xs i past) ∙ rest_nil i)) ∙ so_far)

pub range_pushed : (range : ℤ × ℤ) (l a b c d e : List ℕ) → a ≡ l ++ codes "[\"" → b ≡ a ++ date_text range.0 → c ≡ b ++ codes "\",\"" → d ≡ c ++ date_text range.1 → e ≡ d ++ codes "\"]" → e ≡ l ++ range_text range
range_pushed range l a b c d e first from mid to last =
    let two = and_then l a b (codes "[\"") (date_text range.0) first from in
    let three = and_then l b c (codes "[\"" ++ date_text range.0) (codes "\",\"") two mid in
    let four = and_then l c d (codes "[\"" ++ date_text range.0 ++ codes "\",\"") (date_text range.1) three to in
    and_then l d e (codes "[\"" ++ date_text range.0 ++ codes "\",\"" ++ date_text range.1) (codes "\"]") four last

-- a test that holds of each holds of the one at a place
true_unless : (b c : Bool) → (b ≡ false → c ≡ false) → c ≡ true → b ≡ true
true_unless true c f e = refl
true_unless false c f e = let g = f refl in cc

pub each_true : {A : Type 0} (p : A → Bool) (xs : List A) (i : ℕ) (d : A) → i < length xs → list_all p xs ≡ true → p (get_or xs i d) ≡ true
each_true p xs i d h e = true_unless (p (get_or xs i d)) (list_all p xs) (list_all_at p xs i d h) e

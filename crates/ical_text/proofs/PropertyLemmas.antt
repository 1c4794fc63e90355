-- Places in a line.
use Rattle.std.proofs.Common.{◌≡◌, ◌∙◌, ℕ, suc, ◌+◌, ◌<◌, Bool, true, false, cond, not, ◌&&◌, ◌==◌, List, ◌∷◌, length, get_or, drop, Option, Some, None, option_map, refl, ap, add-one, drop-cons, arith}
use Rattle.ical_text.specs.Properties.{colon_in, is_name_byte, name_length}

-- a place further on
abbrev pub further : ℕ → Option ℕ → Option ℕ
further i o = option_map (λ k. i + k) o

further_suc : (i : ℕ) (o : Option ℕ) → further i (option_map suc o) ≡ further (i + 1) o
further_suc i None = refl
further_suc i (Some k) = ap (λ n. Some n) (omega arith)

pub further_none : (o : Option ℕ) → further 0 o ≡ o
further_none None = refl
further_none (Some k) = ap (λ n. Some n) (omega arith)

next_byte : (xs : List ℕ) (i b : ℕ) → i < length xs → b ≡ get_or xs i 0 → drop i xs ≡ b ∷ drop (i + 1) xs
next_byte xs i b within h = ap (λ ys. ys) (rw (h, add-one) (drop-cons xs i 0 within))

-- the colon is not before the next byte
pub colon_more : (line : List ℕ) (i b : ℕ) (quoted : Bool) → i < length line → b ≡ get_or line i 0 → (b == 58) && not quoted ≡ false → further i (colon_in quoted (drop i line)) ≡ further (i + 1) (colon_in (cond (b == 34) (not quoted) quoted) (drop (i + 1) line))
unfolding colon_in
colon_more line i b quoted within h other =
    ap (λ xs. further i (colon_in quoted xs)) (next_byte line i b within h)
    ∙ (ap (λ t. further i (cond t (Some 0) (option_map suc (colon_in (cond (b == 34) (not quoted) quoted) (drop (i + 1) line))))) other
    ∙ further_suc i (colon_in (cond (b == 34) (not quoted) quoted) (drop (i + 1) line)))

pub colon_here : (line : List ℕ) (i b : ℕ) (quoted : Bool) → i < length line → b ≡ get_or line i 0 → (b == 58) && not quoted ≡ true → further i (colon_in quoted (drop i line)) ≡ Some i
unfolding colon_in
colon_here line i b quoted within h here =
    ap (λ xs. further i (colon_in quoted xs)) (next_byte line i b within h)
    ∙ (ap (λ t. further i (cond t (Some 0) (option_map suc (colon_in (cond (b == 34) (not quoted) quoted) (drop (i + 1) line))))) here
    ∙ ap (λ n. Some n) (omega arith))

pub name_more : (head : List ℕ) (i b : ℕ) → i < length head → b ≡ get_or head i 0 → is_name_byte b ≡ true → i + name_length (drop i head) ≡ i + 1 + name_length (drop (i + 1) head)
name_more head i b within h more =
    ap (λ xs. i + name_length xs) (next_byte head i b within h)
    ∙ (ap (λ t. i + cond t (suc (name_length (drop (i + 1) head))) 0) more ∙ omega arith)

pub name_here : (head : List ℕ) (i b : ℕ) → i < length head → b ≡ get_or head i 0 → is_name_byte b ≡ false → i + name_length (drop i head) ≡ i
name_here head i b within h here =
    ap (λ xs. i + name_length xs) (next_byte head i b within h)
    ∙ (ap (λ t. i + cond t (suc (name_length (drop (i + 1) head))) 0) here ∙ omega arith)

-- The text behind a covering's first line.
use Rattle.std.proofs.Common.{◌≡◌, ℕ, zero, suc, ◌+◌, ◌-◌, ◌≤◌, List, [], ◌∷◌, length, drop, refl, ap, ◌∙◌, arith}
use Rattle.command_input.specs.Lines.{behind_line, line_length}

shorter : (n : ℕ) (xs : List ℕ) → length (drop n xs) ≤ length xs
shorter zero xs = omega arith
shorter (suc n) [] = omega arith
shorter (suc n) (x ∷ xs) = let less = shorter n xs in omega (arith, less)

drop_again : (n : ℕ) (xs : List ℕ) → drop (length xs - length (drop n xs)) xs ≡ drop n xs
drop_again zero xs = let none : length xs - length xs ≡ 0 = omega arith in ap (λ (m : ℕ). drop m xs) none
drop_again (suc n) [] = refl
drop_again (suc n) (x ∷ xs) =
    let less = shorter n xs in
    let more : length (x ∷ xs) - length (drop n xs) ≡ suc (length xs - length (drop n xs)) = omega (arith, less) in
    ap (λ (m : ℕ). drop m (x ∷ xs)) more ∙ drop_again n xs

-- it is so many last bytes as it is long
pub lines_behind : (text behind : List ℕ) (count : ℕ) → behind ≡ behind_line text → count ≡ length behind →
    drop (length text - count) text ≡ behind_line text
lines_behind text behind count is is_count =
    ap (λ (m : ℕ). drop (length text - m) text) (is_count ∙ ap length is) ∙ drop_again (line_length text + 1) text

-- The text of an event.
use Rattle.std.proofs.Common.{◌≡◌, ◌∙◌, ℕ, List, [], ◌++◌, append_assoc, append-nil, ap}
use Rattle.ical_text.specs.Calendar.{lines_by}
use Rattle.ical_text.specs.Lines.{folded_lines}

-- seven lines behind each other
pub seven : (a b c d e f g p q r s t u v : List ℕ) → p ≡ [] ++ a → q ≡ p ++ b → r ≡ q ++ c → s ≡ r ++ d → t ≡ s ++ e → u ≡ t ++ f → v ≡ u ++ g → v ≡ a ++ (b ++ (c ++ (d ++ (e ++ (f ++ (g ++ []))))))
seven a b c d e f g p q r s t u v hp hq hr hs ht hu hv =
    let two : q ≡ a ++ b = hq ∙ ap (λ (x : List ℕ). x ++ b) hp in
    let three : r ≡ (a ++ b) ++ c = hr ∙ ap (λ (x : List ℕ). x ++ c) two in
    let four : s ≡ ((a ++ b) ++ c) ++ d = hs ∙ ap (λ (x : List ℕ). x ++ d) three in
    let five : t ≡ (((a ++ b) ++ c) ++ d) ++ e = ht ∙ ap (λ (x : List ℕ). x ++ e) four in
    let six : u ≡ ((((a ++ b) ++ c) ++ d) ++ e) ++ f = hu ∙ ap (λ (x : List ℕ). x ++ f) five in
    hv ∙ (ap (λ (x : List ℕ). x ++ g) six ∙ joined a b c d e f g)
  where
    joined : (a b c d e f g : List ℕ) → (((((a ++ b) ++ c) ++ d) ++ e) ++ f) ++ g ≡ a ++ (b ++ (c ++ (d ++ (e ++ (f ++ (g ++ []))))))
    joined a b c d e f g = simp (append_assoc, append-nil)

-- of equal parts
pub event_same : (a b c d e p q r s t : List ℕ) → a ≡ p → b ≡ q → c ≡ r → d ≡ s → e ≡ t → folded_lines (lines_by a b c d e) ≡ folded_lines (lines_by p q r s t)
event_same a b c d e p q r s t ha hb hc hd he =
    ap (λ x. folded_lines (lines_by x b c d e)) ha
    ∙ (ap (λ x. folded_lines (lines_by p x c d e)) hb
    ∙ (ap (λ x. folded_lines (lines_by p q x d e)) hc ∙ (ap (λ x. folded_lines (lines_by p q r x e)) hd ∙ ap (λ x. folded_lines (lines_by p q r s x)) he)))

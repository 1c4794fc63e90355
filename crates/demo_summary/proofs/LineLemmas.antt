-- The canonical line of a number's order, piece after piece.
use Rattle.std.proofs.Common.{◌≡◌, ◌∙◌, ap, sym, ℕ, List, [], ◌∷◌, ◌++◌, codes, append_assoc, append-nil}
use Rattle.order_text.specs.Line.{body_text, district_text, items_text, more_text, order_body, position_text, span_text, words_text}
use Rattle.order_text.proofs.LineLemmas.{and_then}
use Rattle.ring_survey.specs.Polygons.{Ring}
use Rattle.year_table.specs.declared.zone.Zone.TheVariants.{Fixed}
use Rattle.demo_summary.specs.Demo.{demo_asked, demo_asr, demo_from, demo_method, demo_offset, demo_ring}

abbrev bracketed : List ℕ → List ℕ
bracketed t = codes "[" ++ ((t ++ []) ++ codes "]")

bracketed_twice : (items : List ℕ) → bracketed (bracketed (codes "[" ++ (items ++ codes "]"))) ≡ (codes "[[[" ++ items) ++ codes "]]]"
bracketed_twice items = simp (append-nil, append_assoc)

one_ring : (ring : Ring) → district_text ((ring ∷ []) ∷ []) ≡ (codes "[[[" ++ items_text position_text ring) ++ codes "]]]"
unfolding more_text
one_ring ring = bracketed_twice (items_text position_text ring)

-- a district of one ring
pub district_pushed : (ring : Ring) (l a b c : List ℕ) → a ≡ l ++ codes "[[[" → b ≡ a ++ items_text position_text ring → c ≡ b ++ codes "]]]" → c ≡ l ++ district_text ((ring ∷ []) ∷ [])
district_pushed ring l a b c first middle last =
    let items = items_text position_text ring in
    and_then l b c (codes "[[[" ++ items) (codes "]]]") (and_then l a b (codes "[[[") items first middle) last ∙ ap (λ t. l ++ t) (sym (one_ring ring))

-- the pieces of a line of the first version
joined : (span words district : List ℕ) → (((([] ++ span) ++ words) ++ codes ",\"district\":") ++ district) ++ codes "}" ≡ body_text span words [] district
joined span words district = simp append_assoc

pub body_is : (number : ℕ) (a b c d e : List ℕ) → a ≡ [] ++ span_text 1 (demo_from number) 30 → b ≡ a ++ words_text (demo_method number) (demo_asr number) (Fixed (demo_offset number)) →
    c ≡ b ++ codes ",\"district\":" → d ≡ c ++ district_text ((demo_ring number ∷ []) ∷ []) → e ≡ d ++ codes "}" → e ≡ order_body (demo_asked number)
unfolding order_body demo_asked
body_is number a b c d e span words member district last =
    let s = span_text 1 (demo_from number) 30 in
    let w = words_text (demo_method number) (demo_asr number) (Fixed (demo_offset number)) in
    let t = district_text ((demo_ring number ∷ []) ∷ []) in
    last ∙ ap (λ (l : List ℕ). l ++ codes "}") (district ∙ ap (λ (l : List ℕ). l ++ t) (member ∙ ap (λ (l : List ℕ). l ++ codes ",\"district\":") (words ∙ ap (λ (l : List ℕ). l ++ w) span)))
    ∙ joined s w t

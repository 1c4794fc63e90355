-- One more entry of a day's line.
use Rattle.std.proofs.Common.{◌≡◌, ◌∙◌, ℕ, ◌+◌, ◌<◌, List, [], ◌∷◌, ◌++◌, length, get_or, take, ap, sym, arith}
use Rattle.std.specs.Prelude.{flat_map, zip}
use Rattle.std.proofs.lemmas.List.{flat_map_more, take_more}
use Rattle.std.proofs.lemmas.Slice.Zip.{get_or-zip, length-zip}
use Rattle.cell_split.specs.declared.verdict.Entry.{Entry}
use Rattle.method_table.specs.declared.problem.Problem.{Problem}
use Rattle.year_table.specs.Lines.{cell_text, head_text, order_text}

pub cells_more : (ps : List Problem) (es : List Entry) (i : ℕ) (p : Problem) (e : Entry) → i < length ps → i < length es → p ≡ get_or ps i p → (a : List ℕ) → (a ++ flat_map cell_text (take i (zip ps es))) ++ cell_text (p, get_or es i e) ≡ a ++ flat_map cell_text (take (i + 1) (zip ps es))
cells_more ps es i p e l k h a =
    let within : i < length (zip ps es) = omega (arith, length-zip ps es) in
    let pair : get_or (zip ps es) i (p, e) ≡ (p, get_or es i e) = get_or-zip ps es i (p, e) l k ∙ ap (λ q. (q, get_or es i e)) (sym h) in
    let more : take (i + 1) (zip ps es) ≡ take i (zip ps es) ++ (p, get_or es i e) ∷ [] =
    take_more (zip ps es) i (p, e) within ∙ ap (λ x. take i (zip ps es) ++ x ∷ []) pair in
    flat_map_more cell_text a (take i (zip ps es)) (p, get_or es i e) ∙ ap (λ xs. a ++ flat_map cell_text xs) (sym more)

-- the same, of texts that are equal to those
pub cells_step : (ps : List Problem) (es : List Entry) (i : ℕ) (p : Problem) (e : Entry) → i < length ps → i < length es → p ≡ get_or ps i p → (a l m : List ℕ) → l ≡ a ++ flat_map cell_text (take i (zip ps es)) → m ≡ l ++ cell_text (p, get_or es i e) → m ≡ a ++ flat_map cell_text (take (i + 1) (zip ps es))
cells_step ps es i p e l k h a so_far next f g =
    g ∙ (ap (λ (line : List ℕ). line ++ cell_text (p, get_or es i e)) f ∙ cells_more ps es i p e l k h a)

-- the head of equal parts
pub head_same : (o p h i s t : List ℕ) → o ≡ p → h ≡ i → s ≡ t → head_text o h s ≡ head_text p i t
head_same o p h i s t e f g =
    ap (λ x. head_text x h s) e ∙ (ap (λ x. head_text p x s) f ∙ ap (λ x. head_text p i x) g)

pub order_same : (a b u v : List ℕ) (positions : ℕ) → a ≡ b → u ≡ v → order_text a u positions ≡ order_text b v positions
order_same a b u v positions e f =
    ap (λ x. order_text x u positions) e ∙ ap (λ x. order_text b x positions) f

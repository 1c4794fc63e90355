-- A text is cut at its first CR LF.
use Rattle.std.proofs.Common.{◌≡◌, ◌∙◌, ℕ, ◌+◌, ◌<◌, true, false, cond, List, [], ◌∷◌, ◌++◌, length, get_or, take, drop, refl, ap, sym, add-one, drop-cons, arith}
use Rattle.std.proofs.lemmas.List.{drop_all, take_all, take_more}
use Rattle.ical_text.specs.Lines.{is_continued, is_cut, joined, joined_from, joined_lines, pieces, with_front}

-- with some bytes in front of the first piece
abbrev pub prefixed : List ℕ → List (List ℕ) → List (List ℕ)
prefixed [] rest = rest
prefixed (b ∷ bytes) rest = with_front b (prefixed bytes rest)

prefixed_more : (front : List ℕ) (b : ℕ) (rest : List (List ℕ)) → prefixed (front ++ b ∷ []) rest ≡ prefixed front (with_front b rest)
prefixed_more [] b rest = refl
prefixed_more (c ∷ front) b rest = ap (with_front c) (prefixed_more front b rest)

prefixed_cut : (front : List ℕ) (rest : List (List ℕ)) → prefixed front ([] ∷ rest) ≡ front ∷ rest
prefixed_cut [] rest = refl
prefixed_cut (b ∷ front) rest = ap (with_front b) (prefixed_cut front rest)

prefixed_end : (b : ℕ) (front : List ℕ) → prefixed (b ∷ front) [] ≡ (b ∷ front) ∷ []
prefixed_end b [] = refl
prefixed_end b (c ∷ front) = ap (with_front b) (prefixed_end c front)

-- a byte that begins no CR LF
pub pieces_plain : (b : ℕ) (bytes : List ℕ) → is_cut (b ∷ bytes) ≡ false → pieces (b ∷ bytes) ≡ with_front b (pieces bytes)
unfolding pieces
pieces_plain b [] h = refl
pieces_plain b (c ∷ bytes) h = ap (λ t. cond t ([] ∷ pieces bytes) (with_front b (pieces (c ∷ bytes)))) h

pub pieces_cut : (bytes : List ℕ) → is_cut bytes ≡ true → pieces bytes ≡ [] ∷ pieces (drop 2 bytes)
unfolding pieces
pieces_cut [] h = absurd cc
pieces_cut (b ∷ []) h = absurd cc
pieces_cut (b ∷ c ∷ bytes) h = ap (λ t. cond t ([] ∷ pieces bytes) (with_front b (pieces (c ∷ bytes)))) h

pieces_none : pieces [] ≡ []
unfolding pieces
pieces_none = refl

-- the bytes before a place have no CR LF
abbrev pub IsCutFrom : List ℕ → ℕ → Type 0
IsCutFrom bytes i = pieces bytes ≡ prefixed (take i bytes) (pieces (drop i bytes))

pub cut_more : (bytes : List ℕ) (i : ℕ) → i < length bytes → is_cut (drop i bytes) ≡ false → IsCutFrom bytes i → IsCutFrom bytes (i + 1)
cut_more bytes i within h before =
    let next : drop i bytes ≡ get_or bytes i 0 ∷ drop (i + 1) bytes = rw add-one (drop-cons bytes i 0 within) in
    let plain = pieces_plain (get_or bytes i 0) (drop (i + 1) bytes) (ap is_cut (sym next) ∙ h) in
    before
    ∙ (ap (λ xs. prefixed (take i bytes) (pieces xs)) next
    ∙ (ap (prefixed (take i bytes)) plain
    ∙ (sym (prefixed_more (take i bytes) (get_or bytes i 0) (pieces (drop (i + 1) bytes)))
    ∙ ap (λ xs. prefixed xs (pieces (drop (i + 1) bytes))) (sym (take_more bytes i 0 within)))))

pub cut_here : (bytes front rest after : List ℕ) (i : ℕ) → IsCutFrom bytes i → front ≡ take i bytes → rest ≡ drop i bytes → is_cut rest ≡ true → after ≡ drop 2 rest → pieces bytes ≡ front ∷ pieces after
cut_here bytes front rest after i before f r h a =
    before
    ∙ (ap (λ xs. prefixed (take i bytes) (pieces xs)) (sym r)
    ∙ (ap (prefixed (take i bytes)) (pieces_cut rest h)
    ∙ (prefixed_cut (take i bytes) (pieces (drop 2 rest)) ∙ (ap (λ xs. xs ∷ pieces (drop 2 rest)) (sym f) ∙ ap (λ xs. front ∷ pieces xs) (sym a)))))

cut_all : (bytes : List ℕ) → 0 < length bytes → pieces bytes ≡ prefixed bytes (pieces []) → pieces bytes ≡ bytes ∷ pieces []
cut_all [] some h = absurd (omega arith)
cut_all (b ∷ bytes) some h = h ∙ (ap (prefixed (b ∷ bytes)) pieces_none ∙ (prefixed_end b bytes ∙ ap (λ xs. (b ∷ bytes) ∷ xs) (sym pieces_none)))

pub cut_end : (bytes front after : List ℕ) (i : ℕ) → 0 < length bytes → IsCutFrom bytes i → i ≡ length bytes → front ≡ take (length bytes) bytes → after ≡ drop (length bytes) bytes → pieces bytes ≡ front ∷ pieces after
cut_end bytes front after i some before e f a =
    let whole : take (length bytes) bytes ≡ bytes = take_all (length bytes) bytes (omega arith) in
    let none : drop (length bytes) bytes ≡ [] = drop_all (length bytes) bytes (omega arith) in
    let all : pieces bytes ≡ prefixed bytes (pieces []) =
    before ∙ (ap (λ k. prefixed (take k bytes) (pieces (drop k bytes))) e ∙ (ap (λ xs. prefixed xs (pieces (drop (length bytes) bytes))) whole ∙ ap (λ xs. prefixed bytes (pieces xs)) none)) in
    cut_all bytes some all ∙ (ap (λ xs. xs ∷ pieces []) (sym (f ∙ whole)) ∙ ap (λ xs. front ∷ pieces xs) (sym (a ∙ none)))

-- a piece that continues the line, and one that doesn't
pub joined_on : (line piece tail : List ℕ) (more : List (List ℕ)) → is_continued piece ≡ true → tail ≡ drop 1 piece → joined_from line (piece ∷ more) ≡ joined_from (line ++ tail) more
joined_on line piece tail more h e =
    ap (λ t. cond t (joined_from (line ++ drop 1 piece) more) (line ∷ joined_from piece more)) h ∙ ap (λ xs. joined_from (line ++ xs) more) (sym e)

pub joined_new : (line piece : List ℕ) (more : List (List ℕ)) → is_continued piece ≡ false → joined_from line (piece ∷ more) ≡ line ∷ joined_from piece more
joined_new line piece more h = ap (λ t. cond t (joined_from (line ++ drop 1 piece) more) (line ∷ joined_from piece more)) h

pub joined_first : (bytes piece : List ℕ) (rest : List (List ℕ)) → pieces bytes ≡ piece ∷ rest → joined_lines bytes ≡ joined_from piece rest
unfolding joined_lines
joined_first bytes piece rest e = ap joined e

pub joined_none : joined_lines [] ≡ []
unfolding joined_lines pieces
joined_none = refl

pub last_line : (line : List ℕ) (rest : List ℕ) → rest ≡ [] → joined_from line (pieces rest) ≡ line ∷ []
last_line line rest e = ap (λ xs. joined_from line (pieces xs)) e ∙ ap (joined_from line) pieces_none

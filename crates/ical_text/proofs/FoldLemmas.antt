-- Lines that are written join to themselves.
use Rattle.std.proofs.Common.{◌≡◌, ◌∙◌, ℕ, zero, suc, Bool, true, false, ◌&&◌, ◌==◌, List, [], ◌∷◌, ◌++◌, append_assoc, append-nil, refl, ap, sym}
use Rattle.std.specs.Prelude.{not}
use Rattle.std.specs.List.{list_all}
use Rattle.ical_text.specs.Lines.{folded, folded_from, folded_lines, is_continued, is_cut, joined, joined_from, joined_lines, pieces, with_front}
use Rattle.ical_text.specs.Properties.{is_inner}
use Rattle.ical_text.proofs.LineLemmas.{joined_new, pieces_cut, pieces_plain}

-- of a test of two parts each is true
pub first_part : (a b : Bool) → a && b ≡ true → a ≡ true
first_part true b h = refl
first_part false b h = absurd cc

pub second_part : (a b : Bool) → a && b ≡ true → b ≡ true
second_part true b h = h
second_part false b h = absurd cc

no_cr : (t : Bool) (u v : Bool) → not t && u ≡ true → t && v ≡ false
no_cr true u v h = absurd cc
no_cr false u v h = refl

inner_not_cut : (b : ℕ) (bytes : List ℕ) → is_inner b ≡ true → is_cut (b ∷ bytes) ≡ false
inner_not_cut b [] h = refl
inner_not_cut b (c ∷ bytes) h = no_cr (b == 13) (not (b == 10)) (c == 10) h

-- a text whose first piece, with those that continue it, is these bytes, and then the pieces of the rest
record IsFolded (text bytes rest : List ℕ) : Type 0 where
  pub piece : List ℕ
  pub more : List (List ℕ)
  pub are : pieces text ≡ piece ∷ more
  pub joins : (front : List ℕ) → joined_from (front ++ piece) more ≡ joined_from (front ++ bytes) (pieces rest)

with_one : (front : List ℕ) (b : ℕ) (bytes : List ℕ) → (front ++ b ∷ []) ++ bytes ≡ front ++ b ∷ bytes
with_one front b bytes = append_assoc front (b ∷ []) bytes

-- a byte in front that is no CR
byte_folded : (b : ℕ) (text bytes rest : List ℕ) → is_inner b ≡ true → IsFolded text bytes rest → IsFolded (b ∷ text) (b ∷ bytes) rest
byte_folded b text bytes rest h f = record {
  piece = b ∷ f.piece;
  more = f.more;
  are = pieces_plain b text (inner_not_cut b text h) ∙ ap (with_front b) f.are;
  joins = λ front.
      ap (λ xs. joined_from xs f.more) (sym (with_one front b f.piece)) ∙ (f.joins (front ++ b ∷ []) ∙ ap (λ xs. joined_from xs (pieces rest)) (with_one front b bytes));
}

-- CR LF and a space in front of a byte
fold_folded : (b : ℕ) (text bytes rest : List ℕ) → is_inner b ≡ true → IsFolded text bytes rest → IsFolded (13 ∷ 10 ∷ 32 ∷ b ∷ text) (b ∷ bytes) rest
fold_folded b text bytes rest h f =
    let next = byte_folded b text bytes rest h f in
    record {
      piece = [];
      more = (32 ∷ next.piece) ∷ next.more;
      are = pieces_cut (13 ∷ 10 ∷ 32 ∷ b ∷ text) refl ∙ ap (λ xs. [] ∷ xs) (pieces_plain 32 (b ∷ text) refl ∙ ap (with_front 32) next.are);
      joins = λ front. ap (λ xs. joined_from (xs ++ next.piece) next.more) (append-nil front) ∙ next.joins front;
    }

end_folded : (rest : List ℕ) → IsFolded (13 ∷ 10 ∷ rest) [] rest
end_folded rest = record { piece = []; more = pieces rest; are = pieces_cut (13 ∷ 10 ∷ rest) refl; joins = λ front. refl }

line_folded : (room : ℕ) (bytes rest : List ℕ) → list_all is_inner bytes ≡ true → IsFolded (folded_from room bytes ++ rest) bytes rest
unfolding folded_from
line_folded room [] rest h = end_folded rest
line_folded zero (b ∷ bytes) rest h =
    fold_folded b (folded_from 73 bytes ++ rest) bytes rest (first_part (is_inner b) (list_all is_inner bytes) h) (line_folded 73 bytes rest (second_part (is_inner b) (list_all is_inner bytes) h))
line_folded (suc room) (b ∷ bytes) rest h =
    byte_folded b (folded_from room bytes ++ rest) bytes rest (first_part (is_inner b) (list_all is_inner bytes) h) (line_folded room bytes rest (second_part (is_inner b) (list_all is_inner bytes) h))

-- a line that can be written: neither CR nor LF is in it, and it begins with no space or tab
pub record IsPlain (line : List ℕ) : Type 0 where
  pub inner : list_all is_inner line ≡ true
  pub new : is_continued line ≡ false

pub data ArePlain : List (List ℕ) → Type 0 where
  none : ArePlain []
  one : (line : List ℕ) (lines : List (List ℕ)) → IsPlain line → ArePlain lines → ArePlain (line ∷ lines)

-- the first piece of a line that is written
record Begins (line rest : List ℕ) : Type 0 where
  pub piece : List ℕ
  pub more : List (List ℕ)
  pub are : pieces (folded line ++ rest) ≡ piece ∷ more
  pub new : is_continued piece ≡ is_continued line
  pub joins : joined_from piece more ≡ joined_from line (pieces rest)

begins : (line rest : List ℕ) → list_all is_inner line ≡ true → Begins line rest
unfolding folded folded_from byte_folded
begins [] rest h = record { piece = []; more = pieces rest; are = pieces_cut (13 ∷ 10 ∷ rest) refl; new = refl; joins = refl }
begins (b ∷ line) rest h =
    let f = line_folded 74 line rest (second_part (is_inner b) (list_all is_inner line) h) in
    let g = byte_folded b (folded_from 74 line ++ rest) line rest (first_part (is_inner b) (list_all is_inner line) h) f in
    record { piece = g.piece; more = g.more; are = g.are; new = refl; joins = g.joins [] }

joined_is : (text piece : List ℕ) (more : List (List ℕ)) → pieces text ≡ piece ∷ more → joined_lines text ≡ joined_from piece more
unfolding joined_lines
joined_is text piece more e = ap joined e

no_pieces : pieces [] ≡ []
unfolding pieces
no_pieces = refl

no_lines : joined_lines [] ≡ []
unfolding joined_lines pieces
no_lines = refl

next_line : (line rest piece : List ℕ) (more : List (List ℕ)) → pieces rest ≡ piece ∷ more → is_continued piece ≡ false → joined_from line (pieces rest) ≡ line ∷ joined_lines rest
next_line line rest piece more are new =
    ap (joined_from line) are ∙ (joined_new line piece more new ∙ ap (λ xs. line ∷ xs) (sym (joined_is rest piece more are)))

-- what is written joins to the lines again
pub written_again : (lines : List (List ℕ)) → ArePlain lines → joined_lines (folded_lines lines) ≡ lines
written_again [] h = no_lines
written_again (line ∷ []) (one _ _ h _) =
    let b = begins line [] h.inner in
    joined_is (folded line ++ []) b.piece b.more b.are ∙ (b.joins ∙ ap (joined_from line) no_pieces)
written_again (line ∷ next ∷ lines) (one _ _ h (one _ _ k rest)) =
    let behind = folded_lines (next ∷ lines) in
    let b = begins line behind h.inner in
    let n = begins next (folded_lines lines) k.inner in
    joined_is (folded line ++ behind) b.piece b.more b.are
    ∙ (b.joins ∙ (next_line line behind n.piece n.more n.are (n.new ∙ k.new) ∙ ap (λ xs. line ∷ xs) (written_again (next ∷ lines) (one next lines k rest))))

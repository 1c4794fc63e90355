-- Each line of a settled tree is read as its document, in either form.
use Rattle.std.proofs.Common.{◌≡◌, ℕ, ◌<◌, ◌≤◌, Bool, true, false, cond, eqb, List, [], ◌∷◌, decimal, Option, Some, None, ℤ, IsUtf8, refl, sym, subst, arith}
use Rattle.std.specs.Prelude.{⊤, codes}
use Rattle.std.specs.List.{flat_map, list_all}
use Rattle.std.specs.Fmt.{signed_decimal}
use Rattle.std.proofs.lemmas.Bool.Decides.{nat_tests}
use Rattle.std.proofs.lemmas.Int.{ints}
use Rattle.json.specs.Tree.{HasNumbers}
use Rattle.json.specs.Tree as tree
use Rattle.json.proofs.Printed.Decimals.{IsNumber-decimal}
use Rattle.plane_edges.specs.declared.points.Point.{Point}
use Rattle.plane_edges.proofs.Truth.{and_left}
use Rattle.cell_split.specs.declared.cell.Cell.{Cell}
use Rattle.cell_split.specs.Judges.{Content, IsLawful}
use Rattle.cell_split.specs.Tree.{root_task}
use Rattle.cell_split.specs.Verdicts.{is_refuted}
use Rattle.cell_split.proofs.Every.{Every}
use Rattle.cell_split.proofs.CellLemmas.{cell_limits}
use Rattle.serde_json.specs.Data.{Data}
use Rattle.serde_json.specs.Find.{of_integer}
use Rattle.serde_json.specs.Read.{max_depth, number_of, of_json}
use Rattle.serde_json.specs.Written.{compact_text, number_text, outline}
use Rattle.serde_json.proofs.Numbers.{number_of-decimal}
use Rattle.serde_json.proofs.OnLiterals.{serde_json_on_literals}
use Rattle.covering.specs.declared.settled.Settled.{Settled}
use Rattle.covering.specs.Letters.{is_letter}
use Rattle.covering.specs.Lines.{IsReadAs, cell_data, line_data, members_data, point_data, runs_data, tree_data}
use Rattle.covering.specs.Refuted.{rank_of}
use Rattle.covering.specs.Runs.{run_text, runs_in, runs_text}
use Rattle.covering.specs.Settles.{IsSettled, refuted_ordinal_of}
use Rattle.plain_search.proofs.OpenLeaves.{greatest_in_frame}
use Rattle.covering.proofs.Running.{letters_utf8}
use Rattle.covering.proofs.Spelling.{letters_are}
use Rattle.covering_check.specs.Cells.{is_cell_of}
use Rattle.covering_check.proofs.CellTests.{cell_is}
use Rattle.covering_check.proofs.Settled.{IsClaim, claim_is}
use Rattle.covering_laws.specs.Feeds.{has_no_feed}
use Rattle.covering_laws.proofs.Runs.{IsRun}
use Rattle.covering_laws.proofs.ShortRuns.{runs_are_short}
use Rattle.covering_laws.proofs.Texts.{IsOfTexts, IsPlain, IsSmall, natural_plain, number_plain, number_printed, number_read, plain-append, plain_utf8, signed_plain, text_no_feed, text_read, text_utf8}

-- ---- the refuted cell

-- its numbers are small, where there is one
abbrev IsSmallCell : Option (Cell × Point) → Type 0
IsSmallCell None = ⊤
IsSmallCell (Some found) =
    (IsSmall found.0.x × IsSmall found.0.y) × ((found.0.size ≤ 29) × ((found.0.first ≤ 720) × (found.0.last ≤ 720)))

small_by : (c : Content) → IsLawful c → (k ordinal : ℕ) (found : Option (Cell × Point)) → IsClaim c k ordinal found → IsSmallCell found
small_by c law k ordinal None h = tt
small_by c law k ordinal (Some found) h =
    let of_root = cell_is c.root found.0 (and_left (is_cell_of c.root found.0) _ h.1) in
    let limits = cell_limits found.0 (record { root = c.root; is_root = law.root; of_root = of_root }) in
    let formed = of_root.formed in
    let size = formed.not_large in
    let order = formed.ordered in
    let frame = formed.in_frame in
    (((omega (arith, ints, limits.west), omega (arith, ints, limits.east)), (omega (arith, ints, limits.south), omega (arith, ints, limits.north))), (omega arith, (omega arith, omega arith)))

-- ---- members that are read again

point_again : (found : Option (Cell × Point)) → of_json (outline (point_data found)) ≡ Some (point_data found)
point_again None = refl
point_again (Some found) = refl

cell_again : (found : Option (Cell × Point)) → IsSmallCell found → of_json (outline (cell_data found)) ≡ Some (cell_data found)
cell_again None h = refl
cell_again (Some found) h =
    rw (number_read found.0.x h.0.0, number_read found.0.y h.0.1, number_of-decimal found.0.size (omega arith), number_of-decimal found.0.first (omega arith), number_of-decimal found.0.last (omega arith)) refl

-- what is read of these members is the document
module _ (column day : List ℕ) (point refuted : Data) (r : ℤ) (letters : List ℕ) (point_is : of_json (outline point) ≡ Some point) (refuted_is : of_json (outline refuted) ≡ Some refuted) (r_is : number_of (number_text (of_integer r)) ≡ Some (of_integer r)) where
  tree_again : of_json (outline (members_data column day point r refuted (codes "tree") letters)) ≡ Some (members_data column day point r refuted (codes "tree") letters)
  unfolding serde_json_on_literals
  tree_again = rw (point_is, refuted_is, r_is) refl

  runs_again : of_json (outline (members_data column day point r refuted (codes "runs") letters)) ≡ Some (members_data column day point r refuted (codes "runs") letters)
  unfolding serde_json_on_literals
  runs_again = rw (point_is, refuted_is, r_is) refl

-- ---- what is printed of them

point_numbers : (found : Option (Cell × Point)) → HasNumbers (outline (point_data found))
point_numbers None = tt
point_numbers (Some found) = (tt, (tt, (tt, tt)))

cell_numbers : (found : Option (Cell × Point)) → IsSmallCell found → HasNumbers (outline (cell_data found))
cell_numbers None h = tt
cell_numbers (Some found) h =
    (number_printed found.0.x h.0.0, (number_printed found.0.y h.0.1, (IsNumber-decimal found.0.size (omega arith), (IsNumber-decimal found.0.first (omega arith), (IsNumber-decimal found.0.last (omega arith), tt)))))

line_depth : (column day name letters : List ℕ) (r : ℤ) (found : Option (Cell × Point)) → tree.depth (outline (members_data column day (point_data found) r (cell_data found) name letters)) ≤ max_depth
line_depth column day name letters r None = omega arith
line_depth column day name letters r (Some found) = omega arith

point_texts : (Q : List ℕ → Type 0) → ((bs : List ℕ) → IsPlain bs → Q bs) → (found : Option (Cell × Point)) → IsOfTexts Q (point_data found)
point_texts Q plain None = tt
point_texts Q plain (Some found) =
    let p = found.1 in
    (plain (signed_decimal p.a) (signed_plain p.a (p.a_within.low, p.a_within.high)), (plain (signed_decimal p.b) (signed_plain p.b (p.b_within.low, p.b_within.high)), (plain (signed_decimal p.d) (signed_plain p.d (omega (arith, ints, p.positive), omega (arith, ints, p.short))), tt)))

wide_number : (z : ℤ) → IsSmall z → IsPlain (number_text (of_integer z))
wide_number z h = number_plain z (omega (arith, ints, h.0), omega (arith, ints, h.1))

cell_texts : (Q : List ℕ → Type 0) (found : Option (Cell × Point)) → IsSmallCell found → IsOfTexts Q (cell_data found)
cell_texts Q None h = tt
cell_texts Q (Some found) h =
    (wide_number found.0.x h.0.0, (wide_number found.0.y h.0.1, (natural_plain found.0.size (omega arith), (natural_plain found.0.first (omega arith), (natural_plain found.0.last (omega arith), tt)))))

-- what a line's strings have: plain bytes have it, and so have the two names and the letters
line_texts : (Q : List ℕ → Type 0) → ((bs : List ℕ) → IsPlain bs → Q bs) → (column day name letters : List ℕ) (r : ℤ) (found : Option (Cell × Point)) → Q column → Q day → Q name → Q letters → IsSmall r → IsSmallCell found → IsOfTexts Q (members_data column day (point_data found) r (cell_data found) name letters)
line_texts Q plain column day name letters r found column_has day_has name_has letters_have r_is cell_is' =
    (plain (codes "column") refl, (column_has, (plain (codes "day") refl, (day_has, (plain (codes "point") refl, (point_texts Q plain found, (plain (codes "r") refl, (wide_number r r_is, (plain (codes "refuted") refl, (cell_texts Q found cell_is', (name_has, (letters_have, tt))))))))))))

-- a line whose members are read again
line_read : (column day name letters : List ℕ) (r : ℤ) (found : Option (Cell × Point)) → IsUtf8 column → IsUtf8 day → IsPlain name → IsUtf8 letters → IsSmall r → IsSmallCell found → of_json (outline (members_data column day (point_data found) r (cell_data found) name letters)) ≡ Some (members_data column day (point_data found) r (cell_data found) name letters) → IsReadAs (members_data column day (point_data found) r (cell_data found) name letters) (compact_text (members_data column day (point_data found) r (cell_data found) name letters))
line_read column day name letters r found column_is day_is name_is letters_are' r_is cell_is' same =
    let d = members_data column day (point_data found) r (cell_data found) name letters in
    record {
      utf8 = text_utf8 d (line_texts IsUtf8 plain_utf8 column day name letters r found column_is day_is (plain_utf8 name name_is) letters_are' r_is cell_is');
      value = text_read d (tt, (tt, (point_numbers found, (number_printed r r_is, (cell_numbers found cell_is', (tt, tt)))))) (line_depth column day name letters r found) same;
    }

-- ---- letters in runs are a text

letter_plain : (b : ℕ) → is_letter b ≡ true → IsPlain (b ∷ [])
letter_plain b h = grind (arith, nat_tests)

run_plain : (n b : ℕ) → IsRun (n, b) → IsPlain (run_text (n, b))
run_plain n b h = plain-append (cond (eqb n 1) [] (decimal n)) (b ∷ []) (by (eqb n 1)) (letter_plain b h.2)
  where
    by : (t : Bool) → IsPlain (cond t [] (decimal n))
    by true = refl
    by false = natural_plain n (omega arith)

runs_plain : (runs : List (ℕ × ℕ)) → Every IsRun runs → IsPlain (flat_map run_text runs)
runs_plain [] h = refl
runs_plain ((n, b) ∷ runs) h = plain-append (run_text (n, b)) (flat_map run_text runs) (run_plain n b h.0) (runs_plain runs h.1)

-- ---- the lines of a settled tree

module _ (c : Content) (law : IsLawful c) (k : ℕ) (known : k < c.problems) (s : Settled) (is : IsSettled c k s) where
  cell : IsSmallCell s.refuted
  cell = small_by c law k (refuted_ordinal_of c k) s.refuted (subst (IsClaim c k (refuted_ordinal_of c k)) (sym is.refuted) (claim_is c law k known))

  rank : IsSmall s.r
  rank =
      let frame = greatest_in_frame (λ l. is_refuted l.verdict) c k law known in
      let same : s.r ≡ rank_of (refuted_ordinal_of c k) = is.rank in
      (omega (arith, ints, same, frame), omega (arith, ints, same, frame))

  pub tree_document : (column day : List ℕ) → IsUtf8 column → IsUtf8 day → IsReadAs (tree_data column day s) (compact_text (tree_data column day s))
  tree_document column day column_is day_is =
      let letters = letters_utf8 s.letters (subst (λ bs. list_all is_letter bs ≡ true) (sym is.letters) (letters_are c (refuted_ordinal_of c k) (root_task c k))) in
      line_read column day (codes "tree") s.letters s.r s.refuted column_is day_is refl letters rank cell
      (tree_again column day (point_data s.refuted) (cell_data s.refuted) s.r s.letters (point_again s.refuted) (cell_again s.refuted cell) (number_read s.r rank))

  pub runs_document : (column day : List ℕ) → IsUtf8 column → IsUtf8 day → IsReadAs (runs_data column day s) (compact_text (runs_data column day s))
  runs_document column day column_is day_is =
      let letters = plain_utf8 (runs_text s.letters) (runs_plain (runs_in s.letters) (subst (λ (ls : List ℕ). Every IsRun (runs_in ls)) (sym is.letters) (runs_are_short c law k known))) in
      line_read column day (codes "runs") (runs_text s.letters) s.r s.refuted column_is day_is refl letters rank cell
      (runs_again column day (point_data s.refuted) (cell_data s.refuted) s.r (runs_text s.letters) (point_again s.refuted) (cell_again s.refuted cell) (number_read s.r rank))

  -- no line has a line feed within it, whatever its names and letters
  pub line_no_feed : (column day name letters : List ℕ) → has_no_feed (compact_text (line_data column day s name letters)) ≡ true
  line_no_feed column day name letters =
      text_no_feed (line_data column day s name letters) (line_texts (λ bs. ⊤) (λ bs h. tt) column day name letters s.r s.refuted tt tt tt tt rank cell)

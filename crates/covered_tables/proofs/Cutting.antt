-- A line without a line feed before its end is cut off whole; and lines that show entries show them one after another.
use Rattle.std.proofs.Common.{◌≡◌, ℕ, suc, ◌+◌, true, false, eqb, List, [], ◌∷◌, ◌++◌, append_assoc, drop, length, map, take, Result, Ok, refl, ap, ◌∙◌}
use Rattle.std.specs.List.{flat_map}
use Rattle.std.proofs.Math.Seq.{drop-append-add, take-append_seam}
use Rattle.std.proofs.lemmas.Bool.Decides.{nat_tests}
use Rattle.std.proofs.Common.{arith}
use Rattle.plane_edges.proofs.Truth.{and_left, and_right}
use Rattle.cell_split.specs.declared.verdict.Entry.{Entry}
use Rattle.cell_split.proofs.Every.{Every}
use Rattle.command_input.specs.Lines.{behind_line, first_line, line_length}
use Rattle.covering_check.specs.declared.fault.CoverFault.{CoverFault}
use Rattle.covering_laws.specs.Feeds.{has_no_feed, is_no_feed}
use Rattle.shown_table.specs.Shown.{entries_shown, entry_then, with_entries}

length_cut : (bs rest : List ℕ) → has_no_feed bs ≡ true → line_length (bs ++ 10 ∷ rest) ≡ length bs
length_cut [] rest h = refl
length_cut (b ∷ bs) rest h =
    let first = and_left (is_no_feed b) (has_no_feed bs) h in
    let other : eqb b 10 ≡ false = grind (arith, nat_tests) in
    rw other (ap (λ (n : ℕ). suc n) (length_cut bs rest (and_right (is_no_feed b) (has_no_feed bs) h)))

pub line_cut : (bs rest : List ℕ) → has_no_feed bs ≡ true → (first_line (bs ++ 10 ∷ rest) ≡ bs) × (behind_line (bs ++ 10 ∷ rest) ≡ rest)
line_cut bs rest h =
    let long = length_cut bs rest h in (
      ap (λ (n : ℕ). take n (bs ++ 10 ∷ rest)) long ∙ take-append_seam bs (10 ∷ rest),
      ap (λ (n : ℕ). drop (n + 1) (bs ++ 10 ∷ rest)) long ∙ drop-append-add bs (10 ∷ rest) 1,
    )

-- a line with its LF, of which this entry is shown
abbrev pub IsLineOf : (List ℕ → Result Entry CoverFault) → List ℕ → Entry → Type 0
IsLineOf shows line entry = (bs : List ℕ) × (line ≡ bs ++ 10 ∷ []) × (has_no_feed bs ≡ true) × (shows bs ≡ Ok entry)

pub lines_shown : (shows : ℕ → List ℕ → Result Entry CoverFault) (line : ℕ → List ℕ) (entry : ℕ → Entry) (ks : List ℕ) → Every (λ k. IsLineOf (shows k) (line k) (entry k)) ks →
    (number : ℕ) (rest : List ℕ) → entries_shown shows ks number (flat_map line ks ++ rest) ≡ Ok (map entry ks, rest)
lines_shown shows line entry [] h number rest = refl
lines_shown shows line entry (k ∷ ks) h number rest =
    let one = h.0 in
    let behind = flat_map line ks ++ rest in
    let text : flat_map line (k ∷ ks) ++ rest ≡ one.0 ++ 10 ∷ behind =
    append_assoc (line k) (flat_map line ks) rest ∙ (ap (λ (bs : List ℕ). bs ++ behind) one.1 ∙ append_assoc one.0 (10 ∷ []) behind) in
    let cut = line_cut one.0 behind one.2 in
    let others = λ (bs : List ℕ). entries_shown shows ks (number + 1) bs in
    ap (λ (t : List ℕ). entry_then (shows k (first_line t)) number (others (behind_line t))) text
    ∙ (ap (λ (bs : List ℕ). entry_then (shows k bs) number (others (behind_line (one.0 ++ 10 ∷ behind)))) cut.0
    ∙ (ap (λ (r : Result Entry CoverFault). entry_then r number (others (behind_line (one.0 ++ 10 ∷ behind)))) one.3
    ∙ (ap (λ (bs : List ℕ). entry_then (Ok (entry k)) number (others bs)) cut.1
    ∙ ap (with_entries (entry k ∷ [])) (lines_shown shows line entry ks h.1 (number + 1) rest))))

-- A line of the second form shows what the first form's line of the same tree shows.
use Rattle.std.proofs.Common.{◌≡◌, ℕ, ◌<◌, Bool, true, false, cond, List, [], ◌∷◌, map, Option, Some, None, Result, Ok, Err, refl, sym, ap, ◌∙◌, subst}
use Rattle.std.specs.Prelude.{codes, bytes_eq}
use Rattle.std.specs.List.{list_all}
use Rattle.std.proofs.lemmas.Slice.Eq.{bytes_eq-Decides}
use Rattle.json.proofs.Printed.Utf8.{IsUtf8-are_ascii}
use Rattle.plane_edges.proofs.Truth.{and_true}
use Rattle.cell_split.specs.declared.verdict.Entry.{Entry}
use Rattle.cell_split.specs.declared.verdict.Leaf.{Leaf}
use Rattle.cell_split.specs.Judges.{Content, IsLawful}
use Rattle.cell_split.specs.Tree.{root_task}
use Rattle.cell_split.proofs.Every.{Every}
use Rattle.serde_json.specs.Data.{Data}
use Rattle.serde_json.specs.Written.{compact_text}
use Rattle.serde_json.proofs.OnLiterals.{serde_json_on_literals}
use Rattle.covering.specs.declared.settled.Settled.{Settled}
use Rattle.covering.specs.Letters.{is_letter}
use Rattle.covering.specs.Lines.{IsReadAs, line_data, runs_data, tree_data}
use Rattle.covering.specs.Runs.{runs_in, runs_text}
use Rattle.covering.specs.Settles.{IsSettled, refuted_ordinal_of}
use Rattle.covering.proofs.Spelling.{letters_are}
use Rattle.covering_check.specs.declared.fault.CoverFault.{CoverFault}
use Rattle.covering_check.specs.declared.fault.CoverFault.TheVariants.{Column, NotShown}
use Rattle.covering_check.specs.Checks.{answer_by, shown_by, shown_in, shown_of}
use Rattle.covering_check.specs.Gives.{◌>>=◌, or_no_line}
use Rattle.covering_check.specs.Marks.{Marks, marks_in, runs_marks, tree_marks, with_mark}
use Rattle.covering_check.specs.Members.{claim_in, text_at, ordinal_of_claim}
use Rattle.covering_check.specs.Visits.{is_letter_for, letter_for, taken, visited}
use Rattle.covering_check.proofs.Accepted.{tree_accepted}
use Rattle.covering_check.proofs.TruthLemmas.{by_claim, by_column, by_day, by_letters}
use Rattle.covering_check.proofs.Valued.{value_is}
use Rattle.covering_check.proofs.Written.{tree_again}
use Rattle.covering_laws.specs.Acceptance.{WrittenLinesAreAccepted}
use Rattle.covering_laws.proofs.Documents.{runs_document, tree_document}
use Rattle.covering_laws.proofs.Runs.{IsRun, Spell, runs_again}
use Rattle.covering_laws.proofs.ShortRuns.{runs_are_short}

-- ---- what letters show doesn't depend on their places

same_first : (a b : ℕ) (as' bs : List ℕ) → (a ∷ as') ≡ (b ∷ bs) → (a ≡ b) × (as' ≡ bs)
same_first a b as' bs h = (cc, cc)

none_first : (b : ℕ) (bs : List ℕ) → [] ≡ (b ∷ bs) → ⊥
none_first b bs h = cc

-- the letters that are left
abbrev left_in : Result Marks CoverFault → List ℕ
left_in (Ok rest) = map (λ m. m.letter) rest.marks
left_in (Err f) = []

-- the first mark has the first cell's letter, and the others are taken by the others
taken_first : (ordinal : ℕ) (l : Leaf) (ls : List Leaf) (a : _) (rest : Marks) → taken ordinal (l ∷ ls) (with_mark a rest) ≡ Ok (record { marks = []; end = None }) → (is_letter_for (letter_for ordinal l) a.letter ≡ true) × (taken ordinal ls rest ≡ Ok (record { marks = []; end = None }))
taken_first ordinal l ls a rest = by (is_letter_for (letter_for ordinal l) a.letter)
  where
    by : (t : Bool) → (cond t (Ok rest) (Err (NotShown a.place)) >>= taken ordinal ls) ≡ Ok (record { marks = []; end = None }) → (t ≡ true) × (taken ordinal ls rest ≡ Ok (record { marks = []; end = None }))
    by true h = (refl, h)
    by false h = absurd (cc)

-- marks of the same letters are taken by the same cells, to the last
taken_same : (ordinal : ℕ) (ls : List Leaf) (as' bs : _) → taken ordinal ls (record { marks = as'; end = None }) ≡ Ok (record { marks = []; end = None }) → Spell (record { marks = bs; end = None }) (map (λ m. m.letter) as') → taken ordinal ls (record { marks = bs; end = None }) ≡ Ok (record { marks = []; end = None })
taken_same ordinal [] [] [] h same = refl
taken_same ordinal [] [] (b ∷ bs) h same = absurd (none_first b.letter (map (λ m. m.letter) bs) (sym same.0))
taken_same ordinal [] (a ∷ as') bs h same = absurd (none_first a.letter (map (λ m. m.letter) as') (sym (ap left_in h)))
taken_same ordinal (l ∷ ls) [] bs h same = absurd (cc)
taken_same ordinal (l ∷ ls) (a ∷ as') [] h same = absurd (none_first a.letter (map (λ m. m.letter) as') same.0)
taken_same ordinal (l ∷ ls) (a ∷ as') (b ∷ bs) h same =
    let both = same_first b.letter a.letter (map (λ m. m.letter) bs) (map (λ m. m.letter) as') same.0 in
    let first = taken_first ordinal l ls a (record { marks = as'; end = None }) h in
    rw (ap (is_letter_for (letter_for ordinal l)) both.0 ∙ first.0) (taken_same ordinal ls as' bs first.1 (both.1, refl))

module _ (c : Content) (k : ℕ) (claim : _) (e : Entry) where
  -- an answer has spent all letters
  all_spent : (marks : _) (end : Option CoverFault) → answer_by c k claim (record { marks = marks; end = end }) ≡ Ok e → (marks ≡ []) × (end ≡ None)
  all_spent [] None h = (refl, refl)
  all_spent [] (Some f) h = absurd (cc)
  all_spent (m ∷ marks) end h = absurd (cc)

  shown_same : (letters : List ℕ) (m n : Marks) → Spell m letters → Spell n letters → shown_by c k claim m ≡ Ok e → shown_by c k claim n ≡ Ok e
  shown_same letters m n first second = by (taken ordinal cells m) refl
    where
      ordinal : ℕ
      ordinal = ordinal_of_claim claim

      cells : List Leaf
      cells = visited c ordinal (root_task c k)

      none : Marks
      none = record { marks = []; end = None }

      by : (r : Result Marks CoverFault) → taken ordinal cells m ≡ r → (r >>= answer_by c k claim) ≡ Ok e → shown_by c k claim n ≡ Ok e
      by (Err f) is h = absurd (cc)
      by (Ok rest) is h =
          let spent = all_spent rest.marks rest.end h in
          let rest_is : rest ≡ none = λ i. record { marks = spent.0 i; end = spent.1 i } in
          let m_is : taken ordinal cells (record { marks = m.marks; end = None }) ≡ Ok none = ap (λ (o : Option CoverFault). taken ordinal cells (record { marks = m.marks; end = o })) (sym first.1) ∙ (is ∙ ap (λ r. Ok r) rest_is) in
          let n_is : taken ordinal cells n ≡ Ok none = ap (λ (o : Option CoverFault). taken ordinal cells (record { marks = n.marks; end = o })) second.1 ∙ taken_same ordinal cells m.marks n.marks m_is (second.0 ∙ sym first.0, refl) in
          ap (λ (r : Result Marks CoverFault). r >>= answer_by c k claim) (n_is ∙ ap (λ r. Ok r) (sym rest_is)) ∙ h

-- ---- what a line shows, by its claim and its letters

claim_same : (column day : List ℕ) (s : Settled) (name letters : List ℕ) → claim_in (line_data column day s name letters) ≡ claim_in (tree_data [] [] s)
unfolding claim_in serde_json_on_literals
claim_same column day s name letters = refl

column_at : (column day : List ℕ) (s : Settled) (name letters : List ℕ) → text_at (codes "column") (line_data column day s name letters) ≡ Some column
unfolding serde_json_on_literals
column_at column day s name letters = refl

day_at : (column day : List ℕ) (s : Settled) (name letters : List ℕ) → text_at (codes "day") (line_data column day s name letters) ≡ Some day
unfolding serde_json_on_literals
day_at column day s name letters = refl

tree_at : (column day : List ℕ) (s : Settled) → marks_in (tree_data column day s) ≡ Some (tree_marks s.letters)
unfolding marks_in serde_json_on_literals
tree_at column day s = refl

runs_at : (column day : List ℕ) (s : Settled) → marks_in (runs_data column day s) ≡ Some (runs_marks (runs_text s.letters))
unfolding marks_in serde_json_on_literals
runs_at column day s = refl

same_bytes : (bs : List ℕ) → bytes_eq bs bs ≡ true
same_bytes bs = (bytes_eq-Decides bs bs).1 refl

shown_by_claim : (c : Content) (k : ℕ) (column day : List ℕ) (s : Settled) (name letters line : List ℕ) (marks : Marks) → IsReadAs (line_data column day s name letters) line → marks_in (line_data column day s name letters) ≡ Some marks → shown_of c k column day line ≡ (or_no_line (claim_in (tree_data [] [] s)) >>= λ claim. shown_by c k claim marks)
shown_by_claim c k column day s name letters line marks reads marks_are =
    let d = line_data column day s name letters in
    let claim = claim_in (tree_data [] [] s) in
    ap (λ (r : Result Data CoverFault). r >>= shown_in c k column day) (value_is line d reads.utf8 reads.value)
    ∙ (ap (λ (o : Option (List ℕ)). or_no_line o >>= by_column c k column day d) (column_at column day s name letters)
    ∙ (ap (λ (o : Option (List ℕ)). or_no_line o >>= by_day c k column day d column) (day_at column day s name letters)
    ∙ (ap (λ o. or_no_line o >>= by_claim c k column day d column day) (claim_same column day s name letters)
    ∙ (ap (λ (o : Option Marks). or_no_line claim >>= λ x. or_no_line o >>= by_letters c k column day column day x) marks_are
    ∙ ap (λ (b : Bool). or_no_line claim >>= λ x. cond b (shown_by c k x marks) (Err Column)) (and_true (bytes_eq column column) (bytes_eq day day) (same_bytes column) (same_bytes day))))))

-- what one form shows the other does
same_answer : (c : Content) (k : ℕ) (claim : Option _) (letters : List ℕ) (m n : Marks) (e : Entry) → Spell m letters → Spell n letters → (or_no_line claim >>= λ x. shown_by c k x m) ≡ Ok e → (or_no_line claim >>= λ x. shown_by c k x n) ≡ Ok e
same_answer c k None letters m n e first second h = absurd (cc)
same_answer c k (Some claim) letters m n e first second h = shown_same c k claim e letters m n first second h

pub runs_accepted : (c : Content) → IsLawful c → (k : ℕ) → k < c.problems → (s : Settled) → IsSettled c k s → (column day line : List ℕ) → IsReadAs (runs_data column day s) line → shown_of c k column day line ≡ Ok s.entry
runs_accepted c law k known s is column day line reads =
    let own = tree_document c law k known s is [] [] (IsUtf8-are_ascii [] refl) (IsUtf8-are_ascii [] refl) in
    let tree = compact_text (tree_data [] [] s) in
    let shown = sym (shown_by_claim c k [] [] s (codes "tree") s.letters tree (tree_marks s.letters) own (tree_at [] [] s)) ∙ tree_accepted c law k known s is [] [] tree own in
    let one = tree_again s.letters 0 (subst (λ bs. list_all is_letter bs ≡ true) (sym is.letters) (letters_are c (refuted_ordinal_of c k) (root_task c k))) in
    let runs = runs_again s.letters (subst (λ (ls : List ℕ). Every IsRun (runs_in ls)) (sym is.letters) (runs_are_short c law k known)) in
    shown_by_claim c k column day s (codes "runs") (runs_text s.letters) line (runs_marks (runs_text s.letters)) reads (runs_at column day s)
    ∙ same_answer c k (claim_in (tree_data [] [] s)) s.letters (tree_marks s.letters) (runs_marks (runs_text s.letters)) s.entry one runs shown

pub written_accepted : WrittenLinesAreAccepted
written_accepted c law k known s is column day column_is day_is = record {
  tree = tree_accepted c law k known s is column day (compact_text (tree_data column day s)) (tree_document c law k known s is column day column_is day_is);
  runs = runs_accepted c law k known s is column day (compact_text (runs_data column day s)) (runs_document c law k known s is column day column_is day_is);
}

-- A line of the first form, as it is written of a settled tree, is accepted and shows the tree's entry.
use Rattle.std.proofs.Common.{◌≡◌, ℕ, ◌-◌, ◌^◌, ◌<◌, ◌≤◌, Bool, true, false, cond, List, Option, Some, None, Result, Ok, ℤ, pos, negsuc, neg_ℤ, ◌≤ℤ◌, ◌-ℤ◌, refl, sym, ap, ◌∙◌, subst, arith}
use Rattle.std.specs.List.{list_all}
use Rattle.std.specs.Prelude.{◌&&◌, codes, nat_lt, int_le, bytes_eq}
use Rattle.std.specs.Option.{option_and_then, option_map}
use Rattle.std.specs.Ordering.{int_eq}
use Rattle.std.proofs.lemmas.Bool.Decides.{Decides-int_eq, nat_tests}
use Rattle.std.proofs.lemmas.Int.{ints}
use Rattle.std.proofs.lemmas.Slice.Eq.{bytes_eq-Decides}
use Rattle.plane_edges.specs.declared.points.Point.{Point}
use Rattle.plane_edges.proofs.Truth.{and_left, and_true, le_true}
use Rattle.cell_split.specs.declared.cell.Cell.{Cell}
use Rattle.cell_split.specs.Cells.{IsCellOf}
use Rattle.cell_split.specs.Judges.{Content, IsLawful}
use Rattle.cell_split.specs.Tree.{root_task}
use Rattle.cell_split.specs.Verdicts.{is_refuted}
use Rattle.cell_split.proofs.CellLemmas.{cell_limits}
use Rattle.serde_json.specs.Data.{Data, number, string, unsigned}
use Rattle.serde_json.specs.Find.{get, of_integer}
use Rattle.serde_json.proofs.OnLiterals.{serde_json_on_literals}
use Rattle.covering.specs.declared.settled.Settled.{Settled}
use Rattle.covering.specs.Letters.{is_letter}
use Rattle.covering.specs.Lines.{IsReadAs, cell_data, line_data, members_data, point_data, tree_data}
use Rattle.covering.specs.Refuted.{rank_of}
use Rattle.covering.specs.Settles.{IsSettled, refuted_ordinal_of}
use Rattle.plain_search.proofs.OpenLeaves.{greatest_in_frame}
use Rattle.covering.proofs.Spelling.{letters_are}
use Rattle.covering_check.specs.declared.claim.Claim.{Claim}
use Rattle.covering_check.specs.declared.claim.Claim.TheVariants.{Nowhere, UpTo}
use Rattle.covering_check.specs.declared.claim.Numbers.{Numbers}
use Rattle.covering_check.specs.declared.fault.CoverFault.{CoverFault}
use Rattle.covering_check.specs.Acceptance.{claim_for, numbers_of}
use Rattle.covering_check.specs.Cells.{is_cell_of}
use Rattle.covering_check.specs.Checks.{shown_in, shown_of}
use Rattle.covering_check.specs.Gives.{◌>>=◌, or_no_line}
use Rattle.covering_check.specs.Marks.{Marks, marks_by, marks_in, tree_marks}
use Rattle.covering_check.specs.Members.{cell_in, claim_in, claim_of, is_empty, is_point, is_within, natural_to, number_of, point_in, text_at}
use Rattle.covering_check.proofs.CellTests.{cell_is}
use Rattle.covering_check.proofs.Settled.{IsClaim, claim_is, settled_is_shown}
use Rattle.covering_check.proofs.TruthLemmas.{by_claim, by_column, by_day, by_letters}
use Rattle.covering_check.proofs.Valued.{value_is}
use Rattle.covering_check.proofs.Written.{tree_again, whole_again}

-- ---- members of a line

module _ (column day : List ℕ) (point refuted : Data) (r : ℤ) (name letters : List ℕ) where
  column_at : text_at (codes "column") (members_data column day point r refuted name letters) ≡ Some column
  unfolding serde_json_on_literals
  column_at = refl

  day_at : text_at (codes "day") (members_data column day point r refuted name letters) ≡ Some day
  unfolding serde_json_on_literals
  day_at = refl

  point_at : get (codes "point") (members_data column day point r refuted name letters) ≡ Some point
  unfolding serde_json_on_literals
  point_at = refl

  rank_at : get (codes "r") (members_data column day point r refuted name letters) ≡ Some (number (of_integer r))
  unfolding serde_json_on_literals
  rank_at = refl

  refuted_at : get (codes "refuted") (members_data column day point r refuted name letters) ≡ Some refuted
  unfolding serde_json_on_literals
  refuted_at = refl

tree_at : (column day : List ℕ) (point refuted : Data) (r : ℤ) (letters : List ℕ) → get (codes "tree") (members_data column day point r refuted (codes "tree") letters) ≡ Some (string letters)
unfolding serde_json_on_literals
tree_at column day point refuted r letters = refl

no_runs : (column day : List ℕ) (point refuted : Data) (r : ℤ) (letters : List ℕ) → get (codes "runs") (members_data column day point r refuted (codes "tree") letters) ≡ None
unfolding serde_json_on_literals
no_runs column day point refuted r letters = refl

-- ---- numbers

number_again : (z : ℤ) → z ≤ℤ pos (2 ^ 62) → number_of (number (of_integer z)) ≡ Some z
number_again (pos n) h = let small : nat_lt n (2 ^ 63) ≡ true = let k : n ≤ 2 ^ 62 = omega (arith, ints) in grind (arith, nat_tests) in rw small refl
number_again (negsuc n) h = refl

natural_in : (most n : ℕ) → n ≤ most → natural_to most (pos n) ≡ Some n
natural_in most n h =
    let both : (int_le (pos 0) (pos n) && int_le (pos n) (pos most)) ≡ true = and_true (int_le (pos 0) (pos n)) (int_le (pos n) (pos most)) (le_true (pos 0) (pos n) (omega (arith, ints))) (le_true (pos n) (pos most) (omega (arith, ints))) in
    ap (λ (b : Bool). cond b (Some n) None) both

natural_again : (most n : ℕ) → n ≤ most → n ≤ 2 ^ 32 → option_and_then (natural_to most) (number_of (number (unsigned n))) ≡ Some n
natural_again most n h small =
    let fits : nat_lt n (2 ^ 63) ≡ true = grind (arith, nat_tests) in
    ap (λ (b : Bool). option_and_then (natural_to most) (cond b (Some (pos n)) None)) fits ∙ natural_in most n h

cell_again : (root : Cell) (cell : Cell) (p : Point) → IsCellOf root cell → cell.x ≤ℤ pos (2 ^ 62) → cell.y ≤ℤ pos (2 ^ 62) → cell_in (cell_data (Some (cell, p))) ≡ Some cell
unfolding cell_in
cell_again root cell p is x y =
    let f = is.formed in
    let size = natural_again 255 cell.size (let k = f.not_large in omega arith) (let k = f.not_large in omega arith) in
    let first = natural_again 4294967295 cell.first (let k = f.ordered in let m = f.in_frame in omega arith) (let k = f.ordered in let m = f.in_frame in omega arith) in
    let last = natural_again 4294967295 cell.last (let k = f.in_frame in omega arith) (let k = f.in_frame in omega arith) in
    rw (number_again cell.x x, number_again cell.y y, size, first, last) refl

point_true : (p : Point) → is_point (numbers_of p) ≡ true
point_true p =
    and_true (int_le (pos 1) p.d && int_le p.d (pos (2 ^ 30))) (is_within (pos (2 ^ 70)) p.a && is_within (pos (2 ^ 70)) p.b)
    (and_true (int_le (pos 1) p.d) (int_le p.d (pos (2 ^ 30))) (le_true (pos 1) p.d p.positive) (le_true p.d (pos (2 ^ 30)) p.short))
    (and_true (is_within (pos (2 ^ 70)) p.a) (is_within (pos (2 ^ 70)) p.b) (within p.a p.a_within.low p.a_within.high) (within p.b p.b_within.low p.b_within.high))
  where
    within : (z : ℤ) → neg_ℤ (pos (2 ^ 70)) ≤ℤ z → z ≤ℤ pos (2 ^ 70) → is_within (pos (2 ^ 70)) z ≡ true
    within z low high = and_true (int_le (neg_ℤ (pos (2 ^ 70))) z) (int_le z (pos (2 ^ 70))) (le_true (neg_ℤ (pos (2 ^ 70))) z low) (le_true z (pos (2 ^ 70)) high)

point_again : (cell : Cell) (p : Point) → point_in (point_data (Some (cell, p))) ≡ Some (numbers_of p)
unfolding point_in
point_again cell p =
    let a = whole_again p.a p.a_within.low p.a_within.high in
    let b = whole_again p.b p.b_within.low p.b_within.high in
    let d = whole_again p.d (omega (arith, ints, p.positive)) (omega (arith, ints, p.short)) in
    rw (a, b, d, point_true p) refl

-- ---- the claim

not_none : (n : ℕ) → int_eq (pos n) (neg_ℤ (pos 1)) ≡ false
not_none n = by (int_eq (pos n) (neg_ℤ (pos 1))) refl
  where
    by : (t : Bool) → int_eq (pos n) (neg_ℤ (pos 1)) ≡ t → int_eq (pos n) (neg_ℤ (pos 1)) ≡ false
    by false e = e
    by true e = let same = (Decides-int_eq (pos n) (neg_ℤ (pos 1))).0 e in absurd (omega (arith, ints, same))

claim_again : (root : Cell) (ordinal : ℕ) (r : ℤ) (cell : Cell) (p : Point) → 0 < ordinal → ordinal ≤ 721 → r ≡ pos ordinal -ℤ pos 1 → IsCellOf root cell → cell.x ≤ℤ pos (2 ^ 62) → cell.y ≤ℤ pos (2 ^ 62) → claim_of r (cell_data (Some (cell, p))) (point_data (Some (cell, p))) ≡ Some (claim_for ordinal (Some (cell, p)))
claim_again root ordinal r cell p some frame is of_root x y =
    let n = ordinal - 1 in
    let rank : r ≡ pos n = omega (arith, ints) in
    let c = cell_data (Some (cell, p)) in
    let d = point_data (Some (cell, p)) in
    let none = cond (is_empty c && is_empty d) (Some Nowhere) None in
    let rest = option_and_then (λ m. option_and_then (λ q. option_map (UpTo m q) (point_in d)) (cell_in c)) (natural_to 720 (pos n)) in
    ap (λ (z : ℤ). claim_of z c d) rank
    ∙ (ap (λ (b : Bool). cond b none rest) (not_none n)
    ∙ (ap (λ (o : Option ℕ). option_and_then (λ m. option_and_then (λ q. option_map (UpTo m q) (point_in d)) (cell_in c)) o) (natural_in 720 n (omega arith))
    ∙ (ap (λ (o : Option Cell). option_and_then (λ q. option_map (UpTo n q) (point_in d)) o) (cell_again root cell p of_root x y)
    ∙ ap (λ (o : Option Numbers). option_map (UpTo n cell) o) (point_again cell p))))

claim_cases : (c : Content) → IsLawful c → (k ordinal : ℕ) (found : Option (Cell × Point)) (r : ℤ) → r ≡ rank_of ordinal → ordinal ≤ 721 → IsClaim c k ordinal found → claim_of r (cell_data found) (point_data found) ≡ Some (claim_for ordinal found)
claim_cases c law k ordinal None r rank frame h =
    ap (λ (z : ℤ). claim_of z (cell_data None) (point_data None)) (rank ∙ ap rank_of (sym h.0))
claim_cases c law k ordinal (Some found) r rank frame h =
    let of_root = cell_is c.root found.0 (and_left (is_cell_of c.root found.0) _ h.1) in
    let limits = cell_limits found.0 (record { root = c.root; is_root = law.root; of_root = of_root }) in
    let ordinal_is = h.0 in
    claim_again c.root ordinal r found.0 found.1 (omega arith) frame rank of_root (omega (arith, ints, limits.east)) (omega (arith, ints, limits.north))

claim_read : (c : Content) → IsLawful c → (k : ℕ) → k < c.problems → (s : Settled) → IsSettled c k s → (column day name letters : List ℕ) → claim_in (line_data column day s name letters) ≡ Some (claim_for (refuted_ordinal_of c k) s.refuted)
unfolding claim_in
claim_read c law k known s is column day name letters =
    let p = point_data s.refuted in
    let q = cell_data s.refuted in
    let frame = greatest_in_frame (λ l. is_refuted l.verdict) c k law known in
    let rank : s.r ≡ rank_of (refuted_ordinal_of c k) = is.rank in
    let number = number_again s.r (omega (arith, ints, rank, frame)) in
    let claim = subst (IsClaim c k (refuted_ordinal_of c k)) (sym is.refuted) (claim_is c law k known) in
    let d = line_data column day s name letters in
    let rest = λ (r : ℤ). option_and_then (λ x. option_and_then (claim_of r x) (get (codes "point") d)) (get (codes "refuted") d) in
    ap (λ (o : Option Data). option_and_then rest (option_and_then number_of o)) (rank_at column day p q s.r name letters)
    ∙ (ap (λ (o : Option ℤ). option_and_then rest o) number
    ∙ (ap (λ (o : Option Data). option_and_then (λ x. option_and_then (claim_of s.r x) (get (codes "point") d)) o) (refuted_at column day p q s.r name letters)
    ∙ (ap (λ (o : Option Data). option_and_then (claim_of s.r q) o) (point_at column day p q s.r name letters)
    ∙ claim_cases c law k (refuted_ordinal_of c k) s.refuted s.r rank frame claim)))

marks_read : (column day : List ℕ) (s : Settled) → marks_in (tree_data column day s) ≡ Some (tree_marks s.letters)
unfolding marks_in
marks_read column day s =
    let p = point_data s.refuted in
    let q = cell_data s.refuted in
    ap (λ (o : Option Data). marks_by o (get (codes "tree") (tree_data column day s))) (no_runs column day p q s.r s.letters)
    ∙ ap (λ (o : Option Data). marks_by None o) (tree_at column day p q s.r s.letters)

same_bytes : (bs : List ℕ) → bytes_eq bs bs ≡ true
same_bytes bs = (bytes_eq-Decides bs bs).1 refl

-- ---- the line

pub tree_accepted : (c : Content) → IsLawful c → (k : ℕ) → k < c.problems → (s : Settled) → IsSettled c k s → (column day line : List ℕ) → IsReadAs (tree_data column day s) line → shown_of c k column day line ≡ Ok s.entry
tree_accepted c law k known s is column day line reads =
    let d = tree_data column day s in
    let p = point_data s.refuted in
    let q = cell_data s.refuted in
    let claim = claim_for (refuted_ordinal_of c k) s.refuted in
    let letters = tree_marks s.letters in
    let again = tree_again s.letters 0 (subst (λ bs. list_all is_letter bs ≡ true) (sym is.letters) (letters_are c (refuted_ordinal_of c k) (root_task c k))) in
    ap (λ (r : Result Data CoverFault). r >>= shown_in c k column day) (value_is line d reads.utf8 reads.value)
    ∙ (ap (λ (o : Option (List ℕ)). or_no_line o >>= by_column c k column day d) (column_at column day p q s.r (codes "tree") s.letters)
    ∙ (ap (λ (o : Option (List ℕ)). or_no_line o >>= by_day c k column day d column) (day_at column day p q s.r (codes "tree") s.letters)
    ∙ (ap (λ (o : Option Claim). or_no_line o >>= by_claim c k column day d column day) (claim_read c law k known s is column day (codes "tree") s.letters)
    ∙ (ap (λ (o : Option Marks). or_no_line o >>= by_letters c k column day column day claim) (marks_read column day s)
    ∙ (rw (same_bytes column, same_bytes day) refl ∙ settled_is_shown c law k known s is letters again.0 again.1)))))

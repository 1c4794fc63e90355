-- What a line shows of the tree of a problem: its entry, or the first fault.
use Rattle.std.specs.Prelude.{ℕ, ◌==◌, ◌&&◌, if◌then◌else◌, Bool, true, false, List, [], ◌∷◌, codes, bytes_eq, Option, None, is_none, Result, Ok, Err}
use Rattle.std.specs.Str.{is_utf8}
use Rattle.std.specs.Ordering.{int_eq}
use Rattle.cell_split.specs.declared.verdict.Entry.{Entry}
use Rattle.cell_split.specs.declared.verdict.Leaf.{Leaf}
use Rattle.cell_split.specs.declared.verdict.Verdict.{Verdict}
use Rattle.cell_split.specs.declared.verdict.Verdict.TheVariants.{Refuted}
use Rattle.cell_split.specs.Entries.{entry_by, first_open, open_ordinal}
use Rattle.cell_split.specs.Judges.{Content}
use Rattle.cell_split.specs.Tree.{root_task, task_of}
use Rattle.serde_json.specs.Data.{Data}
use Rattle.serde_json.specs.Read.{read}
use Rattle.covering_check.specs.declared.claim.Claim.{Claim}
use Rattle.covering_check.specs.declared.claim.Claim.TheVariants.{Nowhere, UpTo}
use Rattle.covering_check.specs.declared.claim.Numbers.{Numbers}
use Rattle.covering_check.specs.declared.fault.CoverFault.{CoverFault}
use Rattle.covering_check.specs.declared.fault.CoverFault.TheVariants.{Column, Long, NotFailing}
use Rattle.covering_check.specs.declared.mark.Mark.{Mark}
use Rattle.covering_check.specs.Cells.{is_cell_of}
use Rattle.covering_check.specs.Gives.{◌>>=◌, or_no_line}
use Rattle.covering_check.specs.Marks.{Marks, marks_in}
use Rattle.covering_check.specs.Members.{claim_in, text_at, ordinal_of_claim}
use Rattle.covering_check.specs.Visits.{taken, visited}

-- refuted at the place with these very numbers
abbrev pub is_refuted_at : Numbers → Verdict → Bool
is_refuted_at p (Refuted q) = int_eq p.a q.a && (int_eq p.b q.b && int_eq p.d q.d)
is_refuted_at p _ = false

-- the cell is one of the root with this last rank, and is refuted at the place
abbrev pub is_failing : Content → ℕ → Claim → Bool
is_failing c k Nowhere = true
is_failing c k (UpTo rank cell point) =
    is_cell_of c.root cell && ((cell.last == rank) && is_refuted_at point (c.verdict (task_of k cell)))

abbrev is_spent_by : List Mark → Option CoverFault → Bool
is_spent_by [] end = is_none end
is_spent_by (m ∷ marks) end = false

-- no letter is left, and no byte
abbrev pub is_spent : Marks → Bool
is_spent m = is_spent_by m.marks m.end

-- the entry of the refuted rank and the open cells above it
abbrev pub entry_over : ℕ → List Leaf → Entry
entry_over ordinal cells = entry_by ordinal (first_open (open_ordinal ordinal cells) cells)

-- what is answered when the cells have taken their letters
abbrev pub answer_by : Content → ℕ → Claim → Marks → Result Entry CoverFault
answer_by c k claim rest =
    if is_spent rest then
    (if is_failing c k claim then Ok (entry_over (ordinal_of_claim claim) (visited c (ordinal_of_claim claim) (root_task c k)))
    else Err NotFailing)
    else Err Long

-- the entry that a claim and letters show
abbrev pub shown_by : Content → ℕ → Claim → Marks → Result Entry CoverFault
shown_by c k claim letters =
    taken (ordinal_of_claim claim) (visited c (ordinal_of_claim claim) (root_task c k)) letters >>= answer_by c k claim

-- what a line is read as
unfoldable pub value_in : List ℕ → Result Data CoverFault
value_in line = if is_utf8 line then or_no_line (read line) else or_no_line None

-- the entry that a line shows for a column and a day
abbrev pub shown_in : Content → ℕ → List ℕ → List ℕ → Data → Result Entry CoverFault
shown_in c k column day d =
    or_no_line (text_at (codes "column") d) >>= λ named. or_no_line (text_at (codes "day") d) >>= λ dated.
    or_no_line (claim_in d) >>= λ claim. or_no_line (marks_in d) >>= λ letters.
    if bytes_eq named column && bytes_eq dated day then shown_by c k claim letters else Err Column

abbrev pub shown_of : Content → ℕ → List ℕ → List ℕ → List ℕ → Result Entry CoverFault
shown_of c k column day line = value_in line >>= shown_in c k column day

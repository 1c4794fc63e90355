-- What a claim and its letters show.
use Rattle.std.proofs.Common.{◌≡◌, ℕ, true, Option, None, Result, Ok, refl, sym, ap, ◌∙◌}
use Rattle.cell_split.specs.declared.verdict.Leaf.{Leaf}
use Rattle.cell_split.specs.Entries.{entry_by}
use Rattle.cell_split.specs.Judges.{Content}
use Rattle.cell_split.specs.Tree.{root_task}
use Rattle.covering_check.specs.declared.claim.Claim.{Claim}
use Rattle.covering_check.specs.declared.fault.CoverFault.{CoverFault}
use Rattle.covering_check.specs.Checks.{answer_by, is_failing, is_spent, shown_by}
use Rattle.covering_check.specs.Gives.{◌>>=◌}
use Rattle.covering_check.specs.Marks.{Marks}
use Rattle.covering_check.specs.Members.{ordinal_of_claim}
use Rattle.covering_check.specs.Visits.{latest_open, taken, visited}
use Rattle.covering_check.proofs.Latest.{latest_first}

pub shown_entry : (c : Content) (k : ℕ) (claim : Claim) (letters rest : Marks) (found : Option Leaf) → taken (ordinal_of_claim claim) (visited c (ordinal_of_claim claim) (root_task c k)) letters ≡ Ok rest → found ≡ latest_open (ordinal_of_claim claim) None (visited c (ordinal_of_claim claim) (root_task c k)) → is_spent rest ≡ true → is_failing c k claim ≡ true → shown_by c k claim letters ≡ Ok (entry_by (ordinal_of_claim claim) found)
shown_entry c k claim letters rest found walked open' spent failing =
    let ordinal = ordinal_of_claim claim in
    let cells = visited c ordinal (root_task c k) in
    let first = open' ∙ latest_first ordinal cells in
    ap (λ (r : Result Marks CoverFault). r >>= answer_by c k claim) walked ∙ (rw (spent, failing) refl ∙ ap (λ (o : Option Leaf). Ok (entry_by ordinal o)) (sym first))

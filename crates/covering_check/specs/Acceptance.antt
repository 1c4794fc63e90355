-- What is settled of a tree is shown again by its letters.
use Rattle.std.specs.Prelude.{◌≡◌, ℕ, ◌<◌, ◌-◌, List, map, Option, Some, None, Ok}
use Rattle.plane_edges.specs.declared.points.Point.{Point}
use Rattle.cell_split.specs.declared.cell.Cell.{Cell}
use Rattle.cell_split.specs.Judges.{Content, IsLawful}
use Rattle.covering.specs.declared.settled.Settled.{Settled}
use Rattle.covering.specs.Lines.{IsReadAs, tree_data}
use Rattle.covering.specs.Settles.{IsSettled, refuted_ordinal_of}
use Rattle.covering_check.specs.declared.claim.Claim.{Claim}
use Rattle.covering_check.specs.declared.claim.Claim.TheVariants.{Nowhere, UpTo}
use Rattle.covering_check.specs.declared.claim.Numbers.{Numbers}
use Rattle.covering_check.specs.Checks.{shown_by, shown_of}
use Rattle.covering_check.specs.Marks.{Marks}

abbrev pub numbers_of : Point → Numbers
numbers_of p = record { a = p.a; b = p.b; d = p.d }

-- what is said to be refuted, where this is the ordinal of the greatest refuted rank
abbrev pub claim_for : ℕ → Option (Cell × Point) → Claim
claim_for ordinal None = Nowhere
claim_for ordinal (Some found) = UpTo (ordinal - 1) found.0 (numbers_of found.1)

-- letters that are those of a settled tree show its entry
abbrev pub SettledTreesAreShown : Type 0
SettledTreesAreShown =
    (c : Content) → IsLawful c → (problem : ℕ) → problem < c.problems → (s : Settled) → IsSettled c problem s → (letters : Marks) →
    map (λ m. m.letter) letters.marks ≡ s.letters → letters.end ≡ None →
    shown_by c problem (claim_for (refuted_ordinal_of c problem) s.refuted) letters ≡ Ok s.entry

-- every text of a line of the first form is accepted and shows the tree's entry
abbrev pub TreeLinesAreAccepted : Type 0
TreeLinesAreAccepted =
    (c : Content) → IsLawful c → (problem : ℕ) → problem < c.problems → (s : Settled) → IsSettled c problem s → (column day line : List ℕ) →
    IsReadAs (tree_data column day s) line → shown_of c problem column day line ≡ Ok s.entry

-- What is written of a settled tree is accepted, in either form and in any spelling; and every tree is settled.
use Rattle.std.specs.Prelude.{◌≡◌, IsUtf8, ℕ, ◌<◌, true, List, Ok}
use Rattle.cell_split.specs.Judges.{Content, IsLawful}
use Rattle.covering.specs.declared.settled.Settled.{Settled}
use Rattle.covering.specs.Lines.{IsReadAs, line_data, runs_data, tree_data}
use Rattle.covering.specs.Settles.{IsSettled}
use Rattle.covering_check.specs.Checks.{shown_of}
use Rattle.serde_json.specs.Written.{compact_text}
use Rattle.covering_laws.specs.Feeds.{has_no_feed}

-- every text of a line of the second form is accepted and shows the tree's entry
abbrev pub RunsLinesAreAccepted : Type 0
RunsLinesAreAccepted =
    (c : Content) → IsLawful c → (problem : ℕ) → problem < c.problems → (s : Settled) → IsSettled c problem s → (column day line : List ℕ) →
    IsReadAs (runs_data column day s) line → shown_of c problem column day line ≡ Ok s.entry

-- the line of either form, as it is written
pub record AreAccepted (c : Content) (problem : ℕ) (s : Settled) (column day : List ℕ) : Type 0 where
  pub tree : shown_of c problem column day (compact_text (tree_data column day s)) ≡ Ok s.entry
  pub runs : shown_of c problem column day (compact_text (runs_data column day s)) ≡ Ok s.entry

abbrev pub WrittenLinesAreAccepted : Type 0
WrittenLinesAreAccepted =
    (c : Content) → IsLawful c → (problem : ℕ) → problem < c.problems → (s : Settled) → IsSettled c problem s → (column day : List ℕ) →
    IsUtf8 column → IsUtf8 day → AreAccepted c problem s column day

-- whatever the names and the letters are, the line feed behind the JSON is the line's only one
abbrev pub WrittenLinesAreSingle : Type 0
WrittenLinesAreSingle =
    (c : Content) → IsLawful c → (problem : ℕ) → problem < c.problems → (s : Settled) → IsSettled c problem s →
    (column day name letters : List ℕ) → has_no_feed (compact_text (line_data column day s name letters)) ≡ true

-- every problem has what is settled of its tree
abbrev pub TreesAreSettled : Type 0
TreesAreSettled = (c : Content) → IsLawful c → (problem : ℕ) → problem < c.problems → (s : Settled) × IsSettled c problem s

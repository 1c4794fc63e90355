-- Which letters are left.
use Rattle.std.specs.Prelude.{◌≡◌, ℕ, [], drop}
use Rattle.covering_check.specs.declared.fault.CoverFault.{CoverFault}
use Rattle.covering_check.specs.declared.letters.Letters.{Letters}
use Rattle.covering_check.specs.declared.mark.Form.{Form}
use Rattle.covering_check.specs.declared.mark.Form.TheVariants.{Runs, Tree}
use Rattle.covering_check.specs.Marks.{Marks, marks_from, with_marks}
use Rattle.covering_check.specs.Visits.{fault_at}

-- the most digits of a count
abbrev pub most_digits : Form → ℕ
most_digits Tree = 0
most_digits Runs = 9

-- the rest of the run in use, and then those of the text from a byte on
abbrev pub left : Letters → Marks
left l = with_marks l.run.count l.run.mark (marks_from (most_digits l.form) 0 0 l.at (drop l.at l.text.now))

-- no letter can be read, for this fault
pub record IsAtEnd (m : Marks) (e : CoverFault) : Type 0 where
  pub none : m.marks ≡ []
  pub fault : fault_at m.end ≡ e

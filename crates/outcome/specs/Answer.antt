-- What the program answers: a status, a text for the output and a line for the error stream.
use Rattle.std.specs.Prelude.{ℕ, ◌==◌, if◌then◌else◌, List, [], codes}
use Rattle.outcome.specs.declared.status.Status.{Status}
use Rattle.outcome.specs.declared.status.Status.TheVariants.{Done, Open, Usage, OrderRefused, ReadFault, WriteFault, NoMemory, CoverRefused, IcalRefused}

pub record Answer : Type 0 where
  pub status : Status
  pub text : List ℕ
  pub line : List ℕ

-- the numbers with which a run of the program ends
abbrev pub number_of : Status → ℕ
number_of Done = 0
number_of Open = 1
number_of Usage = 2
number_of OrderRefused = 3
number_of ReadFault = 4
number_of WriteFault = 5
number_of NoMemory = 6
number_of CoverRefused = 7
number_of IcalRefused = 8

-- the line on the error stream of a status that says no more than its name
unfoldable pub line_of_status : Status → List ℕ
line_of_status ReadFault = codes "read fault\n"
line_of_status WriteFault = codes "write fault\n"
line_of_status NoMemory = codes "no memory\n"
line_of_status status = []

-- the line on the error stream of a run that ended with this status
unfoldable pub line_of : Answer → Status → List ℕ
line_of a ReadFault = line_of_status ReadFault
line_of a WriteFault = line_of_status WriteFault
line_of a NoMemory = line_of_status NoMemory
line_of a status = a.line

-- ---- the two answers there are

-- words or an input that are refused
abbrev pub refusal : Status → List ℕ → Answer
refusal status line = record { status = status; text = []; line = line }

abbrev pub status_of_count : ℕ → Status
status_of_count undecided = if undecided == 0 then Done else Open

-- a whole text, with so many entries or verdicts undecided in it
abbrev pub finished : ℕ → List ℕ → Answer
finished undecided text = record { status = status_of_count undecided; text = text; line = [] }

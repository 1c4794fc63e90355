-- What is true of the tables of sets.
use Rattle.set_reader.specs.Asked.{SetAsked}
use Rattle.set_reader.specs.Rule.{IsSet}
use Rattle.set_table.specs.RightSet.{IsRightSet}

-- the table of every set is right
abbrev pub SetsAreRight : Type 0
SetsAreRight = (s : SetAsked) → IsSet s → IsRightSet s

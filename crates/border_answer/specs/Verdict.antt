-- The verdict on an order and a border, and its text.
use Rattle.std.specs.Prelude.{ℕ, List, ◌++◌, Option, Some, None, codes, decimal}
use Rattle.std.specs.Fmt.{signed_decimal}
use Rattle.border_check.specs.Settled.{unsettled}
use Rattle.border_check.specs.Squares.{root}
use Rattle.border_check.specs.declared.squares.Square.{Square}
use Rattle.border_input.specs.Requests.{Requested}
use Rattle.outcome.specs.Answer.{Answer, finished}

-- the first square in which the border isn't shown to be in the district
abbrev pub found_for : Requested → Option Square
found_for r = unsettled r.border r.order.district root

unfoldable pub verdict_text : Option Square → List ℕ
verdict_text None = codes "holds\n"
verdict_text (Some s) =
    codes "not shown cell " ++ (signed_decimal s.x ++ (codes " " ++ (signed_decimal s.y ++ (codes " size " ++ (decimal s.size ++ codes "\n")))))

-- how many squares the text names
abbrev pub named_by : Option Square → ℕ
named_by None = 0
named_by (Some s) = 1

abbrev pub verdict_answer : Requested → Answer
verdict_answer r = finished (named_by (found_for r)) (verdict_text (found_for r))

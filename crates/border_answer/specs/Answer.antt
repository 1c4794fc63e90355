-- What is answered to the words and the input.
use Rattle.std.specs.Prelude.{ℕ, List, [], ◌∷◌, Ok, Err, codes}
use Rattle.command_input.specs.Input.{read, too_long}
use Rattle.border_input.specs.Lines.{long_request, request_line}
use Rattle.border_input.specs.Taken.{Input}
use Rattle.outcome.specs.Answer.{Answer, refusal}
use Rattle.outcome.specs.declared.status.Status.TheVariants.{OrderRefused, Usage}
use Rattle.border_answer.specs.Verdict.{verdict_answer}

unfoldable pub usage_line : List ℕ
usage_line = codes "usage: timetable-border < an object with an order and a border\n"

abbrev pub answer_by : Input → Answer
answer_by too_long = refusal OrderRefused long_request
answer_by (read (Err fault)) = refusal OrderRefused (request_line fault)
answer_by (read (Ok r)) = verdict_answer r

-- there are no words
abbrev pub answer_to : List (List ℕ) → Input → Answer
answer_to [] input = answer_by input
answer_to (word ∷ words) input = refusal Usage usage_line

-- The answer to an input, and what a run by it left of its source.
use Rattle.std.specs.Prelude.{◌≡◌, ◌≢◌, ℕ, ◌≤◌, List, [], Ok, Err}
use Rattle.command_input.specs.Input.{Input, IsSpelledBy, Wanted, calendar, covering, limit_of, nothing, order, read, set, too_long}
use Rattle.command_input.specs.Refusals.{calendar_line, covering_line, long_calendar, long_covering, long_line, refusal_line}
use Rattle.ical_text.specs.declared.event.Event.{Event}
use Rattle.order_rule.specs.Asked.{Asked}
use Rattle.outcome.specs.Answer.{Answer, refusal}
use Rattle.outcome.specs.Endings.{EndsBy, status_of_ending}
use Rattle.outcome.specs.Streams.{Stream}
use Rattle.outcome.specs.declared.ending.Ending.{Ending}
use Rattle.outcome.specs.declared.status.Status.{Status}
use Rattle.outcome.specs.declared.status.Status.TheVariants.{CoverRefused, IcalRefused, NoMemory, OrderRefused, ReadFault, Usage}
use Rattle.set_reader.specs.Asked.{SetAsked}
use Rattle.source_sink.specs.Reading.{GivesWithin, IsReadToEnd}

-- to an input of another kind than is wanted, which no bytes spell
abbrev pub unanswered : Answer
unanswered = refusal Usage []

-- by the order that was read, or its first refusal
abbrev pub answer_by : (Asked → Answer) → Input → Answer
answer_by answer (order too_long) = refusal OrderRefused long_line
answer_by answer (order (read (Err fault))) = refusal OrderRefused (refusal_line fault)
answer_by answer (order (read (Ok o))) = answer o
answer_by answer input = unanswered

-- by the covering that was read, its order and the text of its other lines, or the first refusal of its first line
abbrev pub answer_shown : (Asked → List ℕ → Answer) → Input → Answer
answer_shown answer (covering too_long) = refusal CoverRefused long_covering
answer_shown answer (covering (read (Err fault))) = refusal CoverRefused (covering_line fault)
answer_shown answer (covering (read (Ok c))) = answer c.order c.lines
answer_shown answer input = unanswered

-- by the events of the calendar that was read, or its first fault
abbrev pub answer_listed : (List Event → Answer) → Input → Answer
answer_listed answer (calendar too_long) = refusal IcalRefused long_calendar
answer_listed answer (calendar (read (Err fault))) = refusal IcalRefused (calendar_line fault)
answer_listed answer (calendar (read (Ok events))) = answer events
answer_listed answer input = unanswered

-- by the set that was read, or its first refusal, which is said as that of an order
abbrev pub answer_together : (SetAsked → Answer) → Input → Answer
answer_together answer (set too_long) = refusal OrderRefused long_line
answer_together answer (set (read (Err fault))) = refusal OrderRefused (refusal_line fault)
answer_together answer (set (read (Ok s))) = answer s
answer_together answer input = unanswered

abbrev pub IsTooLong : Input → Type 0
IsTooLong (order too_long) = Unit {0}
IsTooLong (covering too_long) = Unit {0}
IsTooLong (calendar too_long) = Unit {0}
IsTooLong (set too_long) = Unit {0}
IsTooLong input = ⊥

-- The first bytes of the source were taken, at most one piece more than the limit; and all of them, but for a read fault,
-- want of memory, or an input that is too long.
pub record IsTaken (limit : ℕ) (input : Input) (status : Status) (source source' : Stream) : Type 0 where
  pub within : GivesWithin limit source.bytes source'.bytes
  pub whole : status ≢ ReadFault → status ≢ NoMemory → (IsTooLong input → ⊥) → IsReadToEnd source.bytes source'.bytes
  pub later : source.faults ≤ source'.faults

-- the source after a run that ended with this status: where nothing is wanted, it is as it was
abbrev pub Leaves : Wanted → Input → Status → Stream → Stream → Type 0
Leaves nothing input status source source' = (source' ≡ source) × (status ≢ ReadFault)
Leaves wanted input status source source' = IsTaken (limit_of wanted) input status source source'

-- a run answered an input that its source spelled
pub record Answers (wanted : Wanted) (answer : Input → Answer) (ending : Ending) (source source' out out' : Stream) : Type 0 where
  pub input : Input
  pub spelled : IsSpelledBy wanted source.bytes input
  pub ends : EndsBy (answer input) ending source source' out out'
  pub leaves : Leaves wanted input (status_of_ending ending) source source'

-- The agenda of a calendar's events.
use Rattle.std.specs.Prelude.{ℕ, List, ◌++◌, codes, decimal, flat_map, length}
use Rattle.ical_text.specs.Moments.{shown_moment}
use Rattle.ical_text.specs.declared.event.Event.{Event}
use Rattle.outcome.specs.Answer.{Answer, finished}

abbrev pub line_by : List ℕ → List ℕ → List ℕ
line_by moment summary = moment ++ (codes " " ++ (summary ++ codes "\n"))

-- when it begins, in Universal Time, and its summary as it stands
abbrev pub event_line : Event → List ℕ
event_line e = line_by (shown_moment e.start) e.summary

abbrev pub end_line : ℕ → List ℕ
end_line count = codes "end events " ++ (decimal count ++ codes "\n")

unfoldable pub agenda_text : List Event → List ℕ
agenda_text events = flat_map event_line events ++ end_line (length events)

-- nothing is undecided in it
abbrev pub agenda_answer : List Event → Answer
agenda_answer events = finished 0 (agenda_text events)

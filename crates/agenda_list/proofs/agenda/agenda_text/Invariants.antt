use Rattle.std.proofs.Common.{◌≡◌, ◌++◌, drop, flat_map, length}
use Rattle.agenda_list.specs.Agenda.{event_line}
use Rattle.agenda_list.proofs.agenda.agenda_text.Given as goal

-- the lines so far, with those of the events that are left, are all
abbrev pub invariant-loop-i : goal.invariant-loop-i
invariant-loop-i l = record {
  end : l.i-end ≡ length l.events;
  lines : l.text.items ++ flat_map event_line (drop l.i l.events) ≡ flat_map event_line l.events;
}

use Rattle.std.proofs.Common.{◌∙◌, ◌++◌, ap, arith, flat_map}
use Rattle.agenda_list.specs.Agenda.{agenda_text, end_line, event_line}
use Rattle.agenda_list.proofs.AgendaLemmas.{lines_all, lines_step}
use Rattle.agenda_list.proofs.agenda.agenda_text.Goals as goal

pub loop-i-preserved : goal.loop-i-preserved
loop-i-preserved c = record {
  end = c.count-i-end.ensures;
  lines = lines_step _ _ _ c.args.events.now c.loop-i.i c.event.result.now c.event.ensures c.in_ok-push_event.ensures c.loop-i.invariant.lines;
}

pub returns : goal.returns
unfolding agenda_text
returns c =
    let events = c.args.events.now in
    let lines = lines_all c.loop-i.text.items _ events c.loop-i.i (omega (arith, c.loop-i-test.false, c.loop-i.invariant.end, c.loop-i.auto)) c.loop-i.invariant.lines in
    c.in_ok-extend_from_slice.ensures.items ∙ ap (λ t. t ++ c.as_bytes.result.now) lines
    ∙ ap (λ t. flat_map event_line events ++ t) (c.as_bytes.ensures.value ∙ c.in_ok-end.ensures ∙ ap end_line c.count.ensures)

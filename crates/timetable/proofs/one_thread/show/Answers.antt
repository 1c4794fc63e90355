use Rattle.std.proofs.Common.{◌≡◌, ◌-◌, ℕ, List, ap, drop, length, subst, sym, take, ◌∙◌}
use Rattle.std.proofs.Math.Seq.{take-length}
use Rattle.std.proofs.lemmas.List.{length-drop}
use Rattle.order_rule.specs.Asked.{asked_of}
use Rattle.outcome.specs.Endings.{EndsBy}
use Rattle.outcome.specs.Streams.{stream}
use Rattle.shown_table.specs.Shown.{shown_answer}
use Rattle.timetable.proofs.one_thread.show.Goals as goal

-- all from a place on
rest : (text : List ℕ) (from : ℕ) → take (length text - from) (drop from text) ≡ drop from text
rest text from = ap (λ n. take n (drop from text)) (sym (length-drop from text)) ∙ take-length (drop from text)

pub returns : goal.returns
returns g c = λ source source'.
    let covering = c.args.covering in
    let lines = rest c.deref.result.now covering.from ∙ ap (drop covering.from) c.deref.ensures.value in
    subst (λ (bytes : List ℕ). EndsBy (shown_answer (asked_of covering.order) bytes) c.write_shown.result source source'
    (stream (g.K.Sink.held c.args.out.now) (g.K.Sink.faults c.args.out.now))
    (stream (g.K.Sink.held c.write_shown.new.out) (g.K.Sink.faults c.write_shown.new.out))) lines (c.write_shown.ensures.ended source source')

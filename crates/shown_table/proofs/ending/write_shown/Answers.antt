use Rattle.std.proofs.Common.{Ok, subst}
use Rattle.order_rule.specs.Asked.{asked_of}
use Rattle.outcome.specs.Streams.{stream}
use Rattle.outcome.specs.Writing.{Writes}
use Rattle.shown_table.specs.declared.bad.Shown.{Shown}
use Rattle.shown_table.specs.Came.{ShowsTable}
use Rattle.shown_table.specs.Shown.{shown_table, shown_text}
use Rattle.shown_table.proofs.EndingLemmas.{ended_bad, ended_early, ended_whole}
use Rattle.shown_table.proofs.ending.write_shown.Goals as goal

pub returns-in-Ok-Whole-clause-ended : goal.returns-in-Ok-Whole-clause-ended
returns-in-Ok-Whole-clause-ended g c = λ source source'.
    ended_whole (asked_of c.args.order) c.args.lines.now source source' (stream (g.K.Sink.held c.args.out.now) (g.K.Sink.faults c.args.out.now))
    (stream (g.K.Sink.held c.show_table.new.out) (g.K.Sink.faults c.show_table.new.out)) c.in-Ok-Whole.undecided c.ending_of.result c.ending_of.ensures
    (subst (λ (x : Shown). ShowsTable (shown_table (asked_of c.args.order) c.args.lines.now) (Ok x)) c.in-Ok-Whole.field-0-is c.in-Ok-Whole.ensures.shows)
    (subst (λ (x : Shown). Writes {X = Shown} (shown_text (asked_of c.args.order) c.args.lines.now) (Ok x) (g.K.Sink.faults c.args.out.now) (g.K.Sink.faults c.show_table.new.out) (g.K.Sink.held c.args.out.now) (g.K.Sink.held c.show_table.new.out)) c.in-Ok-Whole.field-0-is c.in-Ok-Whole.ensures.writes)

pub returns-in-Ok-Bad-clause-ended : goal.returns-in-Ok-Bad-clause-ended
returns-in-Ok-Bad-clause-ended g c = λ source source'.
    ended_bad (asked_of c.args.order) c.args.lines.now source source' (stream (g.K.Sink.held c.args.out.now) (g.K.Sink.faults c.args.out.now))
    (stream (g.K.Sink.held c.show_table.new.out) (g.K.Sink.faults c.show_table.new.out)) c.in-Ok-Bad.bad c.refused.result c.refused.ensures
    (subst (λ (x : Shown). ShowsTable (shown_table (asked_of c.args.order) c.args.lines.now) (Ok x)) c.in-Ok-Bad.field-0-is c.in-Ok-Bad.ensures.shows)
    (subst (λ (x : Shown). Writes {X = Shown} (shown_text (asked_of c.args.order) c.args.lines.now) (Ok x) (g.K.Sink.faults c.args.out.now) (g.K.Sink.faults c.show_table.new.out) (g.K.Sink.held c.args.out.now) (g.K.Sink.held c.show_table.new.out)) c.in-Ok-Bad.field-0-is c.in-Ok-Bad.ensures.writes)

pub returns-in-Err-clause-ended : goal.returns-in-Err-clause-ended
returns-in-Err-clause-ended g c = λ source source'.
    ended_early (asked_of c.args.order) c.args.lines.now source source' (stream (g.K.Sink.held c.args.out.now) (g.K.Sink.faults c.args.out.now))
    (stream (g.K.Sink.held c.show_table.new.out) (g.K.Sink.faults c.show_table.new.out)) c.in-Err.stop c.ending_of-in-Err.result c.ending_of-in-Err.ensures
    c.in-Err.ensures.writes

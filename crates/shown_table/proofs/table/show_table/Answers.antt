use Rattle.std.proofs.Common.{◌≡◌, ◌∙◌, Ok, arith, length, subst}
use Rattle.outcome.specs.Writing.{Writes}
use Rattle.order_rule.specs.Asked.{asked_of}
use Rattle.order_table.proofs.DayLemmas.{days_made}
use Rattle.shown_table.specs.declared.bad.Shown.{Shown}
use Rattle.shown_table.specs.Came.{IfWhole, ShowsDays}
use Rattle.shown_table.specs.Made.{days_in, front_in, number_behind}
use Rattle.shown_table.specs.Shown.{last_number}
use Rattle.shown_table.proofs.OrderLemmas.{shown_tables_are_right}
use Rattle.shown_table.proofs.TableLemmas.{end_stopped, front_stopped, front_written, last_is, left_over, left_written, shown_whole, stops_at, whole_written}
use Rattle.shown_table.proofs.table.show_table.Goals as goal

pub show_front-requires-clause-few : goal.show_front-requires-clause-few
show_front-requires-clause-few g c =
    let made = days_made (asked_of c.args.order) c.in-Ok.ready.days.items c.in-Ok.ensures.days c.args.order.one_each in
    let few = c.args.order.few_days in
    omega (arith, made, few)

pub returns-in_default-clause-right : goal.returns-in_default-clause-right
returns-in_default-clause-right g c = shown_tables_are_right (asked_of c.args.order) c.keeps_the_rule.ensures c.args.text.now

pub returns-in-Ok-Bad-clause-right : goal.returns-in-Ok-Bad-clause-right
returns-in-Ok-Bad-clause-right g c = shown_tables_are_right (asked_of c.args.order) c.keeps_the_rule.ensures c.args.text.now

pub returns-in-Err-clause-right : goal.returns-in-Err-clause-right
returns-in-Err-clause-right g c = shown_tables_are_right (asked_of c.args.order) c.keeps_the_rule.ensures c.args.text.now

pub returns-then-lines-gt0-clause-right : goal.returns-then-lines-gt0-clause-right
returns-then-lines-gt0-clause-right g c = shown_tables_are_right (asked_of c.args.order) c.keeps_the_rule.ensures c.args.text.now

pub returns-in-Ok-write_end-clause-right : goal.returns-in-Ok-write_end-clause-right
returns-in-Ok-write_end-clause-right g c = shown_tables_are_right (asked_of c.args.order) c.keeps_the_rule.ensures c.args.text.now

pub returns-clause-right : goal.returns-clause-right
returns-clause-right g c = shown_tables_are_right (asked_of c.args.order) c.keeps_the_rule.ensures c.args.text.now

pub returns-in-Ok-Bad-clause-shows : goal.returns-in-Ok-Bad-clause-shows
returns-in-Ok-Bad-clause-shows g c =
    let o = asked_of c.args.order in
    let r = c.in-Ok.ready in
    let text = c.args.text.now in
    let is = c.in-Ok.ensures in
    let shows = subst (λ (x : Shown). ShowsDays (days_in r.sky.sun r.sky.district r.sky.root r.days.items text) (Ok x) c.show_front.new.lines.text.now)
    c.in-Ok-Bad.field-0-is c.in-Ok-Bad.ensures.shows in
    let writes = subst (λ (x : Shown). Writes {X = Shown} (front_in r text) (Ok x) (g.K.Sink.faults c.args.out.now) (g.K.Sink.faults c.show_front.new.out)
    (g.K.Sink.held c.args.out.now) (g.K.Sink.held c.show_front.new.out)) c.in-Ok-Bad.field-0-is c.in-Ok-Bad.ensures.writes in
    stops_at o r text is c.in-Ok-Bad.bad shows

pub returns-in-Ok-Bad-clause-writes : goal.returns-in-Ok-Bad-clause-writes
returns-in-Ok-Bad-clause-writes g c =
    let o = asked_of c.args.order in
    let r = c.in-Ok.ready in
    let text = c.args.text.now in
    let is = c.in-Ok.ensures in
    let shows = subst (λ (x : Shown). ShowsDays (days_in r.sky.sun r.sky.district r.sky.root r.days.items text) (Ok x) c.show_front.new.lines.text.now)
    c.in-Ok-Bad.field-0-is c.in-Ok-Bad.ensures.shows in
    let writes = subst (λ (x : Shown). Writes {X = Shown} (front_in r text) (Ok x) (g.K.Sink.faults c.args.out.now) (g.K.Sink.faults c.show_front.new.out)
    (g.K.Sink.held c.args.out.now) (g.K.Sink.held c.show_front.new.out)) c.in-Ok-Bad.field-0-is c.in-Ok-Bad.ensures.writes in
    front_written o r text is c.in-Ok-Bad.bad shows _ _ _ _ writes

pub returns-in-Err-clause-writes : goal.returns-in-Err-clause-writes
returns-in-Err-clause-writes g c =
    let o = asked_of c.args.order in
    let r = c.in-Ok.ready in
    let text = c.args.text.now in
    let is = c.in-Ok.ensures in
    front_stopped o r text is c.in-Err.stop _ _ _ _ c.in-Err.ensures.writes

pub returns-then-lines-gt0-clause-shows : goal.returns-then-lines-gt0-clause-shows
returns-then-lines-gt0-clause-shows g c =
    let o = asked_of c.args.order in
    let r = c.in-Ok.ready in
    let text = c.args.text.now in
    let is = c.in-Ok.ensures in
    let shows = subst (λ (x : Shown). ShowsDays (days_in r.sky.sun r.sky.district r.sky.root r.days.items text) (Ok x) c.show_front.new.lines.text.now)
    c.in-Ok-Whole.field-0-is c.in-Ok-Whole.ensures.shows in
    let writes = subst (λ (x : Shown). Writes {X = Shown} (front_in r text) (Ok x) (g.K.Sink.faults c.args.out.now) (g.K.Sink.faults c.show_front.new.out)
    (g.K.Sink.held c.args.out.now) (g.K.Sink.held c.show_front.new.out)) c.in-Ok-Whole.field-0-is c.in-Ok-Whole.ensures.writes in
    let steps = subst (λ (x : Shown). IfWhole (λ u. c.show_front.new.lines.number ≡ number_behind r.days.items) (Ok x)) c.in-Ok-Whole.field-0-is
    c.in-Ok-Whole.ensures.number in
    let rest = c.show_front.new.lines.text.now in
    let many = c.bad.ensures.number in
    let number : c.bad.result.number ≡ last_number o = many ∙ last_is o r text is _ steps in
    let some : length rest ≡ 0 → ⊥ = λ e. omega (arith, e, c.if-lines-gt0.true) in
    left_over o r text is rest c.bad.result shows.0 some number c.bad.ensures.fault

pub returns-then-lines-gt0-clause-writes : goal.returns-then-lines-gt0-clause-writes
returns-then-lines-gt0-clause-writes g c =
    let o = asked_of c.args.order in
    let r = c.in-Ok.ready in
    let text = c.args.text.now in
    let is = c.in-Ok.ensures in
    let shows = subst (λ (x : Shown). ShowsDays (days_in r.sky.sun r.sky.district r.sky.root r.days.items text) (Ok x) c.show_front.new.lines.text.now)
    c.in-Ok-Whole.field-0-is c.in-Ok-Whole.ensures.shows in
    let writes = subst (λ (x : Shown). Writes {X = Shown} (front_in r text) (Ok x) (g.K.Sink.faults c.args.out.now) (g.K.Sink.faults c.show_front.new.out)
    (g.K.Sink.held c.args.out.now) (g.K.Sink.held c.show_front.new.out)) c.in-Ok-Whole.field-0-is c.in-Ok-Whole.ensures.writes in
    let steps = subst (λ (x : Shown). IfWhole (λ u. c.show_front.new.lines.number ≡ number_behind r.days.items) (Ok x)) c.in-Ok-Whole.field-0-is
    c.in-Ok-Whole.ensures.number in
    let rest = c.show_front.new.lines.text.now in
    let many = c.bad.ensures.number in
    let number : c.bad.result.number ≡ last_number o = many ∙ last_is o r text is _ steps in
    let some : length rest ≡ 0 → ⊥ = λ e. omega (arith, e, c.if-lines-gt0.true) in
    left_written o r text is rest c.bad.result shows.0 some number c.bad.ensures.fault c.in-Ok-Whole.undecided _ _ _ _ writes

pub returns-in-Ok-write_end-clause-shows : goal.returns-in-Ok-write_end-clause-shows
returns-in-Ok-write_end-clause-shows g c =
    let o = asked_of c.args.order in
    let r = c.in-Ok.ready in
    let text = c.args.text.now in
    let is = c.in-Ok.ensures in
    let shows = subst (λ (x : Shown). ShowsDays (days_in r.sky.sun r.sky.district r.sky.root r.days.items text) (Ok x) c.show_front.new.lines.text.now)
    c.in-Ok-Whole.field-0-is c.in-Ok-Whole.ensures.shows in
    let writes = subst (λ (x : Shown). Writes {X = Shown} (front_in r text) (Ok x) (g.K.Sink.faults c.args.out.now) (g.K.Sink.faults c.show_front.new.out)
    (g.K.Sink.held c.args.out.now) (g.K.Sink.held c.show_front.new.out)) c.in-Ok-Whole.field-0-is c.in-Ok-Whole.ensures.writes in
    let steps = subst (λ (x : Shown). IfWhole (λ u. c.show_front.new.lines.number ≡ number_behind r.days.items) (Ok x)) c.in-Ok-Whole.field-0-is
    c.in-Ok-Whole.ensures.number in
    let rest = c.show_front.new.lines.text.now in
    shown_whole o r text is rest c.in-Ok-Whole.undecided shows.0 (omega (arith, c.if-lines-gt0.false)) shows.1

pub returns-in-Ok-write_end-clause-writes : goal.returns-in-Ok-write_end-clause-writes
returns-in-Ok-write_end-clause-writes g c =
    let o = asked_of c.args.order in
    let r = c.in-Ok.ready in
    let text = c.args.text.now in
    let is = c.in-Ok.ensures in
    let shows = subst (λ (x : Shown). ShowsDays (days_in r.sky.sun r.sky.district r.sky.root r.days.items text) (Ok x) c.show_front.new.lines.text.now)
    c.in-Ok-Whole.field-0-is c.in-Ok-Whole.ensures.shows in
    let writes = subst (λ (x : Shown). Writes {X = Shown} (front_in r text) (Ok x) (g.K.Sink.faults c.args.out.now) (g.K.Sink.faults c.show_front.new.out)
    (g.K.Sink.held c.args.out.now) (g.K.Sink.held c.show_front.new.out)) c.in-Ok-Whole.field-0-is c.in-Ok-Whole.ensures.writes in
    let steps = subst (λ (x : Shown). IfWhole (λ u. c.show_front.new.lines.number ≡ number_behind r.days.items) (Ok x)) c.in-Ok-Whole.field-0-is
    c.in-Ok-Whole.ensures.number in
    let rest = c.show_front.new.lines.text.now in
    whole_written o r text is rest c.in-Ok-Whole.undecided shows.0 (omega (arith, c.if-lines-gt0.false)) shows.1 _ _ _ _ _ _ _ writes c.in-Ok-write_end.ensures.writes

pub returns-clause-writes : goal.returns-clause-writes
returns-clause-writes g c =
    let o = asked_of c.args.order in
    let r = c.in-Ok.ready in
    let text = c.args.text.now in
    let is = c.in-Ok.ensures in
    let shows = subst (λ (x : Shown). ShowsDays (days_in r.sky.sun r.sky.district r.sky.root r.days.items text) (Ok x) c.show_front.new.lines.text.now)
    c.in-Ok-Whole.field-0-is c.in-Ok-Whole.ensures.shows in
    let writes = subst (λ (x : Shown). Writes {X = Shown} (front_in r text) (Ok x) (g.K.Sink.faults c.args.out.now) (g.K.Sink.faults c.show_front.new.out)
    (g.K.Sink.held c.args.out.now) (g.K.Sink.held c.show_front.new.out)) c.in-Ok-Whole.field-0-is c.in-Ok-Whole.ensures.writes in
    let steps = subst (λ (x : Shown). IfWhole (λ u. c.show_front.new.lines.number ≡ number_behind r.days.items) (Ok x)) c.in-Ok-Whole.field-0-is
    c.in-Ok-Whole.ensures.number in
    let rest = c.show_front.new.lines.text.now in
    end_stopped o r text is rest c.in-Ok-Whole.undecided shows.0 (omega (arith, c.if-lines-gt0.false)) shows.1 c.in-Err-write_end.stop _ _ _ _ _ _ writes c.in-Err-write_end.ensures.writes

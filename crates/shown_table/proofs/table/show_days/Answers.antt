use Rattle.std.proofs.Common.{◌≡◌, ◌∙◌, ◌∷◌, [], ◌≤◌, ◌+◌, Err, List, Ok, arith, subst, sym}
use Rattle.cell_split.specs.declared.cell.Cell.{Cell}
use Rattle.outcome.specs.Writing.{Writes}
use Rattle.ring_survey.specs.Polygons.{Polygon}
use Rattle.order_table.specs.Made.{day_of}
use Rattle.order_table.specs.Table.{days_text}
use Rattle.method_table.specs.declared.sun.SunChoice.{SunChoice}
use Rattle.shown_table.specs.declared.bad.Shown.{Shown}
use Rattle.shown_table.specs.declared.bad.Shown.TheVariants.{Bad, Whole}
use Rattle.shown_table.specs.Came.{IfWhole, ShowsDays}
use Rattle.shown_table.specs.Shown.{days_shown, lines_of}
use Rattle.shown_table.proofs.DayLemmas.{over}
use Rattle.shown_table.proofs.ShowingLemmas.{few_lines}
use Rattle.shown_table.proofs.TableLemmas.{IsNext, bad_end, bad_written, next_count, next_end, next_number, next_written, stop_written}
use Rattle.shown_table.proofs.table.show_days.Goals as goal

pub returns-in-Ok-Bad-clause-shows : goal.returns-in-Ok-Bad-clause-shows
returns-in-Ok-Bad-clause-shows g c =
    let s = c.args.sky.now.sun in
    let p = c.args.sky.now.district in
    let r = c.args.sky.now.root in
    let days = c.args.days.now in
    let text = c.args.lines.now.text.now in
    let i = c.loop-day.day-index in
    let day = c.day-item.result in
    let number = c.loop-day.lines.number in
    let behind = c.loop-day.lines.text.now in
    let inv = c.loop-day.invariant in
    let next : IsNext s p r days text i day number behind = record { inside = omega arith; is = sym c.day-item.is; number_is = inv.number; end = inv.end } in
    let end = over (λ (s : SunChoice) (p : List Polygon) (r : Cell). ShowsDays (days_shown s p r (day_of day ∷ []) number behind) (Ok (Bad c.in-Ok-Bad.bad)) c.show_day.new.lines.text.now)
    c.loop-day.sky.sun s c.loop-day.sky.district p c.loop-day.sky.root r inv.sun inv.district inv.root
    (subst (λ (x : Shown). ShowsDays (days_shown c.loop-day.sky.sun c.loop-day.sky.district c.loop-day.sky.root (day_of day ∷ []) number behind) (Ok x) c.show_day.new.lines.text.now)
    c.in-Ok-Bad.field-0-is c.in-Ok-Bad.ensures.shows) in
    bad_end s p r days text i day number behind next c.in-Ok-Bad.bad end

pub returns-in-Ok-Bad-clause-writes : goal.returns-in-Ok-Bad-clause-writes
returns-in-Ok-Bad-clause-writes g c =
    let s = c.args.sky.now.sun in
    let p = c.args.sky.now.district in
    let r = c.args.sky.now.root in
    let days = c.args.days.now in
    let text = c.args.lines.now.text.now in
    let i = c.loop-day.day-index in
    let day = c.day-item.result in
    let number = c.loop-day.lines.number in
    let behind = c.loop-day.lines.text.now in
    let inv = c.loop-day.invariant in
    let next : IsNext s p r days text i day number behind = record { inside = omega arith; is = sym c.day-item.is; number_is = inv.number; end = inv.end } in
    let end = over (λ (s : SunChoice) (p : List Polygon) (r : Cell). ShowsDays (days_shown s p r (day_of day ∷ []) number behind) (Ok (Bad c.in-Ok-Bad.bad)) c.show_day.new.lines.text.now)
    c.loop-day.sky.sun s c.loop-day.sky.district p c.loop-day.sky.root r inv.sun inv.district inv.root
    (subst (λ (x : Shown). ShowsDays (days_shown c.loop-day.sky.sun c.loop-day.sky.district c.loop-day.sky.root (day_of day ∷ []) number behind) (Ok x) c.show_day.new.lines.text.now)
    c.in-Ok-Bad.field-0-is c.in-Ok-Bad.ensures.shows) in
    let writes = over (λ (s : SunChoice) (p : List Polygon) (r : Cell). Writes {X = Shown} (days_text (days_shown s p r (day_of day ∷ []) number behind).days) (Ok (Bad c.in-Ok-Bad.bad))
    (g.K.Sink.faults c.loop-day.out) (g.K.Sink.faults c.show_day.new.out) (g.K.Sink.held c.loop-day.out) (g.K.Sink.held c.show_day.new.out))
    c.loop-day.sky.sun s c.loop-day.sky.district p c.loop-day.sky.root r inv.sun inv.district inv.root
    (subst (λ (x : Shown). Writes {X = Shown} (days_text (days_shown c.loop-day.sky.sun c.loop-day.sky.district c.loop-day.sky.root (day_of day ∷ []) number behind).days) (Ok x)
    (g.K.Sink.faults c.loop-day.out) (g.K.Sink.faults c.show_day.new.out) (g.K.Sink.held c.loop-day.out) (g.K.Sink.held c.show_day.new.out))
    c.in-Ok-Bad.field-0-is c.in-Ok-Bad.ensures.writes) in
    bad_written s p r days text i day number behind next c.in-Ok-Bad.bad end (Ok (Bad c.in-Ok-Bad.bad)) _ _ _ _ _ _ inv.written inv.later writes

pub returns-in-Err-clause-writes : goal.returns-in-Err-clause-writes
returns-in-Err-clause-writes g c =
    let s = c.args.sky.now.sun in
    let p = c.args.sky.now.district in
    let r = c.args.sky.now.root in
    let days = c.args.days.now in
    let text = c.args.lines.now.text.now in
    let i = c.loop-day.day-index in
    let day = c.day-item.result in
    let number = c.loop-day.lines.number in
    let behind = c.loop-day.lines.text.now in
    let inv = c.loop-day.invariant in
    let next : IsNext s p r days text i day number behind = record { inside = omega arith; is = sym c.day-item.is; number_is = inv.number; end = inv.end } in
    let writes = over (λ (s : SunChoice) (p : List Polygon) (r : Cell). Writes {X = Shown} (days_text (days_shown s p r (day_of day ∷ []) number behind).days) (Err c.in-Err.stop)
    (g.K.Sink.faults c.loop-day.out) (g.K.Sink.faults c.show_day.new.out) (g.K.Sink.held c.loop-day.out) (g.K.Sink.held c.show_day.new.out))
    c.loop-day.sky.sun s c.loop-day.sky.district p c.loop-day.sky.root r inv.sun inv.district inv.root c.in-Err.ensures.writes in
    stop_written s p r days text i day number behind next c.in-Err.stop _ _ _ _ _ _ inv.written inv.later writes

pub loop-day-preserved : goal.loop-day-preserved
loop-day-preserved g c =
    let s = c.args.sky.now.sun in
    let p = c.args.sky.now.district in
    let r = c.args.sky.now.root in
    let days = c.args.days.now in
    let text = c.args.lines.now.text.now in
    let i = c.loop-day.day-index in
    let day = c.day-item.result in
    let number = c.loop-day.lines.number in
    let behind = c.loop-day.lines.text.now in
    let inv = c.loop-day.invariant in
    let next : IsNext s p r days text i day number behind = record { inside = omega arith; is = sym c.day-item.is; number_is = inv.number; end = inv.end } in
    let here = c.in-Ok-Whole.ensures in
    let end = over (λ (s : SunChoice) (p : List Polygon) (r : Cell). ShowsDays (days_shown s p r (day_of day ∷ []) number behind) (Ok (Whole c.in-Ok-Whole.count)) c.show_day.new.lines.text.now)
    c.loop-day.sky.sun s c.loop-day.sky.district p c.loop-day.sky.root r inv.sun inv.district inv.root
    (subst (λ (x : Shown). ShowsDays (days_shown c.loop-day.sky.sun c.loop-day.sky.district c.loop-day.sky.root (day_of day ∷ []) number behind) (Ok x) c.show_day.new.lines.text.now)
    c.in-Ok-Whole.field-0-is c.in-Ok-Whole.ensures.shows) in
    let writes = over (λ (s : SunChoice) (p : List Polygon) (r : Cell). Writes {X = Shown} (days_text (days_shown s p r (day_of day ∷ []) number behind).days) (Ok (Whole c.in-Ok-Whole.count))
    (g.K.Sink.faults c.loop-day.out) (g.K.Sink.faults c.show_day.new.out) (g.K.Sink.held c.loop-day.out) (g.K.Sink.held c.show_day.new.out))
    c.loop-day.sky.sun s c.loop-day.sky.district p c.loop-day.sky.root r inv.sun inv.district inv.root
    (subst (λ (x : Shown). Writes {X = Shown} (days_text (days_shown c.loop-day.sky.sun c.loop-day.sky.district c.loop-day.sky.root (day_of day ∷ []) number behind).days) (Ok x)
    (g.K.Sink.faults c.loop-day.out) (g.K.Sink.faults c.show_day.new.out) (g.K.Sink.held c.loop-day.out) (g.K.Sink.held c.show_day.new.out))
    c.in-Ok-Whole.field-0-is c.in-Ok-Whole.ensures.writes) in
    let few = subst (λ (x : Shown). IfWhole (λ u. u ≤ 7) (Ok x)) c.in-Ok-Whole.field-0-is here.few in
    let steps = subst (λ (x : Shown). IfWhole (λ u. c.show_day.new.lines.number ≡ number + lines_of (day_of day)) (Ok x)) c.in-Ok-Whole.field-0-is here.number in
    record {
      sun = here.sun ∙ inv.sun;
      district = here.district ∙ inv.district;
      root = here.root ∙ inv.root;
      number = next_number s p r days text i day number behind next c.show_day.new.lines.number steps;
      low = omega (arith, steps, inv.low, few_lines (day_of day).night);
      end = next_end s p r days text i day number behind next c.show_day.new.lines.text.now end.0;
      count = next_count s p r days text i day number behind next c.loop-day.undecided c.in-Ok-Whole.count inv.count end.1;
      few = omega (arith, few, inv.few);
      later = omega (arith, writes.later, inv.later);
      written = next_written s p r days text i day number behind next _ _ _ inv.written writes.whole;
    }

use Rattle.std.proofs.Common.{◌≡◌, ◌∙◌, ◌++◌, [], ap, append-nil, arith, refl, sym, ℕ}
use Rattle.cell_judge.specs.declared.sky.Sky.{Sky}
use Rattle.outcome.proofs.Streams.{adds_nothing, stopped, written as written_whole}
use Rattle.source_sink.proofs.Transfers.{adds_more}
use Rattle.order_covering.specs.Made.{columns_written, night_written, written}
use Rattle.order_covering.proofs.CoveringLemmas.{day_is}
use Rattle.order_covering.proofs.days.write_day.Goals as goal

pub returns-in-Err-clause-writes : goal.returns-in-Err-clause-writes
returns-in-Err-clause-writes g c =
    let sky = c.args.sky.now in
    let day = c.args.day.now in
    let lines = λ (s : Sky). columns_written c.args.form s.sun s.district s.root day in
    stopped {X = ℕ} {Y = ℕ} [] (lines c.args.judge.now.sky.now) (night_written c.args.form sky.sun sky.district sky.root day)
    (written c.args.form sky.sun sky.district sky.root day) c.in-Err.stop _ _ _ _ _ _
    (day_is c.args.form sky.sun sky.district sky.root day
    ∙ ap (λ t. t ++ night_written c.args.form sky.sun sky.district sky.root day) (ap lines (sym c.requires.own)))
    (adds_nothing (g.K.Sink.held c.args.out.now)) (omega arith) c.in-Err.ensures.writes

pub returns-in-Ok-write_night-clause-writes : goal.returns-in-Ok-write_night-clause-writes
returns-in-Ok-write_night-clause-writes g c =
    let sky = c.args.sky.now in
    let day = c.args.day.now in
    let lines = λ (s : Sky). columns_written c.args.form s.sun s.district s.root day in
    let night = night_written c.args.form sky.sun sky.district sky.root day in
    let all = written c.args.form sky.sun sky.district sky.root day in
    let same : all ≡ lines c.args.judge.now.sky.now ++ night =
    day_is c.args.form sky.sun sky.district sky.root day ∙ ap (λ t. t ++ night) (ap lines (sym c.requires.own)) in
    let first = c.in-Ok.ensures.writes in
    let last = c.in-Ok-write_night.ensures in
    written_whole all all c.in-Ok.undecided _ _ _ _ refl (omega (arith, first.later, last.later))
    (adds_more _ _ _ (lines c.args.judge.now.sky.now) night all first.whole last.whole same)

pub returns-in-Err-write_night-clause-writes : goal.returns-in-Err-write_night-clause-writes
returns-in-Err-write_night-clause-writes g c =
    let sky = c.args.sky.now in
    let day = c.args.day.now in
    let lines = λ (s : Sky). columns_written c.args.form s.sun s.district s.root day in
    let night = night_written c.args.form sky.sun sky.district sky.root day in
    stopped {X = Unit {0}} {Y = ℕ} (lines c.args.judge.now.sky.now) night [] (written c.args.form sky.sun sky.district sky.root day)
    c.in-Err-write_night.stop _ _ _ _ _ _
    (day_is c.args.form sky.sun sky.district sky.root day ∙ ap (λ t. t ++ night) (ap lines (sym c.requires.own))
    ∙ ap (λ t. lines c.args.judge.now.sky.now ++ t) (sym (append-nil night)))
    c.in-Ok.ensures.writes.whole c.in-Ok.ensures.writes.later c.in-Err-write_night.ensures

use Rattle.std.proofs.Common.{◌∙◌, ◌++◌, List, [], ap, arith, sym, ℕ}
use Rattle.outcome.proofs.Streams.{adds_nothing, stopped, then_writes}
use Rattle.order_covering.specs.Covering.{sun_word}
use Rattle.order_covering.specs.Made.{settled_line, settled_night}
use Rattle.order_covering.proofs.night.write_settled.Goals as goal

pub returns-in-Ok : goal.returns-in-Ok
returns-in-Ok g c =
    let s = c.args.settled.now in
    let line = λ (w : List ℕ). settled_line c.args.form w c.args.date.now in
    then_writes {X = Unit {0}} (line c.sun_word.result.now s.rise) (line c.sun_word-in-Ok.result.now s.set) (settled_night c.args.form c.args.date.now s)
    c.write_sun-in-Ok.result _ _ _ _ _ _
    (ap (λ (w : List ℕ). line w s.rise ++ line (sun_word 1) s.set) (sym c.sun_word.ensures)
    ∙ ap (λ (w : List ℕ). line c.sun_word.result.now s.rise ++ line w s.set) (sym c.sun_word-in-Ok.ensures))
    c.in-Ok.ensures.whole c.in-Ok.ensures.later c.write_sun-in-Ok.ensures

pub returns-in-Err : goal.returns-in-Err
returns-in-Err g c =
    let s = c.args.settled.now in
    let line = λ (w : List ℕ). settled_line c.args.form w c.args.date.now in
    stopped {X = Unit {0}} {Y = Unit {0}} [] (line c.sun_word.result.now s.rise) (line (sun_word 1) s.set) (settled_night c.args.form c.args.date.now s)
    c.in-Err.stop _ _ _ _ _ _ (ap (λ (w : List ℕ). line w s.rise ++ line (sun_word 1) s.set) (sym c.sun_word.ensures))
    (adds_nothing (g.K.Sink.held c.args.out.now)) (omega arith) c.in-Err.ensures

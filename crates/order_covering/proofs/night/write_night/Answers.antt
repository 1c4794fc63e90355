use Rattle.std.proofs.Common.{◌≡◌, ◌∙◌, List, [], None, arith, subst, sym, ℕ}
use Rattle.outcome.specs.Writing.{Writes}
use Rattle.outcome.proofs.Streams.{adds_nothing, written}
use Rattle.order_covering.proofs.CoveringLemmas.{night_is, no_night, without}
use Rattle.order_covering.specs.Made.{night_written}
use Rattle.order_covering.proofs.night.write_night.Goals as goal

pub returns-in_default : goal.returns-in_default
returns-in_default g c =
    let sky = c.args.sky.now in
    let none : c.args.day.now.night ≡ None = without c.args.day.now.night c.in_default.not-Some in
    written (night_written c.args.form sky.sun sky.district sky.root c.args.day.now) [] tt _ _ _ _
    (sym (no_night c.args.form sky.sun sky.district sky.root c.args.day.now none)) (omega arith) (adds_nothing (g.K.Sink.held c.args.out.now))

pub returns-in-Ok-settle_night : goal.returns-in-Ok-settle_night
returns-in-Ok-settle_night g c =
    let sky = c.args.sky.now in
    let P : List ℕ → Type 0 = λ text. Writes {X = Unit {0}} text c.write_settled.result (g.K.Sink.faults c.args.out.now)
    (g.K.Sink.faults c.write_settled.new.out) (g.K.Sink.held c.args.out.now) (g.K.Sink.held c.write_settled.new.out) in
    subst P (night_is c.args.form sky.sun sky.district sky.root c.args.day.now c.in-Some.night c.as_str.result.now c.in-Ok-settle_night.settled
    c.in-Some.is (c.as_str.ensures.value ∙ c.in-Ok.ensures) c.in-Ok-settle_night.ensures) c.write_settled.ensures

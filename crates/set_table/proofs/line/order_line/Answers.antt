use Rattle.std.proofs.Common.{◌≡◌, ◌∙◌, ◌-◌, ap, arith, codes, refl, length}
use Rattle.order_rule.specs.Asked.{asked_of}
use Rattle.ring_survey.specs.Extent.{positions_of}
use Rattle.year_table.specs.Dates.{date_text}
use Rattle.year_table.specs.Lines.{height_text, order_text, span_text, sun_text, words_text}
use Rattle.set_table.proofs.MadeLemmas.{between}
use Rattle.set_table.proofs.line.order_line.Goals as goal

pub returns : goal.returns
returns c =
    let o = asked_of c.args.order.now in
    let last = codes "\ndate         fajr  f.end  dhuhr    asr   magh  m.end   isha\n" in
    let all : c.len.result ≡ length c.deref.result.now = omega (arith, c.len.ensures, c.deref.ensures.len) in
    let line = between (codes "prayer timetable 1\n")
    (order_text (span_text (date_text o.from_day) o.days) (words_text o.method o.asr o.zone) (length (positions_of o.district))) (height_text o.height) (sun_text o.sun)
    last c.deref.result.now 19 (c.len.result - length last) (c.deref.ensures.value ∙ c.in_ok-head.ensures) refl (ap (λ n. n - length last) all) in
    c.in_ok-extend_from_slice.ensures.items ∙ rw c.new-line.ensures.items line

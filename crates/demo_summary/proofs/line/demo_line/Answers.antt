use Rattle.std.proofs.Common.{◌≡◌, ◌∙◌, ◌++◌, FitsSigned, refl, rules, to_z-of_z, w32}
use Rattle.order_text.specs.Line.{span_text, words_text}
use Rattle.year_table.specs.declared.zone.Zone.TheVariants.{Fixed}
use Rattle.demo_summary.proofs.LineLemmas.{body_is}
use Rattle.demo_summary.proofs.line.demo_line.Goals as goal

pub returns : goal.returns
returns c =
    let day : FitsSigned w32 c.demo_from.result = search rules in
    let minutes : FitsSigned w32 c.demo_offset.result = search rules in
    let span : c.push_span.new.line.items ≡ c.new-line.result.items ++ span_text 1 c.demo_from.result 30 = simp to_z-of_z at c.in_ok-push_span.ensures in
    let words : c.push_words.new.line.items ≡ c.push_span.new.line.items ++ words_text c.demo_method.result c.demo_asr.result (Fixed c.demo_offset.result) =
    simp to_z-of_z at c.in_ok-push_words.ensures in
    body_is c.args.number _ _ _ _ _ (span ∙ rw (c.new-line.ensures.items, c.demo_from.ensures.value) refl)
    (words ∙ rw (c.demo_method.ensures, c.demo_asr.ensures, c.demo_offset.ensures) refl) c.in_ok-append.ensures
    (c.in_ok-push_district.ensures ∙ rw (c.deref.ensures.value, c.in_ok-ring.ensures) refl) c.in_ok-append-2.ensures

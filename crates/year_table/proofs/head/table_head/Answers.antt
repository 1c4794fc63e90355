use Rattle.std.proofs.Common.{◌≡◌, ◌∙◌, ℕ, List, ap, to_z, of_z, w32}
use Rattle.std.specs.String.{string_bytes}
use Rattle.std.proofs.lemmas.Int.{to_z-of_z}
use Rattle.year_table.specs.Dates.{date_text}
use Rattle.year_table.specs.Lines.{span_text, words_text}
use Rattle.year_table.proofs.LineLemmas.{head_same, order_same}
use Rattle.year_table.proofs.head.table_head.Goals as goal

pub returns : goal.returns
returns c =
    let day : to_z w32 (of_z w32 c.args.day) ≡ c.args.day = to_z-of_z w32 c.args.day c.ranges.day in
    let bytes : c.into_bytes.result.items ≡ string_bytes c.in_ok-head.head = ap (λ v. v.items) c.into_bytes.ensures.value in
    let date : c.as_str.result.now ≡ date_text c.args.day = c.as_str.ensures.value ∙ (c.in_ok-date.ensures ∙ ap date_text day) in
    let span : c.as_str-2.result.now ≡ span_text (date_text c.args.day) c.args.days = c.as_str-2.ensures.value ∙ (c.in_ok-span.ensures ∙ ap (λ (d : List ℕ). span_text d c.args.days) date) in
    let words : c.as_str-3.result.now ≡ words_text c.args.method c.args.asr c.args.zone.now = c.as_str-3.ensures.value ∙ c.in_ok-words.ensures in
    let order = c.as_str-4.ensures.value ∙ (c.in_ok-order.ensures ∙ order_same _ _ _ _ c.args.positions span words) in
    let height = c.as_str-5.ensures.value ∙ c.in_ok-height.ensures in
    let sun = c.as_str-6.ensures.value ∙ c.in_ok-sun.ensures in
    bytes ∙ (c.in_ok-head.ensures ∙ head_same _ _ _ _ _ _ order height sun)

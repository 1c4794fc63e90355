use Rattle.std.proofs.Common.{List, ℕ, Ok, Err, ap, sym, ◌∙◌, subst, inl, inr, refl}
use Rattle.order_rule.specs.Asked.{asked_of}
use Rattle.order_rule.specs.declared.order.Order.{Order}
use Rattle.order_text.specs.LineReading.{ReadsLine}
use Rattle.command_input.specs.Input.{a_covering, covering}
use Rattle.command_input.specs.Lines.{behind_line, first_line}
use Rattle.command_input.specs.Taken.{covered_of, of_coverings}
use Rattle.command_input.proofs.InputLemmas.{read_long, read_not, read_refused, read_whole, some_covering}
use Rattle.command_input.proofs.LineLemmas.{lines_behind}
use Rattle.command_input.proofs.covering_input.covering_from.Goals as goal

pub returns-in-Err-Failed : goal.returns-in-Err-Failed
returns-in-Err-Failed g c =
    read_not a_covering covering of_coverings covered_of some_covering _ _ _ c.in-Err-Failed.ensures.some c.in-Err-Failed.ensures.later
    (inr (refl, c.in-Err-Failed.ensures.failed cc))

pub returns-in-Err-NoMemory : goal.returns-in-Err-NoMemory
returns-in-Err-NoMemory g c =
    read_not a_covering covering of_coverings covered_of some_covering _ _ _ c.in-Err-NoMemory.ensures.some c.in-Err-NoMemory.ensures.later (inl refl)

pub returns-in-Err-TooLong : goal.returns-in-Err-TooLong
returns-in-Err-TooLong g c =
    read_long a_covering covering of_coverings covered_of some_covering _ _ _ (λ bytes long. long) c.in-Err-TooLong.ensures.some
    c.in-Err-TooLong.ensures.later (c.in-Err-TooLong.ensures.long cc) c.too_long.ensures

pub returns-in-Ok-read_order_line : goal.returns-in-Ok-read_order_line
returns-in-Ok-read_order_line g c =
    let text = c.in-Ok.text.items in
    let P : List ℕ → Type 0 = λ bytes. ReadsLine bytes (Ok (asked_of c.in-Ok-read_order_line.order)) in
    let Q : Order → Type 0 = λ o. ReadsLine (first_line text) (Ok (asked_of o)) in
    let line = c.split_line.ensures.line ∙ ap first_line c.deref.ensures.value in
    let behind = c.split_line.ensures.behind ∙ ap behind_line c.deref.ensures.value in
    read_whole a_covering covering of_coverings covered_of some_covering _ _ text c.covering_of.result c.in-Ok.ensures.some
    c.in-Ok.ensures.later c.in-Ok.ensures.whole (
      c.in-Ok.ensures.within,
      (
        subst Q (sym c.covering_of.ensures.order) (subst P line c.in-Ok-read_order_line.ensures.ok),
        c.covering_of.ensures.lines ∙ lines_behind text c.split_line.result.1.now _ behind refl,
      ),
    )

pub returns-in-Err : goal.returns-in-Err
returns-in-Err g c =
    let line = c.split_line.ensures.line ∙ ap first_line c.deref.ensures.value in
    read_refused a_covering covering of_coverings covered_of some_covering _ _ c.in-Ok.text.items c.in-Err.fault c.refused.result
    c.in-Ok.ensures.some c.in-Ok.ensures.later c.in-Ok.ensures.whole
    (elim c.in-Err.ensures.fault [
      | inl memory ↦ inl memory
      | inr reads ↦
          inr (let P : List ℕ → Type 0 = λ bytes. ReadsLine bytes (Err c.in-Err.fault) in
          (c.in-Ok.ensures.within, subst P line reads))
    ])
    c.refused.ensures

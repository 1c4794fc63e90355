use Rattle.std.proofs.Common.{List, ℕ, Ok, Err, subst, inl, inr, refl}
use Rattle.order_reader.specs.Reads.{ReadsOrder}
use Rattle.order_rule.specs.Asked.{asked_of}
use Rattle.command_input.specs.Input.{an_order, order}
use Rattle.command_input.specs.Taken.{of_orders}
use Rattle.command_input.proofs.InputLemmas.{read_long, read_not, read_refused, read_whole, some_order}
use Rattle.command_input.proofs.order.order_from.Goals as goal

pub returns-in-Err-Failed : goal.returns-in-Err-Failed
returns-in-Err-Failed g c =
    read_not an_order order of_orders asked_of some_order _ _ _ c.in-Err-Failed.ensures.some c.in-Err-Failed.ensures.later
    (inr (refl, c.in-Err-Failed.ensures.failed cc))

pub returns-in-Err-NoMemory : goal.returns-in-Err-NoMemory
returns-in-Err-NoMemory g c =
    read_not an_order order of_orders asked_of some_order _ _ _ c.in-Err-NoMemory.ensures.some c.in-Err-NoMemory.ensures.later (inl refl)

pub returns-in-Err-TooLong : goal.returns-in-Err-TooLong
returns-in-Err-TooLong g c =
    read_long an_order order of_orders asked_of some_order _ _ _ (λ bytes long. long) c.in-Err-TooLong.ensures.some c.in-Err-TooLong.ensures.later
    (c.in-Err-TooLong.ensures.long cc) c.too_long.ensures

pub returns-in-Ok-read_order : goal.returns-in-Ok-read_order
returns-in-Ok-read_order g c =
    let P : List ℕ → Type 0 = λ bytes. ReadsOrder bytes (Ok (asked_of c.in-Ok-read_order.order)) in
    read_whole an_order order of_orders asked_of some_order _ _ c.in-Ok.bytes.items c.in-Ok-read_order.order c.in-Ok.ensures.some
    c.in-Ok.ensures.later c.in-Ok.ensures.whole (c.in-Ok.ensures.within, subst P c.deref.ensures.value c.in-Ok-read_order.ensures.ok)

pub returns : goal.returns
returns g c =
    read_refused an_order order of_orders asked_of some_order _ _ c.in-Ok.bytes.items c.in-Err.fault c.refused.result c.in-Ok.ensures.some
    c.in-Ok.ensures.later c.in-Ok.ensures.whole
    (elim c.in-Err.ensures.fault [
      | inl memory ↦ inl memory
      | inr reads ↦
          inr (let P : List ℕ → Type 0 = λ bytes. ReadsOrder bytes (Err c.in-Err.fault) in
          (c.in-Ok.ensures.within, subst P c.deref.ensures.value reads))
    ])
    c.refused.ensures

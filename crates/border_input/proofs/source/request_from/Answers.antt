use Rattle.std.proofs.Common.{List, ℕ, Ok, Err, subst, inl, inr, refl}
use Rattle.border_input.specs.Reads.{ReadsRequest}
use Rattle.border_input.specs.Requests.{requested_of}
use Rattle.border_input.proofs.TakenLemmas.{read_long, read_not, read_refused, read_whole}
use Rattle.border_input.proofs.source.request_from.Goals as goal

pub returns-in-Err-Failed : goal.returns-in-Err-Failed
returns-in-Err-Failed g c =
    read_not _ _ _ c.in-Err-Failed.ensures.some c.in-Err-Failed.ensures.later (inr (refl, c.in-Err-Failed.ensures.failed cc))

pub returns-in-Err-NoMemory : goal.returns-in-Err-NoMemory
returns-in-Err-NoMemory g c = read_not _ _ _ c.in-Err-NoMemory.ensures.some c.in-Err-NoMemory.ensures.later (inl refl)

pub returns-in-Err-TooLong : goal.returns-in-Err-TooLong
returns-in-Err-TooLong g c =
    read_long _ _ _ c.in-Err-TooLong.ensures.some c.in-Err-TooLong.ensures.later (c.in-Err-TooLong.ensures.long cc) c.too_long.ensures

pub returns-in-Ok-read_request : goal.returns-in-Ok-read_request
returns-in-Ok-read_request g c =
    let P : List ℕ → Type 0 = λ bytes. ReadsRequest bytes (Ok (requested_of c.in-Ok-read_request.request)) in
    read_whole _ _ c.in-Ok.bytes.items c.in-Ok-read_request.request c.in-Ok.ensures.some
    c.in-Ok.ensures.later c.in-Ok.ensures.whole (c.in-Ok.ensures.within, subst P c.deref.ensures.value c.in-Ok-read_request.ensures.ok)

pub returns : goal.returns
returns g c =
    read_refused _ _ c.in-Ok.bytes.items c.in-Err.fault c.refused.result c.in-Ok.ensures.some
    c.in-Ok.ensures.later c.in-Ok.ensures.whole
    (elim c.in-Err.ensures.fault [
      | inl memory ↦ inl memory
      | inr reads ↦
          inr (let P : List ℕ → Type 0 = λ bytes. ReadsRequest bytes (Err c.in-Err.fault) in
          (c.in-Ok.ensures.within, subst P c.deref.ensures.value reads))
    ])
    c.refused.ensures

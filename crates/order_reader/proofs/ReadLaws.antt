-- What reading answers, from what reading JSON answers.
use Rattle.std.proofs.Common.{◌≡◌, ◌∙◌, ap, sym, refl, ℕ, List, ◌⊎◌, inl, inr, Result, Ok, Err, IfOk, IfErr}
use Rattle.exact_json.proofs.Readings.{every_text_is_read, readings_agree}
use Rattle.exact_json.specs.Grammar.{IsJsonWithin}
use Rattle.exact_json.specs.Read.{IsFaultOf}
use Rattle.json_value.specs.Tree.{Tree}
use Rattle.exact_json.specs.declared.fault.JsonFault.{JsonFault}
use Rattle.exact_json.specs.declared.fault.JsonFault.TheVariants as json
use Rattle.order_member.specs.Gives.{Gives}
use Rattle.order_reader.specs.Reads.{EveryTextIsReadOrRefused, OrderReadingsAgree, ReadsBy, answer_by, json_refusal}
use Rattle.order_reader.specs.Reading.{order_in}
use Rattle.order_member.specs.declared.fault.OrderFault.{OrderFault}
use Rattle.order_member.specs.declared.fault.OrderFault.TheVariants.{NoMemory}

module _ {A : Type 0} (reading : Tree → Result A OrderFault) (bytes : List ℕ) where
  -- of a text with a tree
  pub order_is : {X : Type 0} (view : X → A) (t : Tree) (r : Result X OrderFault) → IsJsonWithin t bytes → Gives view r (reading t) → IfOk r (λ o. ReadsBy reading bytes (Ok (view o)))
  order_is view t (Ok o) json given = (Ok t, json, sym given)
  order_is view t (Err fault) json given = tt

  pub refusal_is : {X : Type 0} (view : X → A) (t : Tree) (r : Result X OrderFault) → IsJsonWithin t bytes → Gives view r (reading t) → IfErr r (λ fault. (fault ≡ NoMemory) ⊎ ReadsBy reading bytes (Err fault))
  refusal_is view t (Ok o) json given = tt
  refusal_is view t (Err fault) json (inl none) = inl none
  refusal_is view t (Err fault) json (inr given) = inr (Ok t, json, sym given)

  -- of other bytes
  pub json_refusal_is : (fault : JsonFault) → IsFaultOf bytes fault → (json_refusal fault ≡ NoMemory) ⊎ ReadsBy reading bytes (Err (json_refusal fault))
  json_refusal_is (json.NotJson place) h = inr (Err (json.NotJson place), h, refl)
  json_refusal_is (json.TooDeep place) h = inr (Err (json.TooDeep place), h, refl)
  json_refusal_is (json.LongNumber place) h = inr (Err (json.LongNumber place), h, refl)
  json_refusal_is json.NoMemory h = inl refl

  -- one answer
  pub answers_agree : (x y : Result A OrderFault) → ReadsBy reading bytes x → ReadsBy reading bytes y → x ≡ y
  answers_agree x y (r, is, e) (s, too, f) = e ∙ (ap (answer_by reading) (readings_agree bytes r s is too) ∙ sym f)

  pub some_answer : (x : Result A OrderFault) × ReadsBy reading bytes x
  some_answer = (let r = every_text_is_read bytes in (answer_by reading r.0, (r.0, r.1, refl)))

pub order_readings_agree : OrderReadingsAgree
order_readings_agree bytes x y = answers_agree order_in bytes x y

pub every_text_is_read_or_refused : EveryTextIsReadOrRefused
every_text_is_read_or_refused bytes = some_answer order_in bytes

-- What reading answers, from what reading JSON answers.
use Rattle.std.proofs.Common.{◌≡◌, ◌∙◌, ap, sym, refl, ℕ, List, ◌⊎◌, inl, inr, Result, Ok, Err, IfOk, IfErr}
use Rattle.exact_json.proofs.Readings.{every_text_is_read, readings_agree}
use Rattle.exact_json.specs.Grammar.{IsJsonWithin}
use Rattle.exact_json.specs.Read.{IsFaultOf}
use Rattle.json_value.specs.Tree.{Tree}
use Rattle.exact_json.specs.declared.fault.JsonFault.{JsonFault}
use Rattle.exact_json.specs.declared.fault.JsonFault.TheVariants as json
use Rattle.border_input.specs.Gives.{Gives}
use Rattle.std.specs.Prelude.{◌≢◌}
use Rattle.order_member.specs.declared.fault.OrderFault.{OrderFault}
use Rattle.order_member.specs.declared.fault.OrderFault.TheVariants.{NoMemory as OrderNoMemory}
use Rattle.border_input.specs.Reading.{of_order, request_in}
use Rattle.border_input.specs.Reads.{EveryTextIsARequestOrRefused, RequestReadingsAgree, ReadsRequest, answer_by, json_refusal}
use Rattle.border_input.specs.Requests.{requested_of}
use Rattle.border_input.specs.declared.fault.RequestFault.{RequestFault}
use Rattle.border_input.specs.declared.fault.RequestFault.TheVariants.{Order, NoMemory}
use Rattle.border_input.specs.declared.request.Request.{Request}

-- of a text with a tree
pub request_is : (bytes : List ℕ) (t : Tree) (r : Result Request RequestFault) → IsJsonWithin t bytes → Gives requested_of r (request_in t)
    → IfOk r (λ x. ReadsRequest bytes (Ok (requested_of x)))
request_is bytes t (Ok x) json given = (Ok t, json, sym given)
request_is bytes t (Err fault) json given = tt

pub refusal_is : (bytes : List ℕ) (t : Tree) (r : Result Request RequestFault) → IsJsonWithin t bytes → Gives requested_of r (request_in t)
    → IfErr r (λ fault. (fault ≡ NoMemory) ⊎ ReadsRequest bytes (Err fault))
refusal_is bytes t (Ok x) json given = tt
refusal_is bytes t (Err fault) json (inl none) = inl none
refusal_is bytes t (Err fault) json (inr given) = inr (Ok t, json, sym given)

-- of other bytes
pub json_refusal_is : (bytes : List ℕ) (fault : JsonFault) → IsFaultOf bytes fault
    → (json_refusal fault ≡ NoMemory) ⊎ ReadsRequest bytes (Err (json_refusal fault))
json_refusal_is bytes (json.NotJson place) h = inr (Err (json.NotJson place), h, refl)
json_refusal_is bytes (json.TooDeep place) h = inr (Err (json.TooDeep place), h, refl)
json_refusal_is bytes (json.LongNumber place) h = inr (Err (json.LongNumber place), h, refl)
json_refusal_is bytes json.NoMemory h = inl refl

pub request_readings_agree : RequestReadingsAgree
request_readings_agree bytes x y (r, is, e) (s, too, f) = e ∙ (ap answer_by (readings_agree bytes r s is too) ∙ sym f)

pub every_text_is_a_request_or_refused : EveryTextIsARequestOrRefused
every_text_is_a_request_or_refused bytes = let r = every_text_is_read bytes in (answer_by r.0, (r.0, r.1, refl))

-- a refusal of the order is one of both
pub order_refused : {A : Type 0} (r : RequestFault) (fault : OrderFault) (x : Result A OrderFault)
    → (r ≡ NoMemory) ⊎ ((fault ≢ OrderNoMemory) × (r ≡ Order fault)) → (fault ≡ OrderNoMemory) ⊎ (x ≡ Err fault)
    → (r ≡ NoMemory) ⊎ (of_order x ≡ Err r)
order_refused r fault x (inl memory) given = inl memory
order_refused r fault x (inr (other, is)) (inl memory) = absurd (other memory)
order_refused r fault x (inr (other, is)) (inr refused) = inr (ap of_order refused ∙ ap Err (sym is))

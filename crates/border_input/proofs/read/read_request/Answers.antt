use Rattle.std.proofs.Common.{subst, sym, ◌≡◌, ◌⊎◌, Err}
use Rattle.json_value.specs.View.{tree_of}
use Rattle.border_input.proofs.ReadLemmas.{json_refusal_is, request_is, refusal_is}
use Rattle.border_input.specs.Reads.{ReadsRequest}
use Rattle.border_input.specs.declared.fault.RequestFault.TheVariants.{NoMemory}
use Rattle.border_input.proofs.read.read_request.Goals as goal

pub returns-in-Ok-clause-ok : goal.returns-in-Ok-clause-ok
returns-in-Ok-clause-ok c = request_is c.args.bytes.now (tree_of c.in-Ok.value) c.request_in.result c.in-Ok.ensures.ok c.request_in.ensures

pub returns-in-Ok-clause-fault : goal.returns-in-Ok-clause-fault
returns-in-Ok-clause-fault c = refusal_is c.args.bytes.now (tree_of c.in-Ok.value) c.request_in.result c.in-Ok.ensures.ok c.request_in.ensures

pub returns-in-Err : goal.returns-in-Err
returns-in-Err c =
    record {
      ok = tt;
      fault =
          subst (λ fault. (fault ≡ NoMemory) ⊎ ReadsRequest c.args.bytes.now (Err fault)) (sym c.json_refusal.ensures)
          (json_refusal_is c.args.bytes.now c.in-Err.fault c.in-Err.ensures.fault);
    }

use Rattle.std.proofs.Common.{subst, sym, ◌≡◌, ◌⊎◌, Err}
use Rattle.json_value.specs.View.{tree_of}
use Rattle.order_reader.proofs.ReadLaws.{json_refusal_is, order_is, refusal_is}
use Rattle.order_member.specs.declared.fault.OrderFault.TheVariants.{NoMemory}
use Rattle.set_reader.proofs.read.read_set.Goals as goal
use Rattle.set_reader.specs.Asked.{asked_of}
use Rattle.set_reader.specs.Reading.{set_in}
use Rattle.set_reader.specs.Reads.{ReadsSet}

pub returns-in-Ok-clause-ok : goal.returns-in-Ok-clause-ok
returns-in-Ok-clause-ok c = order_is set_in c.args.bytes.now asked_of (tree_of c.in-Ok.value) c.set_in.result c.in-Ok.ensures.ok c.set_in.ensures

pub returns-in-Ok-clause-fault : goal.returns-in-Ok-clause-fault
returns-in-Ok-clause-fault c = refusal_is set_in c.args.bytes.now asked_of (tree_of c.in-Ok.value) c.set_in.result c.in-Ok.ensures.ok c.set_in.ensures

pub returns-in-Err : goal.returns-in-Err
returns-in-Err c =
    record {
      ok = tt;
      fault =
          subst (λ fault. (fault ≡ NoMemory) ⊎ ReadsSet c.args.bytes.now (Err fault)) (sym c.json_refusal.ensures)
          (json_refusal_is set_in c.args.bytes.now c.in-Err.fault c.in-Err.ensures.fault);
    }

use Rattle.std.proofs.Common.{subst, sym, ◌≡◌, ◌⊎◌, Err}
use Rattle.json_value.specs.View.{tree_of}
use Rattle.order_reader.proofs.ReadLaws.{json_refusal_is, order_is, refusal_is}
use Rattle.order_reader.specs.Reading.{order_in}
use Rattle.order_reader.specs.Reads.{ReadsOrder}
use Rattle.order_member.specs.declared.fault.OrderFault.TheVariants.{NoMemory}
use Rattle.order_reader.proofs.read.read_order.Goals as goal
use Rattle.order_rule.specs.Asked.{asked_of}

pub returns-in-Ok-clause-ok : goal.returns-in-Ok-clause-ok
returns-in-Ok-clause-ok c = order_is order_in c.args.bytes.now asked_of (tree_of c.in-Ok.value) c.order_in.result c.in-Ok.ensures.ok c.order_in.ensures

pub returns-in-Ok-clause-fault : goal.returns-in-Ok-clause-fault
returns-in-Ok-clause-fault c = refusal_is order_in c.args.bytes.now asked_of (tree_of c.in-Ok.value) c.order_in.result c.in-Ok.ensures.ok c.order_in.ensures

pub returns-in-Err : goal.returns-in-Err
returns-in-Err c =
    record {
      ok = tt;
      fault =
          subst (λ fault. (fault ≡ NoMemory) ⊎ ReadsOrder c.args.bytes.now (Err fault)) (sym c.json_refusal.ensures)
          (json_refusal_is order_in c.args.bytes.now c.in-Err.fault c.in-Err.ensures.fault);
    }

use Rattle.std.proofs.Common.{FitsSigned, rules, to_z-of_z, w32}
use Rattle.order_text.proofs.line.push_front.Goals as goal

pub returns : goal.returns
returns c =
    let fits : FitsSigned w32 c.args.o.now.from_day = search rules in
    simp to_z-of_z at c.push_span.ensures

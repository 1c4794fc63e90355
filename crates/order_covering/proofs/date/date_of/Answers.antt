use Rattle.std.proofs.Common.{FitsSigned, IsUtf8, rules, subst, sym, w32}
use Rattle.std.proofs.lemmas.Int.{to_z-of_z}
use Rattle.order_covering.proofs.DateLemmas.{date_utf8, failed_none}
use Rattle.order_covering.proofs.date.date_of.Goals as goal

pub unreachable-requires : goal.unreachable-requires
unreachable-requires c =
    let number : FitsSigned w32 c.args.day.now.number = search rules in
    failed_none _ _ c.in-Err.is
    (c.from_utf8.ensures.succeeds (subst IsUtf8 (sym (simp to_z-of_z at c.in_ok-date_text.ensures)) (date_utf8 c.args.day.now)))

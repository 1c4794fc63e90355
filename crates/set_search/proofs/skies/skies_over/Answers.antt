use Rattle.std.proofs.Common.{All, subst}
use Rattle.std.proofs.lemmas.List.Elements.{All-head, All-tail}
use Rattle.cell_judge.specs.Limits.{IsOver}
use Rattle.set_search.proofs.ScopeLemmas.{skies_more}
use Rattle.set_search.proofs.skies.skies_over.Goals as goal

pub sky_over-requires-clause-over : goal.sky_over-requires-clause-over
sky_over-requires-clause-over c =
    All-head (IsOver c.args.root) c.in-Some.part c.take_first.new.self (subst (All (IsOver c.args.root)) c.in-Some.ensures c.parts.invariant.over)

pub parts-preserved : goal.parts-preserved
parts-preserved c = record {
  over = All-tail (IsOver c.args.root) c.in-Some.part c.take_first.new.self (subst (All (IsOver c.args.root)) c.in-Some.ensures c.parts.invariant.over);
  skies = rw c.in_ok-push.ensures.items
      (skies_more c.args.sun c.args.root c.parts.skies.items c.in_ok-sky_over.field-0 c.in-Some.part c.parts.parts c.take_first.new.self _ c.in-Some.ensures
      c.in_ok-sky_over.ensures c.parts.invariant.skies);
}

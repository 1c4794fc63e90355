use Rattle.std.proofs.Common.{◌≡◌, ◌∷◌, ap, length, arith}
use Rattle.std.specs.Vec.Iter.{into_iter_items}
use Rattle.std.proofs.lemmas.List.Elements.{All-rest}
use Rattle.search_crew.specs.Crews.{owner_logs}
use Rattle.task_deque.specs.Ends.{owner_log}
use Rattle.task_deque.specs.Rule.{all_parts}
use Rattle.search_crew.proofs.ending.close_all.Goals as goal

pub loop-owner-preserved : goal.loop-owner-preserved
loop-owner-preserved g c =
    let at = c.loop-owner in
    let o = c.in-Some.owner in
    let rest = into_iter_items c.next.new.self in
    let steps : into_iter_items at.owner-iterator ≡ o ∷ rest = c.in-Some.ensures.steps.0 in
    record {
      counted = let before = at.invariant.counted in let gone = c.in-Some.ensures.steps.1 in let short = ap length steps in omega arith;
      parts = All-rest (λ o. (owner_log o).parts ≡ all_parts) o rest (into_iter_items at.owner-iterator) steps at.invariant.parts;
      seat = c.in_ok-joined.ensures.seat;
      owes = λ given h. c.in_ok-joined.ensures.owes (owner_logs rest) given (rw steps at (at.invariant.owes given h));
    }

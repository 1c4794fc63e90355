use Rattle.std.proofs.Common.{◌+◌, arith}
use Rattle.cell_judge.specs.Tiles.{AreNamedInRows}
use Rattle.cell_judge.proofs.EachLemmas.{each_more}
use Rattle.cell_judge.proofs.tiles.large_places.Goals as goal

pub loop-size-preserved : goal.loop-size-preserved
loop-size-preserved c =
    let before = c.loop-size.invariant in
    record {
      counted = omega (arith, before.counted, c.in_ok-push.ensures.len);
      named = rw c.in_ok-push.ensures.items
          (each_more (λ n. AreNamedInRows c.args.district.now c.args.root.now (c.least_size-least.result + n)) c.loop-size.places.items
          c.in_ok-places_of_size.field-0 before.named
          (rw before.counted c.in_ok-places_of_size.ensures));
    }

use Rattle.std.proofs.Common.{arith}
use Rattle.cell_judge.specs.Tiles.{AreNamedInRow}
use Rattle.cell_judge.proofs.EachLemmas.{each_more}
use Rattle.cell_judge.proofs.tiles.places_of_size.Goals as goal

pub loop-row-preserved : goal.loop-row-preserved
loop-row-preserved c =
    let before = c.loop-row.invariant in
    record {
      end = before.end;
      counted = omega (arith, before.counted, c.in_ok-push.ensures.len);
      named = rw c.in_ok-push.ensures.items
          (each_more (AreNamedInRow c.args.district.now c.args.root.now c.args.size) c.loop-row.rows.items c.in_ok-places_in_row.field-0 before.named
          (rw before.counted c.in_ok-places_in_row.ensures));
    }

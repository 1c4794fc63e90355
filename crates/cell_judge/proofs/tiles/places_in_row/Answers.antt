use Rattle.std.proofs.Common.{arith}
use Rattle.cell_judge.specs.Tiles.{IsNamedFor}
use Rattle.cell_judge.proofs.StripLemmas.{box_is}
use Rattle.cell_judge.proofs.EachLemmas.{each_more}
use Rattle.cell_judge.proofs.TableLemmas.{named_for}
use Rattle.cell_judge.proofs.tiles.places_in_row.Goals as goal

pub loop-column-preserved : goal.loop-column-preserved
loop-column-preserved c =
    let r = c.rect_of.ensures in
    let before = c.loop-column.invariant in
    record {
      end = before.end;
      counted = omega (arith, before.counted, c.in_ok-push.ensures.len);
      named = rw c.in_ok-push.ensures.items
          (each_more (IsNamedFor c.args.district.now c.args.root.now c.args.size c.args.row) c.loop-column.places.items c.meets.result before.named
          (named_for c.args.district.now c.args.root.now c.args.size c.args.row c.loop-column.column _ _ _ c.tile_at.result _ c.meets.result
          (box_is c.rect_of.result c.tile_at.result r.west r.east r.south r.north) c.tile_at.ensures.value
          c.distance_of-east.ensures.value c.distance_of-north.ensures.value before.counted
          (c.meets.ensures c.args.district.now c.in_ok-band.ensures.band)));
    }

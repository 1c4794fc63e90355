use Rattle.json_value.specs.View.{tree_of}
use Rattle.json_value.proofs.Oks.{map_at}
use Rattle.json_value.proofs.place.item_at.Goals as goal

pub returns : goal.returns
returns c = map_at tree_of c.args.items.now c.args.i c.index-items-i.result c.requires c.index-items-i.is

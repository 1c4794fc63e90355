use Rattle.json_value.specs.View.{entry_of}
use Rattle.json_value.proofs.Oks.{map_at}
use Rattle.json_value.proofs.place.member_at.Goals as goal

pub returns : goal.returns
returns c = map_at entry_of c.args.members.now c.args.i c.index-members-i.result c.requires c.index-members-i.is

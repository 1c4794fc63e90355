use Rattle.json_value.specs.Seen.{frames_of}
use Rattle.json_value.proofs.machine.after_ended.Goals as goal

pub returns-in-Done : goal.returns-in-Done
returns-in-Done c = rw c.in-Done.is (λ n s. c.after_done.ensures n s (frames_of c.args.frames.now.items))

pub returns-in-AfterItem : goal.returns-in-AfterItem
returns-in-AfterItem c = rw c.in-AfterItem.is c.after_item.ensures

pub returns-in-AfterMember : goal.returns-in-AfterMember
returns-in-AfterMember c = rw c.in-AfterMember.is c.after_member.ensures

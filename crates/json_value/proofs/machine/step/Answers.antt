use Rattle.std.proofs.Common.{◌≡◌, ℕ, List, Option, map, option_map, string_bytes}
use Rattle.json_value.specs.Machine as spec
use Rattle.json_value.specs.Seen.{frames_of, state_of, literal_of}
use Rattle.json_value.specs.View.{tree_of, entry_of}
use Rattle.json_value.specs.declared.machine.Next.{Next}
use Rattle.json_value.proofs.Oks.{if_ok_at}
use Rattle.json_value.proofs.machine.step.Goals as goal

pub returns-in-Colon : goal.returns-in-Colon
returns-in-Colon c =
    rw c.in-Colon.is
    (if_ok_at c.after_name.result
    (λ (n : spec.Numeral) (s : List ℕ) (r : Option Next). option_map (state_of n s (frames_of c.after_name.new.frames.items)) r ≡ spec.step (spec.colon (map entry_of c.in-Colon.members) c.in-Colon.name (frames_of c.args.machine.now.frames.items)) c.args.b)
    c.args.machine.now.numeral (string_bytes c.args.machine.now.text) c.after_name.ensures)

pub returns-in-AfterItem : goal.returns-in-AfterItem
returns-in-AfterItem c =
    rw c.in-AfterItem.is
    (if_ok_at c.after_item.result
    (λ (n : spec.Numeral) (s : List ℕ) (r : Option Next). option_map (state_of n s (frames_of c.after_item.new.frames.items)) r ≡ spec.step (spec.after_item (map tree_of c.in-AfterItem.items) (frames_of c.args.machine.now.frames.items)) c.args.b)
    c.args.machine.now.numeral (string_bytes c.args.machine.now.text) c.after_item.ensures)

pub returns-in-AfterMember : goal.returns-in-AfterMember
returns-in-AfterMember c =
    rw c.in-AfterMember.is
    (if_ok_at c.after_member.result
    (λ (n : spec.Numeral) (s : List ℕ) (r : Option Next). option_map (state_of n s (frames_of c.after_member.new.frames.items)) r ≡ spec.step (spec.after_member (map entry_of c.in-AfterMember.members) (frames_of c.args.machine.now.frames.items)) c.args.b)
    c.args.machine.now.numeral (string_bytes c.args.machine.now.text) c.after_member.ensures)

pub returns-in-Word : goal.returns-in-Word
returns-in-Word c =
    rw c.in-Word.is
    (if_ok_at c.after_word.result
    (λ (n : spec.Numeral) (s : List ℕ) (r : Option Next). option_map (state_of n s (frames_of c.after_word.new.frames.items)) r ≡ spec.step (spec.word c.in-Word.word.now (literal_of c.in-Word.literal) (frames_of c.args.machine.now.frames.items)) c.args.b)
    c.args.machine.now.numeral (string_bytes c.args.machine.now.text) c.after_word.ensures)

pub returns-in-Done : goal.returns-in-Done
returns-in-Done c = rw c.in-Done.is (c.after_done.ensures c.args.machine.now.numeral (string_bytes c.args.machine.now.text) (frames_of c.args.machine.now.frames.items))

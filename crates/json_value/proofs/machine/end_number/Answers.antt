use Rattle.std.proofs.Common.{◌≡◌, ℕ, List, Option, option_map, string_bytes, ap, ◌∙◌}
use Rattle.json_value.specs.Machine as spec
use Rattle.json_value.specs.Seen.{frames_of, state_of}
use Rattle.json_value.specs.Tree.{number}
use Rattle.json_value.specs.View.{tree_of}
use Rattle.json_value.specs.declared.machine.Next.{Next}
use Rattle.json_value.proofs.Oks.{if_ok_map}
use Rattle.json_value.proofs.machine.end_number.Goals as goal

pub returns : goal.returns
returns c =
    if_ok_map c.after_value.result
    (λ (r : Option Next). (n : spec.Numeral) (s : List ℕ) → option_map (state_of n s (frames_of c.after_value.new.frames.items)) r ≡ spec.step_ended (spec.ended (frames_of c.args.machine.now.frames.items) (tree_of c.number_value-value.result)) c.args.b)
    (λ (r : Option Next). option_map (state_of c.take_decimal-decimal.new.numeral (string_bytes c.args.machine.now.text) (frames_of c.after_value.new.frames.items)) r ≡ spec.step_end c.args.machine.now.numeral (frames_of c.args.machine.now.frames.items) c.args.b)
    (λ r h. h c.take_decimal-decimal.new.numeral (string_bytes c.args.machine.now.text)
    ∙ ap (λ v. spec.step_ended (spec.ended (frames_of c.args.machine.now.frames.items) v) c.args.b) (c.number_value-value.ensures ∙ ap number c.take_decimal-decimal.ensures)) c.after_value.ensures

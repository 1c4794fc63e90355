use Rattle.std.proofs.Common.{◌≡◌, ℕ, List, Option, option_map, ap, ◌∙◌}
use Rattle.json_value.specs.Machine as spec
use Rattle.json_value.specs.Seen.{frames_of, state_of}
use Rattle.json_value.specs.View.{tree_of}
use Rattle.json_value.specs.declared.machine.Next.{Next}
use Rattle.json_value.proofs.Oks.{if_ok_map}
use Rattle.json_value.proofs.machine.after_value.Goals as goal

pub returns : goal.returns
returns c =
    if_ok_map c.after_ended.result
    (λ (r : Option Next). (n : spec.Numeral) (s : List ℕ) → option_map (state_of n s (frames_of c.after_ended.new.frames.items)) r ≡ spec.step_ended (state_of n s (frames_of c.ended.new.frames.items) c.in_ok-next.next) c.args.b)
    (λ (r : Option Next). (n : spec.Numeral) (s : List ℕ) → option_map (state_of n s (frames_of c.after_ended.new.frames.items)) r ≡ spec.step_ended (spec.ended (frames_of c.args.frames.now.items) (tree_of c.args.value)) c.args.b)
    (λ r h n s. h n s ∙ ap (λ m. spec.step_ended m c.args.b) (c.in_ok-next.ensures n s)) c.after_ended.ensures

use Rattle.std.proofs.Common.{◌≡◌, ℕ, List, [], Option, option_map, sym, ap, ◌∙◌}
use Rattle.json_value.specs.Machine as spec
use Rattle.json_value.specs.Seen.{frames_of, state_of, literal_of}
use Rattle.json_value.specs.View.{tree_of}
use Rattle.json_value.specs.declared.machine.Next.{Next}
use Rattle.json_value.proofs.Oks.{if_ok_map, nil_below_one}
use Rattle.json_value.proofs.machine.after_word.Goals as goal

pub returns-in-empty : goal.returns-in-empty
returns-in-empty c =
    let nil : c.args.word.now ≡ [] = nil_below_one c.args.word.now c.in-empty.len_below in
    if_ok_map c.after_value.result
    (λ (r : Option Next). (n : spec.Numeral) (s : List ℕ) → option_map (state_of n s (frames_of c.after_value.new.frames.items)) r ≡ spec.step_ended (spec.ended (frames_of c.args.frames.now.items) (tree_of c.value.result)) c.args.b)
    (λ (r : Option Next). (n : spec.Numeral) (s : List ℕ) → option_map (state_of n s (frames_of c.after_value.new.frames.items)) r ≡ spec.step (spec.word c.args.word.now (literal_of c.args.literal) (frames_of c.args.frames.now.items)) c.args.b)
    (λ r h n s. h n s
    ∙ (ap (λ v. spec.step_ended (spec.ended (frames_of c.args.frames.now.items) v) c.args.b) c.value.ensures
    ∙ ap (λ w. spec.step (spec.word w (literal_of c.args.literal) (frames_of c.args.frames.now.items)) c.args.b) (sym nil))) c.after_value.ensures

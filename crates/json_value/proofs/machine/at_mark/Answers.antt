use Rattle.std.proofs.Common.{◌≡◌, [], Option, option_map, sym, ap, ◌∙◌}
use Rattle.json_value.specs.Machine as spec
use Rattle.json_value.specs.Seen.{frames_of, seen_with}
use Rattle.json_value.specs.declared.machine.Next.{Next}
use Rattle.json_value.proofs.Oks.{if_ok_map, nil_below_one}
use Rattle.json_value.proofs.machine.at_mark.Goals as goal

pub returns-in-empty : goal.returns-in-empty
returns-in-empty c =
    let nil : c.args.mark.now ≡ [] = nil_below_one c.args.mark.now c.in-empty.len_below in
    if_ok_map c.before_value.result
    (λ (r : Option Next). option_map (seen_with c.before_value.new.machine) r ≡ spec.step_value (frames_of c.clear.new.self.items) c.args.b)
    (λ (r : Option Next). option_map (seen_with c.before_value.new.machine) r ≡ spec.step (spec.mark c.args.mark.now) c.args.b)
    (λ r h. h ∙ (ap (λ fs. spec.step_value (frames_of fs) c.args.b) c.clear.ensures.items ∙ ap (λ ms. spec.step (spec.mark ms) c.args.b) (sym nil))) c.before_value.ensures

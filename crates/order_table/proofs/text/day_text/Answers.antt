use Rattle.std.proofs.Common.{FitsSigned, refl, rules, w32}
use Rattle.std.proofs.lemmas.Int.{to_z-of_z}
use Rattle.order_table.specs.Made.{day_of}
use Rattle.order_table.proofs.TextLemmas.{text_is}
use Rattle.order_table.proofs.text.day_text.Goals as goal

pub returns : goal.returns
returns c =
    let day = c.args.day.now in
    let number : FitsSigned w32 c.args.day.now.number = search rules in
    text_is (day_of day) day.problems c.args.entries.now c.args.night_entries.now _ _ _ refl (simp to_z-of_z at c.in_ok-text.ensures) c.in_ok-push_opens.ensures
    c.in_ok-push_night.ensures

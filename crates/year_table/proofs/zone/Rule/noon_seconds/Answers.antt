use Rattle.std.proofs.Common.{◌≡◌, ◌∙◌, ℤ, ℕ, List, arith, ap, subst, sym, w32, to_z, of_z}
use Rattle.std.specs.String.{string_bytes}
use Rattle.std.proofs.lemmas.Int.{ints, to_z-of_z}
use Rattle.jiff.specs.Words.{ambiguous_at, compatible_offset, plain_zone}
use Rattle.year_table.specs.Rules.{IsNoonOffset, noon_of}
use Rattle.year_table.proofs.RuleLemmas.{noon_offset}
use Rattle.year_table.proofs.zone.Rule.noon_seconds.Goals as goal

pub returns : goal.returns
returns c =
    let day : to_z w32 (of_z w32 c.args.day) ≡ c.args.day = to_z-of_z w32 c.args.day c.ranges.day in
    let result : to_z w32 (of_z w32 c.compatible_seconds.result) ≡ c.compatible_seconds.result = omega (arith, ints) in
    let is : c.compatible_seconds.result ≡ (compatible_offset (ambiguous_at (plain_zone c.self.inside.zone) c.noon_of.result)).seconds =
    c.compatible_seconds.ensures ∙ ap (λ a. (compatible_offset a).seconds) (c.offset-offsets.ensures ∙ c.to_ambiguous_timestamp.ensures.offsets) in
    let own : IsNoonOffset (string_bytes c.self.inside.text) c.args.day (compatible_offset (ambiguous_at (plain_zone c.self.inside.zone) c.noon_of.result)).seconds =
    noon_offset (string_bytes c.self.inside.text) (plain_zone c.self.inside.zone) c.noon_of.result c.args.day c.self.invariant.read (c.noon_of.ensures.day ∙ day) (c.noon_of.ensures.moment ∙ ap noon_of day) in
    let P : List ℕ → Type 0 = λ t. IsNoonOffset t c.args.day (compatible_offset (ambiguous_at (plain_zone c.self.inside.zone) c.noon_of.result)).seconds in
    let Q : ℤ → Type 0 = λ s. IsNoonOffset c.args.self.now c.args.day s in
    subst Q (sym (result ∙ is)) (subst P c.self.view_is own)

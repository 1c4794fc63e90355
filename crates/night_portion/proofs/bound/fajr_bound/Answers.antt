use Rattle.std.proofs.Common.{◌≡◌, ◌∙◌, pos, ◌-ℤ◌, FitsSigned, arith, rules, to_z, of_z, refl, w32, w64}
use Rattle.std.proofs.lemmas.Int.{ints, to_z-of_z}
use Rattle.night_portion.proofs.bound.fajr_bound.Goals as goal

pub returns : goal.returns
returns c =
    let s = c.args in
    let fits : FitsSigned w32 c.part_way.result = search rules in
    let from : to_z w32 (of_z w32 s.rise) ≡ s.rise = omega (arith, ints) in
    let to : to_z w32 (of_z w32 (to_z w32 (of_z w32 s.set) -ℤ pos 1440)) ≡ s.set -ℤ pos 1440 = omega (arith, ints) in
    let part : to_z w64 (of_z w64 s.a) ≡ s.a = omega (arith, ints) in
    let whole : to_z w64 (of_z w64 s.b) ≡ s.b = omega (arith, ints) in
    to_z-of_z w32 c.part_way.result fits ∙ (c.part_way.ensures ∙ rw (from, to, part, whole) refl)

use Rattle.std.proofs.Common.{◌≡◌, ◌∙◌, ap, arith, w32, w64, to_z, of_z, pos, ◌+ℤ◌, ◌-ℤ◌}
use Rattle.std.specs.Int.{int_rem_euclid}
use Rattle.std.proofs.lemmas.Int.{ints, to_z-of_z}
use Rattle.method_table.specs.Table.{minutes_east}
use Rattle.method_table.proofs.table.noon_of.Goals as goal

pub returns-clause-value : goal.returns-clause-value
returns-clause-value c =
    let outer : to_z w32 (of_z w32 (to_z w64 (of_z w64 c.rem_euclid.result))) ≡ c.rem_euclid.result = omega (arith, ints) in
    let inner : to_z w64 (of_z w64 (to_z w64 (of_z w64 (pos 720 +ℤ to_z w64 (of_z w64 (to_z w32 (of_z w32 c.args.offset))))) -ℤ to_z w64 (of_z w64 c.minutes_east.result))) ≡ (pos 720 +ℤ c.args.offset) -ℤ c.minutes_east.result = omega (arith, ints) in
    let west : to_z w64 (of_z w64 c.args.west) ≡ c.args.west = to_z-of_z w64 c.args.west c.ranges.west in
    let east : to_z w64 (of_z w64 c.args.east) ≡ c.args.east = to_z-of_z w64 c.args.east c.ranges.east in
    let minutes : c.minutes_east.result ≡ minutes_east c.args.west c.args.east = rw (← west, ← east) c.minutes_east.ensures.value in
    outer ∙ (c.rem_euclid.ensures.value ∙ ap (λ z. int_rem_euclid z (pos 1440)) (inner ∙ ap (λ z. (pos 720 +ℤ c.args.offset) -ℤ z) minutes))

use Rattle.std.proofs.Common.{FitsSigned, w64}
use Rattle.std.proofs.lemmas.Int.{to_z-of_z}
use Rattle.cell_judge.proofs.AngleLemmas.{high_fits, low_fits}
use Rattle.cell_judge.proofs.SineLemmas.{above_sine, below_sine}
use Rattle.cell_judge.proofs.sines.sine_of.Goals as goal

pub sine_between-requires : goal.sine_between-requires
sine_between-requires c =
    let range = c.requires.above c.in-Above.low c.in-Above.high c.in-Above.is in
    let low : FitsSigned w64 c.in-Above.low = low_fits _ _ range in
    let high : FitsSigned w64 c.in-Above.high = high_fits _ _ range in
    simp to_z-of_z range

pub sine_between-requires-in-Below : goal.sine_between-requires-in-Below
sine_between-requires-in-Below c =
    let range = c.requires.below c.in-Below.low c.in-Below.high c.in-Below.is in
    let low : FitsSigned w64 c.in-Below.low = low_fits _ _ range in
    let high : FitsSigned w64 c.in-Below.high = high_fits _ _ range in
    simp to_z-of_z range

pub returns-in-Above : goal.returns-in-Above
returns-in-Above c =
    let range = c.requires.above c.in-Above.low c.in-Above.high c.in-Above.is in
    let low : FitsSigned w64 c.in-Above.low = low_fits _ _ range in
    let high : FitsSigned w64 c.in-Above.high = high_fits _ _ range in
    above_sine c.args.kind c.in-Above.low c.in-Above.high _ c.in-Above.is (simp to_z-of_z at c.sine_between.ensures)

pub returns-in-Below : goal.returns-in-Below
returns-in-Below c =
    let range = c.requires.below c.in-Below.low c.in-Below.high c.in-Below.is in
    let low : FitsSigned w64 c.in-Below.low = low_fits _ _ range in
    let high : FitsSigned w64 c.in-Below.high = high_fits _ _ range in
    below_sine c.args.kind c.in-Below.low c.in-Below.high _ c.in-Below.is (simp to_z-of_z at c.sine_between-in-Below.ensures)

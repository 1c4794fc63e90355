use Rattle.std.proofs.Common.{length, arith, sym, ap, ◌∙◌}
use Rattle.ring_survey.specs.Faults.{first_fault}
use Rattle.ring_survey.proofs.Sound.{sound}
use Rattle.region.proofs.districts.District.band.Goals as goal

pub band_of-requires : goal.band_of-requires
band_of-requires c =
    let few = (sound c.args.self.now (ap first_fault (sym c.self.view_is) ∙ c.self.invariant.sound)).few in
    let same = ap length (c.as_slice.ensures.value ∙ c.self.view_is) in
    omega arith
